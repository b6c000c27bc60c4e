use Rattle.std.proofs.Common.{◌≡◌, ◌≤◌, ◌+◌, ◌*◌, drop}
use Rattle.gen_load.specs.Assembly.{place_of}
use Rattle.gen_load.proofs.assembly.place.Given as goal

-- What stands before the line, and the place counted from it on, are the place.
abbrev pub invariant-loop-line : goal.invariant-loop-line
invariant-loop-line l = record {
  rest : l.before + place_of l.label (drop l.line-index l.listing) ≡ place_of l.label l.listing;
  bound : l.before ≤ 4 * l.line-index;
}
