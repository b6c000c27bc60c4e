use Rattle.std.proofs.Common.{◌≡◌, ◌≤◌, [], length, take}
use Rattle.std.specs.List.{fold}
use Rattle.gen_load.specs.Assembly.{with_line}
use Rattle.gen_load.proofs.assembly.instructions.Given as goal

-- The instructions of the lines so far are there.
abbrev pub invariant-loop-line : goal.invariant-loop-line
invariant-loop-line l = record {
  made : l.instrs.items ≡ fold (with_line l.listing) [] (take l.line-index l.listing);
  short : length l.instrs.items ≤ l.line-index;
}
