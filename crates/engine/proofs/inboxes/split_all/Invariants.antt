use Rattle.std.proofs.Common.{◌≡◌, ◌++◌, map, take, drop}
use Rattle.engine.specs.Inboxes.{lower_part, upper_part}
use Rattle.engine.proofs.inboxes.split_all.Given as goal

-- the passes so far are cut, and their upper parts are in the list
abbrev pub invariant-loop-place : goal.invariant-loop-place
invariant-loop-place l = record {
  lower : l.passes ≡ map (lower_part l.mid) (take l.place l.fn.passes) ++ drop l.place l.fn.passes;
  upper : l.uppers.items ≡ map (upper_part l.mid) (take l.place l.fn.passes);
}
