use Rattle.std.proofs.Common.{◌≡◌, ◌++◌, length}
use Rattle.core_steps.specs.Sent.{HasNone}
use Rattle.core_steps.proofs.sent.take_first.Given as goal

-- what was passed over, with what is left, is the list, and none of it is to the node
abbrev pub invariant-loop-message : goal.invariant-loop-message
invariant-loop-message l = record {
  whole : l.before ++ l.list ≡ l.fn.list;
  none : HasNone l.to l.before;
}

abbrev pub decreases-loop-message : goal.decreases-loop-message
decreases-loop-message l = length l.list
