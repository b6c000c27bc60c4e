use Rattle.std.proofs.Common.{◌≡◌, ◌++◌, length}
use Rattle.core_steps.proofs.sent.append.Given as goal

-- what is put at the end so far, with what is left
abbrev pub invariant-loop-message : goal.invariant-loop-message
invariant-loop-message l = l.list ++ l.others ≡ l.fn.list ++ l.fn.others

abbrev pub decreases-loop-message : goal.decreases-loop-message
decreases-loop-message l = length l.others
