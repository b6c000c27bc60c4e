use Rattle.std.proofs.Common.{◌≡◌, ◌<◌, ℕ, true, false, get_or}
use Rattle.core_steps.proofs.marks.first_not_done.Given as goal

abbrev pub invariant-loop-node : goal.invariant-loop-node
invariant-loop-node l = (other : ℕ) → other < l.node → get_or l.done other false ≡ true
