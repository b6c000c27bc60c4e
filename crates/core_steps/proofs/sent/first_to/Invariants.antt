use Rattle.core_steps.specs.Sent.{HaveNone}
use Rattle.core_steps.proofs.sent.first_to.Given as goal

abbrev pub invariant-loop-to : goal.invariant-loop-to
invariant-loop-to l = HaveNone l.to l.list
