use Rattle.std.proofs.Common.{◌≡◌, length}
use Rattle.engine.specs.Quantum.{IsGood, MayBeGiven, given}
use Rattle.core_steps.proofs.delivery.give.Given as goal

-- what is left may be given, and comes to the same as all from the start
abbrev pub invariant-loop-message : goal.invariant-loop-message
invariant-loop-message g l = record {
  may : MayBeGiven l.inbox l.station;
  same : given l.inbox l.station ≡ given l.fn.inbox l.fn.station;
  good : IsGood l.station;
}

abbrev pub decreases-loop-message : goal.decreases-loop-message
decreases-loop-message g l = length l.inbox
