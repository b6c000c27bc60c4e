use Rattle.std.proofs.Common.{◌≡◌, [], ◌∷◌, MatchOption, subst}
use Rattle.event_queue.specs.Cycles.{RingModel, joined}
use Rattle.event_queue.proofs.CycleLaws.{taken_from_ring}
use Rattle.event_queue.proofs.ring.Ring.pop.Goals as goal

pub invariant_of-self : goal.invariant_of-self
invariant_of-self c =
    (taken_from_ring c.take.result c.self.inside.base c.in-Some.place c.self.inside.slots c.take.new.self c.self.invariant c.in-Some.ensures c.take.ensures.rows c.take.ensures.value).ring

pub returns-in-Some-clause-value : goal.returns-in-Some-clause-value
returns-in-Some-clause-value c =
    subst (λ (ring : RingModel). MatchOption c.take.result ((ring.messages ≡ []) × (joined c.take.new.self ≡ [])) (λ message. ring.messages ≡ message ∷ joined c.take.new.self)) c.self.view_is
    (taken_from_ring c.take.result c.self.inside.base c.in-Some.place c.self.inside.slots c.take.new.self c.self.invariant c.in-Some.ensures c.take.ensures.rows c.take.ensures.value).value

pub returns-in-Some-clause-rising : goal.returns-in-Some-clause-rising
returns-in-Some-clause-rising c = (invariant_of-self c).rising
