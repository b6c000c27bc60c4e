use Rattle.std.proofs.Common.{◌≡◌, List, [], ◌∷◌, MatchOption, sym, ap, subst, ◌∙◌}
use Rattle.wt_proto.specs.declared.message.Stamped.{Stamped}
use Rattle.event_queue.specs.Rising.{peek_of}
use Rattle.event_queue.specs.Merging.{is_sooner, merged}
use Rattle.event_queue.proofs.MergeLaws.{taken_near, taken_far}
use Rattle.event_queue.proofs.queue.Queue.take.Goals as goal

pub invariant_of-self : goal.invariant_of-self
invariant_of-self g c =
    (taken_near c.pop.result c.self.inside.ring.messages c.self.inside.far c.pop.new.self.messages c.self.invariant c.peek.ensures.rising c.peek-2.ensures.rising (sym (ap (λ key. is_sooner key (peek_of c.self.inside.far)) c.peek.ensures.value) ∙ sym (ap (is_sooner c.peek.result) c.peek-2.ensures.value) ∙ sym c.is_sooner.ensures ∙ c.if-is_sooner.true) c.pop.ensures.value).parts

pub returns-then-is_sooner-clause-value : goal.returns-then-is_sooner-clause-value
returns-then-is_sooner-clause-value g c =
    subst (λ (queue : List Stamped). MatchOption c.pop.result ((queue ≡ []) × (merged c.pop.new.self.messages c.self.inside.far ≡ [])) (λ message. queue ≡ message ∷ merged c.pop.new.self.messages c.self.inside.far)) c.self.view_is
    (taken_near c.pop.result c.self.inside.ring.messages c.self.inside.far c.pop.new.self.messages c.self.invariant c.peek.ensures.rising c.peek-2.ensures.rising (sym (ap (λ key. is_sooner key (peek_of c.self.inside.far)) c.peek.ensures.value) ∙ sym (ap (is_sooner c.peek.result) c.peek-2.ensures.value) ∙ sym c.is_sooner.ensures ∙ c.if-is_sooner.true) c.pop.ensures.value).value

pub returns-then-is_sooner-clause-rising : goal.returns-then-is_sooner-clause-rising
returns-then-is_sooner-clause-rising g c = (invariant_of-self g c).rising

pub invariant_of-self-else-is_sooner : goal.invariant_of-self-else-is_sooner
invariant_of-self-else-is_sooner g c =
    (taken_far c.pop-else-is_sooner.result c.self.inside.ring.messages c.self.inside.far c.pop-else-is_sooner.new.self c.self.invariant c.peek.ensures.rising (sym (ap (λ key. is_sooner key (peek_of c.self.inside.far)) c.peek.ensures.value) ∙ sym (ap (is_sooner c.peek.result) c.peek-2.ensures.value) ∙ sym c.is_sooner.ensures ∙ c.if-is_sooner.false) c.pop-else-is_sooner.ensures.value).parts

pub returns-else-is_sooner-clause-value : goal.returns-else-is_sooner-clause-value
returns-else-is_sooner-clause-value g c =
    subst (λ (queue : List Stamped). MatchOption c.pop-else-is_sooner.result ((queue ≡ []) × (merged c.self.inside.ring.messages c.pop-else-is_sooner.new.self ≡ [])) (λ message. queue ≡ message ∷ merged c.self.inside.ring.messages c.pop-else-is_sooner.new.self)) c.self.view_is
    (taken_far c.pop-else-is_sooner.result c.self.inside.ring.messages c.self.inside.far c.pop-else-is_sooner.new.self c.self.invariant c.peek.ensures.rising (sym (ap (λ key. is_sooner key (peek_of c.self.inside.far)) c.peek.ensures.value) ∙ sym (ap (is_sooner c.peek.result) c.peek-2.ensures.value) ∙ sym c.is_sooner.ensures ∙ c.if-is_sooner.false) c.pop-else-is_sooner.ensures.value).value

pub returns-else-is_sooner-clause-rising : goal.returns-else-is_sooner-clause-rising
returns-else-is_sooner-clause-rising g c = (invariant_of-self-else-is_sooner g c).rising
