use Rattle.std.proofs.Common.{Bool, cond, sym, ap, ◌∙◌}
use Rattle.event_queue.specs.Rising.{peek_of}
use Rattle.event_queue.specs.Merging.{is_sooner}
use Rattle.event_queue.proofs.MergeLaws.{peek-merged}
use Rattle.event_queue.proofs.queue.Queue.peek.Goals as goal

pub returns-then-is_sooner-clause-value : goal.returns-then-is_sooner-clause-value
returns-then-is_sooner-clause-value g c =
    let near = c.self.inside.ring.messages in
    let far = c.self.inside.far in
    c.peek-near.ensures.value
    ∙ ap (λ (b : Bool). cond b (peek_of near) (peek_of far)) (sym c.if-is_sooner.true ∙ c.is_sooner.ensures ∙ ap (λ key. is_sooner key c.peek-far.result) c.peek-near.ensures.value ∙ ap (is_sooner (peek_of near)) c.peek-far.ensures.value)
    ∙ sym (peek-merged near far c.peek-near.ensures.rising c.peek-far.ensures.rising c.self.invariant.apart)
    ∙ ap peek_of c.self.view_is

pub returns-else-is_sooner-clause-value : goal.returns-else-is_sooner-clause-value
returns-else-is_sooner-clause-value g c =
    let near = c.self.inside.ring.messages in
    let far = c.self.inside.far in
    c.peek-far.ensures.value
    ∙ ap (λ (b : Bool). cond b (peek_of near) (peek_of far)) (sym c.if-is_sooner.false ∙ c.is_sooner.ensures ∙ ap (λ key. is_sooner key c.peek-far.result) c.peek-near.ensures.value ∙ ap (is_sooner (peek_of near)) c.peek-far.ensures.value)
    ∙ sym (peek-merged near far c.peek-near.ensures.rising c.peek-far.ensures.rising c.self.invariant.apart)
    ∙ ap peek_of c.self.view_is
