use Rattle.std.proofs.Common.{ap, sym, ◌∙◌}
use Rattle.event_queue.specs.Rising.{peek_of}
use Rattle.event_queue.specs.Cycles.{RingModel}
use Rattle.event_queue.proofs.CycleLaws.{peek-joined}
use Rattle.event_queue.proofs.ring.Ring.peek.Goals as goal

pub returns-in-Some-clause-value : goal.returns-in-Some-clause-value
returns-in-Some-clause-value c =
    c.peek.ensures
    ∙ sym (peek-joined c.self.inside.slots c.in-Some.place c.self.invariant.all c.in-Some.ensures)
    ∙ ap (λ (ring : RingModel). peek_of ring.messages) c.self.view_is
