use Rattle.std.proofs.Common.{[], ap, sym, subst, ◌∙◌}
use Rattle.event_queue.specs.Cycles.{IsRing, joined}
use Rattle.event_queue.proofs.CycleLaws.{joined-padded, ring_none}
use Rattle.event_queue.proofs.ring.Ring.new.Goals as goal

pub invariant_of-result : goal.invariant_of-result
invariant_of-result c = subst (IsRing 0) (sym c.new.ensures) (ring_none 0)

pub returns : goal.returns
returns c = ap joined c.new.ensures ∙ joined-padded []
