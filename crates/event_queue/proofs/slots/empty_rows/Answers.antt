use Rattle.std.proofs.Common.{◌≡◌, List, [], replicate, ap, ◌∙◌, arith}
use Rattle.wt_proto.specs.declared.message.Stamped.{Stamped}
use Rattle.event_queue.proofs.CycleLaws.{padded_none}
use Rattle.event_queue.proofs.slots.empty_rows.Goals as goal

pub returns : goal.returns
returns c =
    let all : c.loop-place._place ≡ 256 = omega arith in
    padded_none c.loop-place.rows.items (c.loop-place.invariant ∙ ap (λ n. replicate {A = List Stamped} n []) all)
