use Rattle.std.proofs.Common.{◌≡◌, List, [], MatchOption, subst}
use Rattle.wt_proto.specs.declared.message.Stamped.{Stamped}
use Rattle.event_queue.specs.Cycles.{IsFirstFilled, joined}
use Rattle.event_queue.proofs.CycleLaws.{first_row}
use Rattle.event_queue.proofs.slots.Slots.first.Goals as goal

pub returns : goal.returns
returns c =
    subst (λ (rows : List (List Stamped)). MatchOption c.first.result (joined rows ≡ []) (λ place. IsFirstFilled place rows)) c.self.view_is
    (first_row c.first.result c.self.inside.rows.items c.self.inside.occupied c.self.invariant c.first.ensures)
