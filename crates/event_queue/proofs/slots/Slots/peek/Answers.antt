use Rattle.std.proofs.Common.{◌≡◌, ◌<◌, ◌≤◌, List, get_or, length, sym, subst, ap, ◌∙◌}
use Rattle.wt_proto.specs.declared.message.Stamped.{Stamped}
use Rattle.event_queue.specs.Rising.{peek_of}
use Rattle.event_queue.proofs.CycleLaws.{no_peek, row_is}
use Rattle.event_queue.proofs.slots.Slots.peek.Goals as goal

pub returns-in-None : goal.returns-in-None
returns-in-None c =
    let past = subst (λ (rows : List (List Stamped)). length rows ≤ c.args.place) c.deref.ensures.value c.in-None.ensures.lookup.3 in
    ap peek_of (sym (no_peek c.self.inside.rows.items c.args.self.now c.args.place c.self.view_is past))

pub returns-in-Some : goal.returns-in-Some
returns-in-Some c =
    let row = c.in-Some.row.now in
    let within = subst (λ (rows : List (List Stamped)). c.args.place < length rows) c.deref.ensures.value c.in-Some.ensures.lookup.3.0 in
    let is = subst (λ (rows : List (List Stamped)). row ≡ get_or rows c.args.place row) c.deref.ensures.value c.in-Some.ensures.lookup.1 in
    c.peek.ensures.value ∙ ap peek_of (row_is c.self.inside.rows.items c.args.self.now c.args.place row c.self.view_is within is)
