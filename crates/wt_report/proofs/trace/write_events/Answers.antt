use Rattle.std.proofs.Common.{Ok, flat_map, ap, sym, ◌∙◌}
use Rattle.std.specs.Option.{option_copied}
use Rattle.std.proofs.lemmas.Option.{slice_get_within, get_or_from_slice_get}
use Rattle.wt_trace.specs.EventLine.{RecordFits, line_of}
use Rattle.wt_trace.proofs.Walks.{all_taken, holds_at}
use Rattle.wt_outside.proofs.WriteLemmas.{writes_done, writes_handed_on, writes_same, writes_until, written_more}
use Rattle.wt_report.proofs.trace.write_events.Goals as goal

pub write_event-requires : goal.write_event-requires
write_event-requires g c =
    holds_at (RecordFits c.args.machine.now) c.args.events.now c.loop-item.i c.in-Some.item.now (sym c.get.ensures ∙ ap option_copied c.in-Some.is) c.requires

pub returns-in_err-write_event : goal.returns-in_err-write_event
returns-in_err-write_event g c =
    let events = c.args.events.now in
    let i = c.loop-item.i in
    let item = c.in-Some.item.now in
    let at = sym c.get.ensures ∙ ap option_copied c.in-Some.is in
    writes_handed_on c.from_residual.result c.from_residual.ensures.1
    (writes_until (line_of c.args.machine.now) events i item (slice_get_within events i item at)
    (sym (get_or_from_slice_get events i item item at)) c.loop-item.invariant c.in_err-write_event.ensures)

pub loop-item-preserved : goal.loop-item-preserved
loop-item-preserved g c =
    let events = c.args.events.now in
    let i = c.loop-item.i in
    let item = c.in-Some.item.now in
    let at = sym c.get.ensures ∙ ap option_copied c.in-Some.is in
    written_more (line_of c.args.machine.now) events i item (slice_get_within events i item at)
    (sym (get_or_from_slice_get events i item item at)) c.loop-item.invariant c.in_ok-write_event.ensures

pub returns : goal.returns
returns g c =
    writes_same (Ok tt)
    (ap (flat_map (line_of c.args.machine.now)) (all_taken c.args.events.now c.loop-item.i (sym c.get.ensures ∙ ap option_copied c.in_default.is)))
    (writes_done c.loop-item.invariant)
