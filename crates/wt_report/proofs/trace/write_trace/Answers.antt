use Rattle.std.proofs.Common.{flat_map, ap, subst, sym}
use Rattle.std.specs.Prelude.{All}
use Rattle.wt_trace.specs.EventLine.{RecordFits, line_of}
use Rattle.wt_report.proofs.TraceLemmas.{events_fit}
use Rattle.wt_outside.proofs.WriteLemmas.{writes_same}
use Rattle.wt_report.proofs.trace.write_trace.Goals as goal

pub write_events-requires : goal.write_events-requires
write_events-requires g c =
    subst (All (RecordFits c.args.machine.now)) (sym c.in_ok-events.ensures.events) (events_fit c.args.machine.now c.args.stations.now c.requires c.in_ok-events.ensures.live)

pub returns : goal.returns
returns g c = writes_same c.write_events.result (ap (flat_map (line_of c.args.machine.now)) c.in_ok-events.ensures.events) c.write_events.ensures
