use Rattle.std.proofs.Common.{◌-◌, length, take, flat_map}
use Rattle.wt_trace.specs.EventLine.{line_of}
use Rattle.wt_outside.proofs.WriteLemmas.{HasWritten}
use Rattle.wt_report.proofs.trace.write_events.Given as goal

-- The lines of the events so far are written.
abbrev pub invariant-loop-item : goal.invariant-loop-item
invariant-loop-item g l =
    HasWritten (flat_map (line_of l.machine) (take l.i l.events)) g.K.Sink.view l.fn.out l.out

abbrev pub decreases-loop-item : goal.decreases-loop-item
decreases-loop-item g l = length l.events - l.i
