use Rattle.wt_report.proofs.TraceOrder.{trace_is_serial}
use Rattle.wt_report.proofs.trace.traces_are_serial.Goals as goal

pub returns : goal.returns
returns c = trace_is_serial
