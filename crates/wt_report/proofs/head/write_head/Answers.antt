use Rattle.std.proofs.Common.{codes}
use Rattle.wt_report.specs.Report.{number_line_of}
use Rattle.wt_outside.proofs.WriteLemmas.{writes_handed_on, writes_stopped, writes_then, written_by, written_then}
use Rattle.wt_report.proofs.head.write_head.Goals as goal

pub returns-in_err-write_outcome : goal.returns-in_err-write_outcome
returns-in_err-write_outcome g c =
    let head = c.args.head.now in
    writes_handed_on c.from_residual.result c.from_residual.ensures.1
    (writes_stopped (number_line_of (codes "quanta ") head.quanta)
    (writes_stopped (number_line_of (codes "time ") head.time)
    (writes_stopped (number_line_of (codes "events ") head.events) c.in_err-write_outcome.ensures)))

pub returns-in_err-write_number : goal.returns-in_err-write_number
returns-in_err-write_number g c =
    let head = c.args.head.now in
    writes_handed_on c.from_residual-in_err-write_number.result c.from_residual-in_err-write_number.ensures.1
    (writes_stopped (number_line_of (codes "quanta ") head.quanta)
    (writes_stopped (number_line_of (codes "time ") head.time)
    (writes_then (written_by c.in_ok-write_outcome.ensures) c.in_err-write_number.ensures)))

pub returns-in_err-write_number-2 : goal.returns-in_err-write_number-2
returns-in_err-write_number-2 g c =
    writes_handed_on c.from_residual-in_err-write_number-2.result c.from_residual-in_err-write_number-2.ensures.1
    (writes_stopped (number_line_of (codes "quanta ") c.args.head.now.quanta)
    (writes_then (written_then (written_by c.in_ok-write_outcome.ensures) (written_by c.in_ok-write_number.ensures))
    c.in_err-write_number-2.ensures))

pub returns : goal.returns
returns g c =
    writes_then
    (written_then (written_then (written_by c.in_ok-write_outcome.ensures) (written_by c.in_ok-write_number.ensures))
    (written_by c.in_ok-write_number-2.ensures))
    c.write_number-3.ensures
