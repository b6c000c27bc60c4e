use Rattle.wt_report.specs.Report.{count_line_of, out_line_of}
use Rattle.wt_outside.proofs.WriteLemmas.{writes_handed_on, writes_stopped, writes_then, written_by, written_then}
use Rattle.wt_report.proofs.nodes.write_node.Goals as goal

pub returns-in_err-write_processor : goal.returns-in_err-write_processor
returns-in_err-write_processor g c =
    let node = c.args.node.now.state in
    writes_handed_on c.from_residual.result c.from_residual.ensures.1
    (writes_stopped (out_line_of c.args.place node)
    (writes_stopped (count_line_of c.args.place node) c.in_err-write_processor.ensures))

pub returns-in_err-write_counts : goal.returns-in_err-write_counts
returns-in_err-write_counts g c =
    writes_handed_on c.from_residual-in_err-write_counts.result c.from_residual-in_err-write_counts.ensures.1
    (writes_stopped (out_line_of c.args.place c.args.node.now.state)
    (writes_then (written_by c.in_ok-write_processor.ensures) c.in_err-write_counts.ensures))

pub returns : goal.returns
returns g c =
    writes_then (written_then (written_by c.in_ok-write_processor.ensures) (written_by c.in_ok-write_counts.ensures))
    c.write_output.ensures
