use Rattle.wt_report.specs.Memory.{private_text}
use Rattle.wt_outside.proofs.WriteLemmas.{writes_handed_on, writes_stopped, writes_then, written_by}
use Rattle.wt_report.proofs.memory.write_node.Goals as goal

pub returns-in_err-write_registers : goal.returns-in_err-write_registers
returns-in_err-write_registers g c =
    writes_handed_on c.from_residual.result c.from_residual.ensures.1
    (writes_stopped (private_text (c.args.place, c.args.node.now.state)) c.in_err-write_registers.ensures)

pub returns : goal.returns
returns g c = writes_then (written_by c.in_ok-write_registers.ensures) c.write_private.ensures
