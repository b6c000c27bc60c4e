use Rattle.std.proofs.Common.{◌++◌, codes, append_assoc, ap, sym, ◌∙◌}
use Rattle.std.proofs.lemmas.Result.{on_ok_weaker}
use Rattle.wt_trace.specs.Text.{block_text}
use Rattle.wt_report.specs.Report.{state_text}
use Rattle.wt_report.proofs.nodes.state.Goals as goal

pub returns-in_ok-text-in-Waiting : goal.returns-in_ok-text-in-Waiting
returns-in_ok-text-in-Waiting c =
    let address = block_text c.args.machine.now c.in-Waiting.block in
    on_ok_weaker c.add_block.result
    (λ second. second
    ∙ ap (λ line. line ++ address) c.in_ok-text-in-Waiting.ensures
    ∙ append_assoc c.args.line.now (codes "waiting ") address
    ∙ ap (λ mode. c.args.line.now ++ state_text c.args.machine.now mode) (sym c.in-Waiting.is))
    c.add_block.ensures
