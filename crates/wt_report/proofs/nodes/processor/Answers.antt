use Rattle.std.proofs.Common.{◌≡◌, ◌++◌, codes, decimal, ap, ◌∙◌}
use Rattle.std.proofs.lemmas.Result.{on_ok_weaker}
use Rattle.wt_text.specs.Text.{hex_of}
use Rattle.wt_report.specs.Report.{state_text, processor_text}
use Rattle.wt_report.proofs.Appends.{three_texts}
use Rattle.wt_report.proofs.nodes.processor.Goals as goal

pub returns : goal.returns
returns c =
    let m = c.args.machine.now in
    let same : state_text m c.mode.result.now ++ (codes " pc " ++ hex_of c.pc.result) ++ (codes " clock " ++ decimal c.clock.result) ≡ processor_text m c.args.node.now.state =
    λ i. state_text m (c.mode.ensures.value i) ++ (codes " pc " ++ hex_of (c.pc.ensures i)) ++ (codes " clock " ++ decimal (c.clock.ensures i)) in
    on_ok_weaker c.entry.result (λ third. three_texts _ _ _ _ _ _ _ c.in_ok-state.ensures c.in_ok-entry_hex.ensures third ∙ ap (λ t. c.args.line.now ++ t) same) c.entry.ensures
