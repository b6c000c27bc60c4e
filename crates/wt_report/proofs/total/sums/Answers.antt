use Rattle.std.proofs.Common.{◌≡◌, ◌++◌, ap, ◌∙◌}
use Rattle.std.proofs.lemmas.Result.{on_ok_weaker}
use Rattle.wt_stats.specs.Counts.{counter_names, values_of}
use Rattle.wt_report.specs.Report.{counts_text, totals_text}
use Rattle.wt_report.proofs.total.sums.Goals as goal

pub returns : goal.returns
returns c =
    let same : counts_text counter_names c.values.result ≡ totals_text c.args.list.now =
    ap (counts_text counter_names) (c.values.ensures ∙ ap values_of c.totals.ensures) in
    on_ok_weaker c.counts.result (λ added. added ∙ ap (λ t. c.args.line.now ++ t) same) c.counts.ensures
