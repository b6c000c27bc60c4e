use Rattle.std.proofs.Common.{ap, ◌∙◌}
use Rattle.std.proofs.lemmas.Result.{IfOk-weaker}
use Rattle.wt_trace.specs.Merged.{merge_of}
use Rattle.wt_report.proofs.trace.merged.Goals as goal

pub returns-clause-events : goal.returns-clause-events
returns-clause-events c =
    IfOk-weaker c.merge.result _ _ (λ log is. is ∙ ap merge_of (c.deref.ensures.value ∙ c.in_ok-logs.ensures.logs)) c.merge.ensures
