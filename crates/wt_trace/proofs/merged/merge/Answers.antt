use Rattle.std.proofs.Common.{rules, map, ap, ◌∙◌}
use Rattle.std.proofs.lemmas.List.Sorted.{answers_always}
use Rattle.std.proofs.lemmas.Result.{IfOk-weaker}
use Rattle.wt_trace.proofs.MergeLaws.{sorted_references}
use Rattle.wt_trace.proofs.merged.merge.Goals as goal

pub returns : goal.returns
returns c =
    let computes = answers_always _ _ _ (λ f a r g h. search rules) in
    let merged = sorted_references c.args.logs.now c.in_ok-items.items.items c.sort_by_key.new.self.items c.in_ok-items.ensures
    (c.in_ok-sort_by_key.ensures.sorted (λ item. item.now.key) computes)
    (c.sort_by_key.ensures.stable (λ item. item.now.key) computes) in
    IfOk-weaker c.copies.result _ _ (λ log copied. copied ∙ ap (map (λ item. item.now)) c.deref.ensures.value ∙ merged) c.copies.ensures
