use Rattle.std.proofs.Common.{◌++◌, ◌∷◌, [], map, take, ap, sym, ◌∙◌, append_assoc}
use Rattle.std.specs.Borrow.{Bor}
use Rattle.std.specs.Option.{option_copied}
use Rattle.std.proofs.lemmas.List.{map-append}
use Rattle.wt_trace.specs.declared.record.Record.{Record}
use Rattle.wt_trace.proofs.Walks.{take_next, all_taken}
use Rattle.wt_trace.proofs.merged.add_records.Goals as goal

pub loop-item-preserved : goal.loop-item-preserved
loop-item-preserved c =
    let read : Bor Record → Record = λ item. item.now in
    let before = map read c.args.items.now.items in
    ap (map read) c.in_ok-push.ensures.items
    ∙ map-append read c.loop-item.items.items (c.in-Some.item ∷ [])
    ∙ ap (λ items. items ++ c.in-Some.item.now ∷ []) c.loop-item.invariant
    ∙ append_assoc before (take c.loop-item.i c.args.log.now) (c.in-Some.item.now ∷ [])
    ∙ ap (λ items. before ++ items) (sym (take_next c.args.log.now c.loop-item.i c.in-Some.item.now (sym c.get.ensures ∙ ap option_copied c.in-Some.is)))

pub returns : goal.returns
returns c =
    c.loop-item.invariant
    ∙ ap (λ items. map (λ item. item.now) c.args.items.now.items ++ items) (all_taken c.args.log.now c.loop-item.i (sym c.get.ensures ∙ ap option_copied c.in_default.is))
