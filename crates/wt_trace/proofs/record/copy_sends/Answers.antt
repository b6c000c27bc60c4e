use Rattle.std.proofs.Common.{◌++◌, ◌∷◌, [], ap, sym, ◌∙◌}
use Rattle.std.specs.Prelude.{slice_get}
use Rattle.std.specs.Option.{option_copied}
use Rattle.wt_proto.specs.declared.message.Stamped.{Stamped}
use Rattle.wt_trace.proofs.Walks.{copied_more, copied_all}
use Rattle.wt_trace.proofs.record.copy_sends.Goals as goal

pub loop-item-preserved : goal.loop-item-preserved
loop-item-preserved c =
    copied_more c.args.sends.now c.loop-item.list c.push.new.self c.in-Some.item.now c.loop-item.invariant
    (ap (slice_get c.args.sends.now) (sym c.len.ensures) ∙ sym c.get.ensures ∙ ap option_copied c.in-Some.is)
    (c.in_ok-push.ensures.ok ∙ ap (λ (m : Stamped). c.loop-item.list ++ m ∷ []) c.copy.ensures)

pub returns : goal.returns
returns c =
    copied_all c.args.sends.now c.loop-item.list c.loop-item.invariant
    (ap (slice_get c.args.sends.now) (sym c.len.ensures) ∙ sym c.get.ensures ∙ ap option_copied c.in_default.is)
