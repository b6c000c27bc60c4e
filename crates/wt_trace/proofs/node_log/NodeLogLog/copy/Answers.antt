use Rattle.std.proofs.Common.{◌++◌, ◌∷◌, [], ap, sym, ◌∙◌}
use Rattle.std.specs.Prelude.{slice_get}
use Rattle.std.specs.Option.{option_copied}
use Rattle.wt_trace.specs.declared.record.Record.{Record}
use Rattle.wt_trace.proofs.Walks.{copied_more, copied_all}
use Rattle.wt_trace.proofs.node_log.NodeLogLog.copy.Goals as goal

pub loop-item-preserved : goal.loop-item-preserved
loop-item-preserved c =
    copied_more c.args.self.now c.loop-item.list c.push.new.self c.in-Some.item.now c.loop-item.invariant
    (ap (slice_get c.args.self.now) (sym c.len.ensures) ∙ sym c.get.ensures ∙ ap option_copied c.in-Some.is)
    (c.in_ok-push.ensures.ok ∙ ap (λ (m : Record). c.loop-item.list ++ m ∷ []) c.in_ok-copy.ensures)

pub returns : goal.returns
returns c =
    copied_all c.args.self.now c.loop-item.list c.loop-item.invariant
    (ap (slice_get c.args.self.now) (sym c.len.ensures) ∙ sym c.get.ensures ∙ ap option_copied c.in_default.is)
