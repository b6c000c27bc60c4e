use Rattle.std.proofs.Common.{◌+◌, ap, sym, ◌∙◌, ◌++◌, ◌∷◌, [], append_assoc}
use Rattle.std.specs.Prelude.{take}
use Rattle.std.specs.Option.{option_copied}
use Rattle.wt_proto.specs.declared.message.Stamped.{Stamped}
use Rattle.node.specs.React.{stamped, stamped_from}
use Rattle.node.proofs.Sends.{stamped_more, all_taken}
use Rattle.node.proofs.event.stamp_all.Goals as goal

pub loop-send-preserved : goal.loop-send-preserved
loop-send-preserved c =
    let one = stamped c.args.machine.now c.args.from (c.args.sequence + c.loop-send.i) c.in-Some.send.now in
    c.in_ok-push.ensures.ok
    ∙ ap (λ (m : Stamped). c.loop-send.out ++ m ∷ []) c.stamp_one.ensures
    ∙ ap (λ sends. sends ++ one ∷ []) c.loop-send.invariant
    ∙ append_assoc c.args.out.now (stamped_from c.args.machine.now c.args.from c.args.sequence (take c.loop-send.i c.args.sends.now)) (one ∷ [])
    ∙ ap (λ sends. c.args.out.now ++ sends)
    (sym (stamped_more c.args.machine.now c.args.from c.args.sequence c.args.sends.now c.loop-send.i c.in-Some.send.now (sym c.get.ensures ∙ ap option_copied c.in-Some.is)))

pub returns : goal.returns
returns c =
    c.loop-send.invariant
    ∙ ap (λ sends. c.args.out.now ++ stamped_from c.args.machine.now c.args.from c.args.sequence sends)
    (all_taken c.args.sends.now c.loop-send.i (sym c.get.ensures ∙ ap option_copied c.in_default.is))
