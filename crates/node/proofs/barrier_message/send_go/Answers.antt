use Rattle.std.proofs.Common.{ℕ, ap, sym, ◌∙◌, ◌++◌, ◌∷◌, [], append_assoc}
use Rattle.node.specs.declared.state.Send.{Send}
use Rattle.node.specs.Handled.{message_to}
use Rattle.node.specs.BarrierMessage.{go_to}
use Rattle.std.specs.Prelude.{take}
use Rattle.wt_proto.specs.declared.message.Body.TheVariants.{Go}
use Rattle.node.proofs.Sends.{map_more, all_taken}
use Rattle.node.proofs.barrier_message.send_go.Goals as goal

pub loop-node-preserved : goal.loop-node-preserved
loop-node-preserved c =
    let go : ℕ → Send = λ node. message_to c.args.time node 0 Go in
    c.in_ok-send_to.ensures
    ∙ ap (λ sends. sends ++ go c.in-Some.node ∷ []) c.loop-node.invariant
    ∙ append_assoc c.args.sends.now (go_to c.args.time (take c.loop-node.i c.args.nodes.now)) (go c.in-Some.node ∷ [])
    ∙ ap (λ sends. c.args.sends.now ++ sends) (sym (map_more go c.args.nodes.now c.loop-node.i c.in-Some.node (sym c.get.ensures ∙ c.in-Some.is)))

pub returns : goal.returns
returns c =
    c.loop-node.invariant
    ∙ ap (λ nodes. c.args.sends.now ++ go_to c.args.time nodes) (all_taken c.args.nodes.now c.loop-node.i (sym c.get.ensures ∙ c.in_default.is))
