use Rattle.std.proofs.Common.{sym, subst}
use Rattle.discrete_events.specs.Simulation.{Arrival}
use Rattle.wt_proto.specs.Messages.{key_of}
use Rattle.node.specs.declared.state.NodeState.{NodeState}
use Rattle.node.specs.Laws.{NodeModel, MayHandle}
use Rattle.node.specs.React.{message_under_key}
use Rattle.node.specs.Sound.{IsNode}
use Rattle.node.proofs.EventKept.{message_sound}
use Rattle.node.proofs.node.Node.handle_message.Goals as goal

pub invariant_of-self : goal.invariant_of-self
invariant_of-self c = λ whole.
    let due = subst (λ (n : NodeModel). MayHandle n (key_of c.args.message.now) (Arrival (message_under_key c.args.message.now))) (sym c.self.view_is) c.requires.due in (
      subst (λ (n : NodeState). IsNode c.self.inside.machine n) (sym c.in-Ok.ensures.node)
          (message_sound c.self.inside.machine c.self.inside.state (key_of c.args.message.now) (message_under_key c.args.message.now) (c.self.invariant whole).0 (due whole)),
      c.in-Ok.ensures.none_left,
    )
