use Rattle.std.proofs.Common.{sym, subst}
use Rattle.discrete_events.specs.Simulation.{Step}
use Rattle.node.specs.declared.state.NodeState.{NodeState}
use Rattle.node.specs.Laws.{NodeModel, MayHandle}
use Rattle.node.specs.Sound.{IsNode}
use Rattle.node.specs.State.{next_key}
use Rattle.node.proofs.EventKept.{step_sound}
use Rattle.node.proofs.node.Node.handle_step.Goals as goal

pub invariant_of-self : goal.invariant_of-self
invariant_of-self c = λ whole.
    let due = subst (λ (n : NodeModel). MayHandle n (next_key n.machine n.state) Step) (sym c.self.view_is) c.requires.due in
    (subst (λ (n : NodeState). IsNode c.self.inside.machine n) (sym c.in-Ok.ensures.node) (step_sound c.self.inside.machine c.self.inside.state _ (c.self.invariant whole).0 (due whole)), c.in-Ok.ensures.none_left)
