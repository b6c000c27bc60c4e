use Rattle.std.proofs.Common.{refl, ap, ◌∙◌}
use Rattle.discrete_events.specs.Simulation.{Step}
use Rattle.node.specs.Laws.{NodeModel}
use Rattle.node.proofs.EventKept.{machines_are_simulations}
use Rattle.runs_tests.proofs.events.step.Goals as goal

pub returns-clause-number : goal.returns-clause-number
returns-clause-number c = λ whole.
    let was = c.in_ok-handle_step.ensures.whole in
    let is = c.if-not-may_step.ensures.sound refl was in
    ap (λ (node : NodeModel). node.state.number) c.in_ok-handle_step.ensures.node
    ∙ (((machines_are_simulations c.args.node.now.machine is.numbers).laws.reacts c.args.node.now.state _ Step is (c.if-not-may_step.ensures.due refl was)).number
    ∙ c.requires.number was)
