use Rattle.std.proofs.Common.{refl, ap, ◌∙◌}
use Rattle.discrete_events.specs.Simulation.{Arrival}
use Rattle.node.specs.Laws.{NodeModel}
use Rattle.node.specs.React.{message_under_key}
use Rattle.node.proofs.EventKept.{machines_are_simulations}
use Rattle.runs_tests.proofs.events.hear.Goals as goal

pub returns-clause-number : goal.returns-clause-number
returns-clause-number c = λ whole.
    let was = c.in_ok-handle_message.ensures.whole in
    let is = c.if-not-may_hear.ensures.sound refl was in
    ap (λ (node : NodeModel). node.state.number) c.in_ok-handle_message.ensures.node
    ∙ (((machines_are_simulations c.args.node.now.machine is.numbers).laws.reacts c.args.node.now.state _ (Arrival (message_under_key c.args.message.now)) is (c.if-not-may_hear.ensures.due refl was)).number
    ∙ c.requires.number was)
