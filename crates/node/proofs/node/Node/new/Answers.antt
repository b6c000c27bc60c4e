use Rattle.node.proofs.StartKept.{start_is_node}
use Rattle.node.proofs.node.Node.new.Goals as goal

pub invariant_of-result : goal.invariant_of-result
invariant_of-result c = λ whole. (
  start_is_node c.args.machine.now c.args.loaded.now c.args.traced c.args.number c.in_ok-state.state c.in_ok-state.ensures.start c.new.ensures.numbers c.requires.images c.requires.number c.new.ensures.program
      c.in_ok-state.ensures.size c.in_ok-state.ensures.homes,
  c.new-2.ensures,
)

pub returns-clause-sound : goal.returns-clause-sound
returns-clause-sound c =
    start_is_node c.args.machine.now c.args.loaded.now c.args.traced c.args.number c.in_ok-state.state c.in_ok-state.ensures.start c.new.ensures.numbers c.requires.images c.requires.number c.new.ensures.program
    c.in_ok-state.ensures.size c.in_ok-state.ensures.homes
