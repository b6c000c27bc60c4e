use Rattle.node.proofs.Barriers.{few_arrive}
use Rattle.node.proofs.state.NodeState.arrive_message.Goals as goal

pub release-requires-clause-few : goal.release-requires-clause-few
release-requires-clause-few c =
    rw c.arrive-release.ensures.release (few_arrive c.args.machine.now c.args.self.now.barrier c.args.from c.requires.node.numbers c.requires.node.barrier c.requires.from)
