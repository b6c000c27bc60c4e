use Rattle.node.proofs.Barriers.{few_leave}
use Rattle.node.proofs.state.NodeState.leave_message.Goals as goal

pub release-requires-clause-few : goal.release-requires-clause-few
release-requires-clause-few c =
    rw c.leave-release.ensures.release (few_leave c.args.machine.now c.args.self.now.barrier c.args.from c.requires.node.numbers c.requires.node.barrier)
