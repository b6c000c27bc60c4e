use Rattle.std.proofs.Common.{arith}
use Rattle.node.proofs.Traps.{few_cycles}
use Rattle.node.proofs.state.NodeState.trap.Goals as goal

pub overflow_add-self-2 : goal.overflow_add-self-2
overflow_add-self-2 c =
    let few = few_cycles c.args.machine.now c.args.plan.now c.requires.numbers in
    omega (arith, c.in_ok-busy.ensures.busy, c.max-begins.ensures)
