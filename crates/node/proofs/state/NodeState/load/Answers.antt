use Rattle.rv_exec.specs.Widths.{load_width_of}
use Rattle.node.proofs.Memory.{load_outside}
use Rattle.node.proofs.state.NodeState.load.Goals as goal

pub shared_load-requires-clause-aligned : goal.shared_load-requires-clause-aligned
shared_load-requires-clause-aligned c = load_outside c.args.self.now.private c.args.address (load_width_of c.args.op) cc
