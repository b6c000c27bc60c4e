use Rattle.std.proofs.Common.{arith}
use Rattle.wt_proto.proofs.NodeSetLaws.{members-insert}
use Rattle.wt_proto.proofs.node_set.NodeSet.insert.Goals as goal

pub returns : goal.returns
returns c = rw (← c.self.view_is) (members-insert c.self.inside.words 256 c.args.node (omega arith) (omega arith))
