use Rattle.std.proofs.Common.{sym, ◌∙◌, arith}
use Rattle.std.proofs.lemmas.Bool.Decides.{nat_tests}
use Rattle.wt_proto.proofs.NodeSetLaws.{members-has, members-past}
use Rattle.wt_proto.proofs.node_set.NodeSet.contains.Goals as goal

pub returns-then-node-lt-MOST_NODES : goal.returns-then-node-lt-MOST_NODES
returns-then-node-lt-MOST_NODES c = rw (← c.self.view_is) (c.has_bit.ensures ∙ sym (members-has c.self.inside.words 256 c.args.node (omega arith)))

pub returns-else-node-lt-MOST_NODES : goal.returns-else-node-lt-MOST_NODES
returns-else-node-lt-MOST_NODES c =
    rw (← c.self.view_is) (grind (arith, nat_tests) ∙ sym (members-past c.self.inside.words 256 c.args.node (omega arith)))
