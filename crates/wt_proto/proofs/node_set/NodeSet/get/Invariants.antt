use Rattle.std.proofs.Common.{◌≡◌, ◌-◌, slice_get}
use Rattle.wt_proto.specs.NodeSets.{members_from}
use Rattle.wt_proto.proofs.node_set.NodeSet.get.Given as goal

abbrev pub invariant-loop-node : goal.invariant-loop-node
invariant-loop-node l =
    slice_get (members_from 0 256 l.self-inside.words) l.i ≡ slice_get (members_from l.node (256 - l.node) l.self-inside.words) l.left
