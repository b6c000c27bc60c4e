use Rattle.std.proofs.Common.{◌≡◌, true}
use Rattle.std.specs.List.{list_all}
use Rattle.wt_proto.specs.NodeSets.{nodes_below}
use Rattle.target_barrier.specs.Barrier.{is_known}
use Rattle.target_barrier.proofs.barrier.BarrierUnit.complete.Given as goal

abbrev pub invariant-loop-node : goal.invariant-loop-node
invariant-loop-node l = list_all (is_known l.self) (nodes_below l.node) ≡ true
