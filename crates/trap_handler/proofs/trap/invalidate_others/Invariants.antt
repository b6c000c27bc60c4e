use Rattle.std.proofs.Common.{◌≡◌, ◌≤◌, ◌++◌, map, length}
use Rattle.wt_proto.specs.declared.directory.Targets.TheVariants.{AllBut}
use Rattle.trap_handler.specs.Trap.{targets_of, invalidation}
use Rattle.trap_handler.proofs.trap.invalidate_others.Given as goal

abbrev pub invariant-loop-node : goal.invariant-loop-node
invariant-loop-node l = record {
  sent : l.out ≡ l.initial.out ++ map (invalidation l.block) (targets_of l.node (AllBut l.spared));
  count : l.count ≡ length (targets_of l.node (AllBut l.spared));
  few : l.count ≤ l.node;
}
