use Rattle.std.proofs.Common.{◌≡◌, ◌++◌, map}
use Rattle.std.specs.Prelude.{take}
use Rattle.dir1sw.specs.Table.{invalidation_to}
use Rattle.dir1sw.proofs.home.send_invalidations.Given as goal

abbrev pub invariant-loop-node : goal.invariant-loop-node
invariant-loop-node l = l.out ≡ l.initial.out ++ map (invalidation_to l.place) (take l.node-index l.nodes)
