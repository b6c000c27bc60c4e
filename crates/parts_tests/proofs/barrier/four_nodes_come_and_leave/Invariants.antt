use Rattle.std.proofs.Common.{◌≡◌}
use Rattle.parts_tests.proofs.barrier.four_nodes_come_and_leave.Given as goal

abbrev pub invariant-loop-row : goal.invariant-loop-row
invariant-loop-row g l = l.unit.nodes ≡ 4
