use Rattle.std.proofs.Common.{◌≡◌}
use Rattle.node.specs.Laws.{IsWhole}
use Rattle.runs_tests.proofs.events.played.Given as goal

-- The node is that of the machine, and keeps its number.
abbrev pub invariant-loop-event : goal.invariant-loop-event
invariant-loop-event g l = (l.node.machine ≡ l.machine) × (IsWhole l.node → l.node.state.number ≡ l.number)
