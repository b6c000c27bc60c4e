use Rattle.std.proofs.Common.{◌≡◌}
use Rattle.runs_tests.proofs.inboxes.put.Given as goal

-- The pass is of the inbox, and keeps its range and its right.
abbrev pub invariant-loop-sequence : goal.invariant-loop-sequence
invariant-loop-sequence g l = (l.pass.of ≡ l.inbox) × (l.pass.of ≡ l.fn.pass.of) × (l.pass.view.lo ≡ l.fn.pass.view.lo) × (l.pass.view.hi ≡ l.fn.pass.view.hi) × (l.pass.view.takes ≡ l.fn.pass.view.takes)
