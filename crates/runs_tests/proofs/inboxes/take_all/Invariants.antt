use Rattle.std.proofs.Common.{◌≡◌, true}
use Rattle.runs_tests.proofs.inboxes.take_all.Given as goal

-- The pass is of the inbox, and may take.
abbrev pub invariant-loop : goal.invariant-loop
invariant-loop g l =
    (goal.iterator-loop g).can_next l.iterator' × (goal.iterator-loop g).is_finite l.iterator'
    × (l.pass.of ≡ l.inbox) × (l.pass.view.takes ≡ true)
