use Rattle.std.proofs.Common.{◌≡◌, ◌<◌, ℕ, get_or}
use Rattle.event_queue.proofs.occupied.Occupied.first.Given as goal

-- The words so far have no marks.
abbrev pub invariant-loop-i : goal.invariant-loop-i
invariant-loop-i l = (k : ℕ) → k < l.i → get_or l.word-items k 0 ≡ 0
