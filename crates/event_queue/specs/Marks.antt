-- Marks of places, 64 in a word. Own.
use Rattle.std.specs.Prelude.{◌≡◌, ℕ, ◌<◌, ◌/◌, ◌%◌, List, slice_index}
use Rattle.std.specs.Int.{bit_at}
use Rattle.event_queue.specs.declared.occupied.TheConstants.{CYCLES}

-- 1 where a place is marked, else 0
abbrev pub mark_at : ℕ → List ℕ → ℕ
mark_at place words = bit_at (slice_index words (place / 64)) (place % 64)

-- a place that is marked, and none before it
pub record IsFirstMark (place : ℕ) (words : List ℕ) : Type 0 where
  pub within : place < CYCLES
  pub marked : mark_at place words ≡ 1
  pub before : (earlier : ℕ) → earlier < place → mark_at earlier words ≡ 0
