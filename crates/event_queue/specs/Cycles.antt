-- The messages of cycles that follow one another. Own.
use Rattle.std.specs.Prelude.{◌≡◌, ℕ, ◌+◌, ◌<◌, ◌≤◌, ◌⊎◌, List, [], ◌∷◌, ◌++◌, length, replicate, slice_index_or}
use Rattle.std.specs.List.{All}
use Rattle.wt_proto.specs.declared.message.Stamped.{Stamped}
use Rattle.event_queue.specs.declared.occupied.TheConstants.{CYCLES}
use Rattle.event_queue.specs.Rising.{IsRising}
use Rattle.event_queue.specs.Marks.{mark_at}

-- the messages of all rows, one row after another
abbrev pub joined : List (List Stamped) → List Stamped
joined [] = []
joined (row ∷ rows) = row ++ joined rows

-- a row for each place, also where none were made
unfoldable pub padded : List (List Stamped) → List (List Stamped)
padded [] = replicate CYCLES []
padded (row ∷ rows) = row ∷ rows

-- 1 for a row with messages
abbrev pub mark_of : List Stamped → ℕ
mark_of [] = 0
mark_of (message ∷ messages) = 1

-- There are all rows or none, and exactly those with messages are marked.
pub record AreMarked (rows : List (List Stamped)) (words : List ℕ) : Type 0 where
  pub made : 0 < length rows → length rows ≡ CYCLES
  pub marks : (place : ℕ) → mark_at place words ≡ mark_of (slice_index_or rows place [])

-- a row with messages, and none before it
pub record IsFirstFilled (place : ℕ) (rows : List (List Stamped)) : Type 0 where
  pub within : place < CYCLES
  pub filled : mark_of (slice_index_or rows place []) ≡ 1
  pub before : (earlier : ℕ) → earlier < place → slice_index_or rows earlier [] ≡ []

-- the messages of cycles that follow one another, and the time of the first of these cycles
pub record RingModel : Type 0 where
  pub base : ℕ
  pub messages : List Stamped

-- whether a message of a time has its place in a ring: always where there are no messages
abbrev pub IsNear : RingModel → ℕ → Type 0
IsNear ring time = (ring.messages ≡ []) ⊎ ((ring.base ≤ time) × (time < ring.base + CYCLES))

-- each message stands in the row of its time
abbrev pub AreTimed : ℕ → List (List Stamped) → Type 0
AreTimed base rows = (place : ℕ) → All (λ message. message.time ≡ base + place) (slice_index_or rows place [])

pub record IsRing (base : ℕ) (rows : List (List Stamped)) : Type 0 where
  pub all : length rows ≡ CYCLES
  pub timed : AreTimed base rows
  pub rising : IsRising (joined rows)
