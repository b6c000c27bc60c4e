-- A part of a memory, while the memory is written. Own.
use Rattle.std.specs.Prelude.{◌≡◌, ℕ, ◌+◌, ◌≤◌, List, length, slice_range}

-- the bytes that stand in a memory of a size from a place on
pub record IsPart (size start : ℕ) (memory part : List ℕ) : Type 0 where
  pub whole : length memory ≡ size
  pub inside : start + length part ≤ size
  pub bytes : part ≡ slice_range memory start (start + length part)

-- of a memory that is changed the part before is made the part after, whatever else stands in the memory
abbrev pub IsPartAfter : ℕ → ℕ → List ℕ → List ℕ → (List ℕ → List ℕ) → Type 0
IsPartAfter size start before after change =
    (memory : List ℕ) → IsPart size start memory before → IsPart size start (change memory) after
