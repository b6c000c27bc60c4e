-- What is taken of a reader. Own.
use Rattle.std.specs.Prelude.{ℕ, ◌≤◌, List, length, Option}
use Rattle.std.specs.Io.KnownBytes.{Consumes}

-- at most so many bytes were taken, where it is known what the reader had
pub record TakesAtMost (old new : Option (List ℕ)) (most : ℕ) : Type 0 where
  pub taken : List ℕ
  pub few : length taken ≤ most
  pub were : Consumes old new taken
