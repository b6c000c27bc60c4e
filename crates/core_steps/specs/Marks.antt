-- Which nodes are marked as done. Own.
use Rattle.std.specs.Prelude.{◌≡◌, ℕ, ◌<◌, Bool, true, false, List, slice_index_or}

abbrev pub AreAllDone : ℕ → List Bool → Type 0
AreAllDone count done = (node : ℕ) → node < count → slice_index_or done node false ≡ true

-- the least node that isn't
pub record IsFirstNotDone (count : ℕ) (done : List Bool) (node : ℕ) : Type 0 where
  pub exists : node < count
  pub not_done : slice_index_or done node false ≡ false
  pub least : (other : ℕ) → other < node → slice_index_or done other false ≡ true
