-- What was asked of a store. Own.
use Rattle.std.specs.Prelude.{◌≡◌, ℕ, ◌⊎◌, ◌++◌, List, [], ◌∷◌, None}
use Rattle.wt_outside.specs.Views.{StoreView}

-- Reads of these names, in this order and each up to so many bytes, and nothing else lead from one store to another.
-- After a read that counted a fault there is no other.
abbrev pub AreAsked : {S : Type 0} → StoreView S → ℕ → S → List (List ℕ) → S → Type 0
AreAsked view limit old [] new = new ≡ old
AreAsked {S} view limit old (name ∷ names) new =
    (next : S) × view.asked old name limit next × ((names ≡ []) ⊎ (view.faults next ≡ view.faults old))
    × AreAsked view limit next names new

-- the view of a store that is a list of names with their limits, to which each read adds its own
abbrev pub keeper : (List (List ℕ × ℕ) → ℕ) → StoreView (List (List ℕ × ℕ))
keeper faults = record {
  files = λ _. None;
  faults = faults;
  asked = λ old name limit new. new ≡ old ++ (name, limit) ∷ [];
}
