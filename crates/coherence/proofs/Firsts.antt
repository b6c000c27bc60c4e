-- The first of what passes a test or is made of a list, as a loop over the list finds it.
use Rattle.std.proofs.Common.{◌≡◌, ℕ, zero, suc, ◌+◌, ◌<◌, ◌≤◌, Bool, true, false, cond, List, [], ◌∷◌, ◌++◌, length, map, take, get_or, Some, None, refl, ap, sym, ◌∙◌, inl, inr, arith}
use Rattle.std.specs.Prelude.{flat_map, slice_get}
use Rattle.std.specs.List.{filter}
use Rattle.std.proofs.lemmas.List.{map-append, take_more, take_all, append-nil}
use Rattle.std.proofs.lemmas.List.Elements.{filter-append}
use Rattle.std.proofs.lemmas.Grind.{flat_map-append}
use Rattle.discrete_events.specs.Laws.{IsIn}
use Rattle.coherence.proofs.Pipes.{two_empty}

pub none_first : {X : Type 0} (xs : List X) → slice_get xs 0 ≡ None → xs ≡ []
none_first [] e = refl
none_first (x ∷ xs) e = absurd cc

pub first_of : {X : Type 0} (xs : List X) (x : X) → slice_get xs 0 ≡ Some x → (rest : List X) × (xs ≡ x ∷ rest)
first_of [] x e = absurd cc
first_of (y ∷ xs) x e = (xs, let same : y ≡ x = let s : Some y ≡ Some x = e in cc in ap (λ z. z ∷ xs) same)

-- the first of two lists
pub first_before : {X : Type 0} (xs ys : List X) (x : X) → slice_get xs 0 ≡ Some x → slice_get (xs ++ ys) 0 ≡ Some x
first_before [] ys x e = absurd cc
first_before (y ∷ xs) ys x e = e

pub first_behind : {X : Type 0} (xs ys : List X) → slice_get xs 0 ≡ None → slice_get (xs ++ ys) 0 ≡ slice_get ys 0
first_behind [] ys e = refl
first_behind (y ∷ xs) ys e = absurd cc

-- ---- of what passes a test

module _ {X Y : Type 0} (p : Y → Bool) (g : X → Y) where
  -- with one more element
  pub passed_more : (xs : List X) (i : ℕ) (x : X) → i < length xs → x ≡ get_or xs i x → filter p (map g (take (i + 1) xs)) ≡ filter p (map g (take i xs)) ++ filter p (g x ∷ [])
  passed_more xs i x within at =
      ap (λ (l : List X). filter p (map g l)) (take_more xs i x within ∙ ap (λ (y : X). take i xs ++ y ∷ []) (sym at))
      ∙ ap (filter p) (map-append g (take i xs) (x ∷ []))
      ∙ filter-append p (map g (take i xs)) (g x ∷ [])

  pub none_more : (xs : List X) (i : ℕ) (x : X) → i < length xs → x ≡ get_or xs i x → filter p (map g (take i xs)) ≡ [] → p (g x) ≡ false → filter p (map g (take (i + 1) xs)) ≡ []
  none_more xs i x within at none fails =
      passed_more xs i x within at ∙ ap (λ (l : List Y). l ++ filter p (g x ∷ [])) none ∙ ap (λ (b : Bool). cond b (g x ∷ []) []) fails

  none_passed : (y : Y) (ys : List Y) → filter p (y ∷ ys) ≡ [] → (p y ≡ false) × (filter p ys ≡ [])
  none_passed y ys none = by (p y) refl none
    where
      by : (b : Bool) → p y ≡ b → cond b (y ∷ filter p ys) (filter p ys) ≡ [] → (p y ≡ false) × (filter p ys ≡ [])
      by true e none = absurd (let f : y ∷ filter p ys ≡ [] = none in cc)
      by false e none = (e, none)

  pub first_passed : {Z : Type 0} (f : Y → Z) (xs : List X) (i : ℕ) (x : X) → i < length xs → x ≡ get_or xs i x → filter p (map g (take i xs)) ≡ [] → p (g x) ≡ true → slice_get (map f (filter p (map g xs))) 0 ≡ Some (f (g x))
  first_passed f [] i x within at none passes = absurd (omega arith)
  first_passed {Z} f (y ∷ xs) zero x within at none passes =
      ap (λ (b : Bool). slice_get (map f (cond b (g y ∷ filter p (map g xs)) (filter p (map g xs)))) 0) (ap (λ (z : X). p (g z)) (sym at) ∙ passes)
      ∙ ap (λ (z : X). Some (f (g z))) (sym at)
  first_passed f (y ∷ xs) (suc i) x within at none passes =
      let parts = none_passed (g y) (map g (take i xs)) none in
      ap (λ (b : Bool). slice_get (map f (cond b (g y ∷ filter p (map g xs)) (filter p (map g xs)))) 0) parts.0
      ∙ first_passed f xs i x (omega arith) at parts.1 passes

  pub none_in_all : {Z : Type 0} (f : Y → Z) (xs : List X) (i : ℕ) → length xs ≤ i → filter p (map g (take i xs)) ≡ [] → slice_get (map f (filter p (map g xs))) 0 ≡ None
  none_in_all f xs i end none =
      ap (λ (l : List X). slice_get (map f (filter p (map g l))) 0) (sym (take_all i xs end)) ∙ ap (λ (l : List Y). slice_get (map f l) 0) none

-- ---- of what is made of each element

module _ {X Y : Type 0} (f : X → List Y) where
  pub flat_none : (xs : List X) → ((x : X) → IsIn x xs → f x ≡ []) → flat_map f xs ≡ []
  flat_none [] each = refl
  flat_none (x ∷ xs) each = ap (λ (l : List Y). l ++ flat_map f xs) (each x (inl refl)) ∙ flat_none xs (λ y h. each y (inr h))

  flat_more : (xs : List X) (i : ℕ) (x : X) → i < length xs → x ≡ get_or xs i x → flat_map f (take (i + 1) xs) ≡ flat_map f (take i xs) ++ f x
  flat_more xs i x within at =
      ap (flat_map f) (take_more xs i x within ∙ ap (λ (y : X). take i xs ++ y ∷ []) (sym at))
      ∙ flat_map-append f (take i xs) (x ∷ [])
      ∙ ap (λ (l : List Y). flat_map f (take i xs) ++ l) (append-nil (f x))

  pub flat_none_more : (xs : List X) (i : ℕ) (x : X) → i < length xs → x ≡ get_or xs i x → flat_map f (take i xs) ≡ [] → slice_get (f x) 0 ≡ None → flat_map f (take (i + 1) xs) ≡ []
  flat_none_more xs i x within at none nothing = flat_more xs i x within at ∙ ap (λ (l : List Y). l ++ f x) none ∙ none_first (f x) nothing

  pub first_made : (xs : List X) (i : ℕ) (x : X) (y : Y) → i < length xs → x ≡ get_or xs i x → flat_map f (take i xs) ≡ [] → slice_get (f x) 0 ≡ Some y → slice_get (flat_map f xs) 0 ≡ Some y
  first_made [] i x y within at none found = absurd (omega arith)
  first_made (z ∷ xs) zero x y within at none found = first_before (f z) (flat_map f xs) y (ap (λ (w : X). slice_get (f w) 0) (sym at) ∙ found)
  first_made (z ∷ xs) (suc i) x y within at none found =
      let parts = two_empty (f z) (flat_map f (take i xs)) none in
      first_behind (f z) (flat_map f xs) (ap (λ (l : List Y). slice_get l 0) parts.0) ∙ first_made xs i x y (omega arith) at parts.1 found

  pub none_made : (xs : List X) (i : ℕ) → length xs ≤ i → flat_map f (take i xs) ≡ [] → slice_get (flat_map f xs) 0 ≡ None
  none_made xs i end none = ap (λ (l : List X). slice_get (flat_map f l) 0) (sym (take_all i xs end)) ∙ ap (λ (l : List Y). slice_get l 0) none
