-- What stands at the first place of a list whose element passes a test, where at most one element passes it.
use Rattle.std.proofs.Common.{◌≡◌, ℕ, suc, ◌+◌, ◌<◌, ◌≤◌, Bool, true, not, cond, List, [], ◌∷◌, length, map, filter, get_or, set, Option, Some, None, refl, ap, sym, ◌∙◌, subst, inl, inr, arith, ltb}
use Rattle.std.specs.Prelude.{IfSome}
use Rattle.std.specs.List.{find, slice_get, position, position_or_len, remove}
use Rattle.std.proofs.lemmas.Bool.{cases_Bool}
use Rattle.std.proofs.lemmas.Bool.{ltb-true, ltb-false}
use Rattle.std.proofs.lemmas.List.Folds.{find_at}
use Rattle.std.proofs.lemmas.Option.{cond_some, slice_get-get_or, slice_get_past}

-- where the test holds of no element, nothing is left out
all_kept_step : {X : Type 0} (p : X → Bool) (x : X) (xs : List X) → (length (filter p xs) ≡ 0 → filter (λ x. not (p x)) xs ≡ xs) →
    length (filter p (x ∷ xs)) ≡ 0 → filter (λ x. not (p x)) (x ∷ xs) ≡ x ∷ xs
all_kept_step p x xs rest none = elim (cases_Bool (p x)) [
  | inl is ↦ absurd (let e : suc (length (filter p xs)) ≡ 0 = rw is at none in omega arith)
  | inr is ↦ let e : length (filter p xs) ≡ 0 = rw is at none in rw is (ap (λ ys. x ∷ ys) (rest (omega arith)))
]

pub all_kept : {X : Type 0} (p : X → Bool) (xs : List X) → length (filter p xs) ≡ 0 → filter (λ x. not (p x)) xs ≡ xs
all_kept p [] none = refl
all_kept p (x ∷ xs) none = all_kept_step p x xs (all_kept p xs) none

-- nor is anything changed
all_same_step : {X : Type 0} (p : X → Bool) (f : X → X) (x : X) (xs : List X) → (length (filter p xs) ≡ 0 → map (λ x. cond (p x) (f x) x) xs ≡ xs) →
    length (filter p (x ∷ xs)) ≡ 0 → map (λ x. cond (p x) (f x) x) (x ∷ xs) ≡ x ∷ xs
all_same_step p f x xs rest none = elim (cases_Bool (p x)) [
  | inl is ↦ absurd (let e : suc (length (filter p xs)) ≡ 0 = rw is at none in omega arith)
  | inr is ↦ let e : length (filter p xs) ≡ 0 = rw is at none in rw is (ap (λ ys. x ∷ ys) (rest (omega arith)))
]

pub all_same : {X : Type 0} (p : X → Bool) (f : X → X) (xs : List X) → length (filter p xs) ≡ 0 → map (λ x. cond (p x) (f x) x) xs ≡ xs
all_same p f [] none = refl
all_same p f (x ∷ xs) none = all_same_step p f x xs (all_same p f xs) none

none_passes_step : {X : Type 0} (p : X → Bool) (x : X) (xs : List X) → (find p xs ≡ None → length (filter p xs) ≡ 0) →
    find p (x ∷ xs) ≡ None → length (filter p (x ∷ xs)) ≡ 0
none_passes_step p x xs rest none = elim (cases_Bool (p x)) [
  | inl is ↦ absurd (let e : Some x ≡ None = rw is at none in cc)
  | inr is ↦ let e : find p xs ≡ None = rw is at none in rw is (let r : length (filter p xs) ≡ 0 = rest e in omega arith)
]

pub none_passes : {X : Type 0} (p : X → Bool) (xs : List X) → find p xs ≡ None → length (filter p xs) ≡ 0
none_passes p [] none = refl
none_passes p (x ∷ xs) none = none_passes_step p x xs (none_passes p xs) none

-- the element at the place
pub found : {X : Type 0} (p : X → Bool) (xs : List X) (place : ℕ) (d : X) → position p xs ≡ Some place → find p xs ≡ Some (get_or xs place d)
found p xs place d is =
    let parts : (ltb (position_or_len p xs) (length xs) ≡ true) × (position_or_len p xs ≡ place) = cond_some (ltb (position_or_len p xs) (length xs)) (position_or_len p xs) place is in
    let there : position_or_len p xs < length xs = ltb-true (position_or_len p xs) (length xs) parts.0 in
    find_at p xs ∙ slice_get-get_or xs (position_or_len p xs) d there ∙ ap (λ i. Some (get_or xs i d)) parts.1

pub found_there : {X : Type 0} (p : X → Bool) (xs : List X) (place : ℕ) → position p xs ≡ Some place → find p xs ≡ slice_get xs place
found_there p xs place is =
    let parts : (ltb (position_or_len p xs) (length xs) ≡ true) × (position_or_len p xs ≡ place) = cond_some (ltb (position_or_len p xs) (length xs)) (position_or_len p xs) place is in
    find_at p xs ∙ ap (λ i. slice_get xs i) parts.1

pub place_below : {X : Type 0} (p : X → Bool) (xs : List X) (place : ℕ) → position p xs ≡ Some place → place < length xs
place_below p xs place is =
    let parts : (ltb (position_or_len p xs) (length xs) ≡ true) × (position_or_len p xs ≡ place) = cond_some (ltb (position_or_len p xs) (length xs)) (position_or_len p xs) place is in
    subst (λ i. i < length xs) parts.1 (ltb-true (position_or_len p xs) (length xs) parts.0)

pub places_below : {X : Type 0} (p : X → Bool) (xs : List X) (place : Option ℕ) → place ≡ position p xs → IfSome place (λ place. place < length xs)
places_below p xs None is = tt
places_below p xs (Some place) is = place_below p xs place (sym is)

pub not_found : {X : Type 0} (p : X → Bool) (xs : List X) → position p xs ≡ None → find p xs ≡ None
not_found p xs is = elim (cases_Bool (ltb (position_or_len p xs) (length xs))) [
  | inl is_there ↦ absurd (let e : Some (position_or_len p xs) ≡ None = rw is_there at is in cc)
  | inr is_past ↦ find_at p xs ∙ slice_get_past xs (position_or_len p xs) (ltb-false (position_or_len p xs) (length xs) is_past)
]

-- the place counts up behind an element that doesn't pass
pub next_place : (n : ℕ) → 1 + n ≡ suc n
next_place n = omega arith

-- taking out what stands at the place leaves the elements that don't pass
taken_out_step : {X : Type 0} (p : X → Bool) (x : X) (xs : List X) → (length (filter p xs) ≤ 1 → position_or_len p xs < length xs → remove xs (position_or_len p xs) ≡ filter (λ x. not (p x)) xs) →
    length (filter p (x ∷ xs)) ≤ 1 → position_or_len p (x ∷ xs) < length (x ∷ xs) → remove (x ∷ xs) (position_or_len p (x ∷ xs)) ≡ filter (λ x. not (p x)) (x ∷ xs)
taken_out_step p x xs rest once there = elim (cases_Bool (p x)) [
  | inl is ↦ let e : suc (length (filter p xs)) ≤ 1 = rw is at once in rw is (sym (all_kept p xs (omega arith)))
  | inr is ↦
      let e : length (filter p xs) ≤ 1 = rw is at once in
      let l : 1 + position_or_len p xs < suc (length xs) = rw is at there in
      rw (is, next_place) (ap (λ ys. x ∷ ys) (rest (omega arith) (omega arith)))
]

taken_out_place : {X : Type 0} (p : X → Bool) (xs : List X) → length (filter p xs) ≤ 1 → position_or_len p xs < length xs → remove xs (position_or_len p xs) ≡ filter (λ x. not (p x)) xs
taken_out_place p [] once there = absurd (omega arith)
taken_out_place p (x ∷ xs) once there = taken_out_step p x xs (taken_out_place p xs) once there

pub taken_out : {X : Type 0} (p : X → Bool) (xs : List X) (place : ℕ) → position p xs ≡ Some place → length (filter p xs) ≤ 1 → remove xs place ≡ filter (λ x. not (p x)) xs
taken_out p xs place is once =
    let parts : (ltb (position_or_len p xs) (length xs) ≡ true) × (position_or_len p xs ≡ place) = cond_some (ltb (position_or_len p xs) (length xs)) (position_or_len p xs) place is in
    subst (λ i. remove xs i ≡ filter (λ x. not (p x)) xs) parts.1 (taken_out_place p xs once (ltb-true (position_or_len p xs) (length xs) parts.0))

-- changing what stands at the place changes the elements that pass
changed_step : {X : Type 0} (p : X → Bool) (f : X → X) (d x : X) (xs : List X) → (length (filter p xs) ≤ 1 → position_or_len p xs < length xs → set xs (position_or_len p xs) (f (get_or xs (position_or_len p xs) d)) ≡ map (λ x. cond (p x) (f x) x) xs) →
    length (filter p (x ∷ xs)) ≤ 1 → position_or_len p (x ∷ xs) < length (x ∷ xs) → set (x ∷ xs) (position_or_len p (x ∷ xs)) (f (get_or (x ∷ xs) (position_or_len p (x ∷ xs)) d)) ≡ map (λ x. cond (p x) (f x) x) (x ∷ xs)
changed_step p f d x xs rest once there = elim (cases_Bool (p x)) [
  | inl is ↦ let e : suc (length (filter p xs)) ≤ 1 = rw is at once in rw is (ap (λ ys. f x ∷ ys) (sym (all_same p f xs (omega arith))))
  | inr is ↦
      let e : length (filter p xs) ≤ 1 = rw is at once in
      let l : 1 + position_or_len p xs < suc (length xs) = rw is at there in
      rw (is, next_place) (ap (λ ys. x ∷ ys) (rest (omega arith) (omega arith)))
]

changed_place : {X : Type 0} (p : X → Bool) (f : X → X) (d : X) (xs : List X) → length (filter p xs) ≤ 1 → position_or_len p xs < length xs → set xs (position_or_len p xs) (f (get_or xs (position_or_len p xs) d)) ≡ map (λ x. cond (p x) (f x) x) xs
changed_place p f d [] once there = absurd (omega arith)
changed_place p f d (x ∷ xs) once there = changed_step p f d x xs (changed_place p f d xs) once there

pub changed : {X : Type 0} (p : X → Bool) (f : X → X) (xs : List X) (place : ℕ) (d : X) → position p xs ≡ Some place → length (filter p xs) ≤ 1 → set xs place (f (get_or xs place d)) ≡ map (λ x. cond (p x) (f x) x) xs
changed p f xs place d is once =
    let parts : (ltb (position_or_len p xs) (length xs) ≡ true) × (position_or_len p xs ≡ place) = cond_some (ltb (position_or_len p xs) (length xs)) (position_or_len p xs) place is in
    subst (λ i. set xs i (f (get_or xs i d)) ≡ map (λ x. cond (p x) (f x) x) xs) parts.1 (changed_place p f d xs once (ltb-true (position_or_len p xs) (length xs) parts.0))
