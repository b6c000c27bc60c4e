-- Lists with the same items, of which at most one passes a test: it is the same one.
use Rattle.std.proofs.Common.{◌≡◌, ℕ, zero, suc, ◌+◌, ◌≤◌, Bool, true, false, cond, List, [], ◌∷◌, length, refl, ap, sym, ◌∙◌, arith}
use Rattle.std.specs.Prelude.{All}
use Rattle.std.specs.List.{filter, AllByRecursion, sum_by}
use Rattle.std.specs.List.Sorted.{IsPermutation}
use Rattle.std.proofs.lemmas.List.Sorted.{IsPermutation-cons, IsPermutation-trans, IsPermutation-middle, IsPermutation-refl, All-permutation, sum_by-IsPermutation}
use Rattle.std.proofs.lemmas.List.Sums.{sum_by-cons}
use Rattle.wt_trace.proofs.StableSorts.{all_of_each, placed, in_order}

each_of_all : {X : Type 0} (P : X → Type 0) (xs : List X) → AllByRecursion P xs → All P xs
each_of_all P [] all k d within = absurd (omega arith)
each_of_all P (x ∷ xs) all zero d within = all.0
each_of_all P (x ∷ xs) all (suc k) d within = each_of_all P xs all.1 k d (omega arith)

-- so many items pass a test
abbrev passes : {X : Type 0} → (X → Bool) → X → ℕ
passes p x = cond (p x) 1 0

length_kept : {X : Type 0} (p : X → Bool) (xs : List X) → length (filter p xs) ≡ sum_by (passes p) xs
length_kept p [] = refl
length_kept {X} p (x ∷ xs) = by (p x) (length_kept p xs) ∙ sym (sum_by-cons (passes p) x xs)
  where
    by : (b : Bool) → length (filter p xs) ≡ sum_by (passes p) xs → length (cond b (x ∷ filter p xs) (filter p xs)) ≡ cond b 1 0 + sum_by (passes p) xs
    by true rest = omega (arith, rest)
    by false rest = omega (arith, rest)

-- what passes is one of those that are kept
kept_or_not : {X : Type 0} (p : X → Bool) (a : X) (xs : List X) → filter p xs ≡ a ∷ [] → AllByRecursion (λ x. p x ≡ true → x ≡ a) xs
kept_or_not p a [] kept = tt
kept_or_not {X} p a (x ∷ xs) kept = by (p x) refl kept (kept_or_not p a xs)
  where
    none : (ys : List X) → filter p ys ≡ [] → AllByRecursion (λ y. p y ≡ true → y ≡ a) ys
    none [] empty = tt
    none (y ∷ ys) empty = at (p y) refl empty (none ys)
      where
        at : (b : Bool) → p y ≡ b → cond b (y ∷ filter p ys) (filter p ys) ≡ [] → (filter p ys ≡ [] → AllByRecursion (λ z. p z ≡ true → z ≡ a) ys) → AllByRecursion (λ z. p z ≡ true → z ≡ a) (y ∷ ys)
        at true is some rest = absurd cc
        at false is empty rest = ((λ passed. absurd (let wrong : true ≡ false = sym passed ∙ is in cc)), rest empty)

    by : (b : Bool) → p x ≡ b → cond b (x ∷ filter p xs) (filter p xs) ≡ a ∷ [] → (filter p xs ≡ a ∷ [] → AllByRecursion (λ y. p y ≡ true → y ≡ a) xs) → AllByRecursion (λ y. p y ≡ true → y ≡ a) (x ∷ xs)
    by true is here rest = ((λ passed. let first : x ≡ a = cc in first), none xs cc)
    by false is later rest = ((λ passed. absurd (let wrong : true ≡ false = sym passed ∙ is in cc)), rest later)

kept_is : {X : Type 0} (p : X → Bool) (a b : X) (xs : List X) → AllByRecursion (λ x. p x ≡ true → x ≡ a) xs → filter p xs ≡ b ∷ [] → b ≡ a
kept_is p a b [] all kept = absurd cc
kept_is p a b (x ∷ xs) all kept = by (p x) refl kept (kept_is p a b xs all.1)
  where
    by : (t : Bool) → p x ≡ t → cond t (x ∷ filter p xs) (filter p xs) ≡ b ∷ [] → (filter p xs ≡ b ∷ [] → b ≡ a) → b ≡ a
    by true is here rest = let first : x ≡ b = cc in sym first ∙ all.0 is
    by false is later rest = rest later

-- one list of at most one item, and one as long
pub same_kept : {X : Type 0} (p : X → Bool) (xs ys : List X) → IsPermutation xs ys → length (filter p ys) ≤ 1 → filter p ys ≡ filter p xs
same_kept {X} p xs ys permuted few =
    by (filter p xs) (filter p ys) refl refl (length_kept p ys ∙ sum_by-IsPermutation (passes p) xs ys permuted ∙ sym (length_kept p xs)) few
  where
    by : (before after : List X) → filter p xs ≡ before → filter p ys ≡ after → length after ≡ length before → length after ≤ 1 → after ≡ before
    by [] [] first second long short = refl
    by [] (b ∷ bs) first second long short = absurd (omega (arith, long))
    by (a ∷ more) [] first second long short = absurd (omega (arith, long))
    by (a ∷ []) (b ∷ []) first second long short =
        ap (λ x. x ∷ []) (kept_is p a b ys (all_of_each (λ x. p x ≡ true → x ≡ a) ys (All-permutation (λ x. p x ≡ true → x ≡ a) xs ys permuted (each_of_all (λ x. p x ≡ true → x ≡ a) xs (kept_or_not p a xs first)))) second)
    by (a ∷ (a' ∷ more)) (b ∷ bs) first second long short = absurd (omega (arith, long))
    by (a ∷ more) (b ∷ (b' ∷ bs)) first second long short = absurd (omega arith)

placed_permuted : {X : Type 0} (lt : X → X → Bool) (x : X) (ys : List X) → IsPermutation (x ∷ ys) (placed lt x ys)
placed_permuted lt x [] = IsPermutation-refl (x ∷ [])
placed_permuted lt x (y ∷ ys) = by (lt y x) (placed_permuted lt x ys)
  where
    by : (b : Bool) → IsPermutation (x ∷ ys) (placed lt x ys) → IsPermutation (x ∷ (y ∷ ys)) (cond b (y ∷ placed lt x ys) (x ∷ (y ∷ ys)))
    by true rest =
        IsPermutation-trans (x ∷ (y ∷ ys)) (y ∷ (x ∷ ys)) (y ∷ placed lt x ys) (IsPermutation-middle (x ∷ []) y ys) (IsPermutation-cons y (x ∷ ys) (placed lt x ys) rest)
    by false rest = IsPermutation-refl (x ∷ (y ∷ ys))

pub in_order_permuted : {X : Type 0} (lt : X → X → Bool) (xs : List X) → IsPermutation xs (in_order lt xs)
in_order_permuted lt [] = IsPermutation-refl []
in_order_permuted lt (x ∷ xs) =
    IsPermutation-trans (x ∷ xs) (x ∷ in_order lt xs) (placed lt x (in_order lt xs)) (IsPermutation-cons x xs (in_order lt xs) (in_order_permuted lt xs)) (placed_permuted lt x (in_order lt xs))
