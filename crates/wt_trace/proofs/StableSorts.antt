-- There is one stable sort: whoever sorts a list and keeps the order of what ties gives the same list.
use Rattle.std.proofs.Common.{◌≡◌, ℕ, suc, ◌+◌, Bool, true, false, not, cond, List, [], ◌∷◌, get_or, map, refl, ap, sym, ◌∙◌, arith}
use Rattle.std.specs.Prelude.{⊤, All}
use Rattle.std.specs.List.{filter, AllByRecursion}
use Rattle.std.specs.List.Sorted.{ties, IsSortedBy, IsStableBy}
use Rattle.std.specs.Cmp.{IsStrictWeakOrder}
use Rattle.std.proofs.lemmas.Bool.{both_ways, and_parts, and_from, not-true}
use Rattle.std.proofs.lemmas.List.Sorted.{sorted_far}

-- an item put before those that aren't less
abbrev pub placed : {X : Type 0} → (X → X → Bool) → X → List X → List X
placed lt x [] = x ∷ []
placed lt x (y ∷ ys) = cond (lt y x) (y ∷ placed lt x ys) (x ∷ (y ∷ ys))

abbrev pub in_order : {X : Type 0} → (X → X → Bool) → List X → List X
in_order lt [] = []
in_order lt (x ∷ xs) = placed lt x (in_order lt xs)

-- no item is less than one before it
abbrev pub Rises : {X : Type 0} → (X → X → Bool) → List X → Type 0
Rises lt [] = ⊤
Rises lt (x ∷ xs) = AllByRecursion (λ y. lt y x ≡ false) xs × Rises lt xs

pub all_of_each : {X : Type 0} (P : X → Type 0) (xs : List X) → All P xs → AllByRecursion P xs
all_of_each P [] each = tt
all_of_each P (x ∷ xs) each = (each 0 x (omega arith), all_of_each P xs (λ k d within. each (suc k) d (omega arith)))

all_weaker : {X : Type 0} (P Q : X → Type 0) → ((x : X) → P x → Q x) → (xs : List X) → AllByRecursion P xs → AllByRecursion Q xs
all_weaker P Q weaker [] all = tt
all_weaker P Q weaker (x ∷ xs) all = (weaker x all.0, all_weaker P Q weaker xs all.1)

get_or_next : {X : Type 0} (x : X) (xs : List X) (k next : ℕ) (d : X) → next ≡ suc k → get_or (x ∷ xs) next d ≡ get_or xs k d
get_or_next x xs k next d is = ap (λ n. get_or (x ∷ xs) n d) is

module _ {X : Type 0} (lt : X → X → Bool) (o : IsStrictWeakOrder lt) where
  itself : (x : X) → lt x x ≡ false
  itself x = by (lt x x) refl
    where
      by : (b : Bool) → lt x x ≡ b → lt x x ≡ false
      by true is = o.one_way x x is
      by false is = is

  tied : (x y : X) → lt x y ≡ false → lt y x ≡ false → ties lt x y ≡ true
  tied x y one other = and_from (not (lt x y)) (not (lt y x)) (ap not one) (ap not other)

  tie_parts : (x y : X) → ties lt x y ≡ true → (lt x y ≡ false) × (lt y x ≡ false)
  tie_parts x y is =
      let parts = and_parts (not (lt x y)) (not (lt y x)) is in
      (not-true (lt x y) parts.0, not-true (lt y x) parts.1)

  pub rises_from_sorted : (xs : List X) → IsSortedBy lt xs → Rises lt xs
  rises_from_sorted [] up = tt
  rises_from_sorted (x ∷ xs) up = (
    all_of_each (λ y. lt y x ≡ false) xs (λ k d within. sorted_far lt o (x ∷ xs) up 0 (suc k) d (omega arith) (omega arith)),
    rises_from_sorted xs (λ k d low within. ap (λ y. lt y (get_or xs k d)) (sym (get_or_next x xs (k + 1) (suc k + 1) d (omega arith))) ∙ up (suc k) d (omega arith) (omega arith)),
  )

  all_placed : (P : X → Type 0) (x : X) (ys : List X) → P x → AllByRecursion P ys → AllByRecursion P (placed lt x ys)
  all_placed P x [] one all = (one, tt)
  all_placed P x (y ∷ ys) one all = by (lt y x) (all_placed P x ys one all.1)
    where
      by : (b : Bool) → AllByRecursion P (placed lt x ys) → AllByRecursion P (cond b (y ∷ placed lt x ys) (x ∷ (y ∷ ys)))
      by true rest = (all.0, rest)
      by false rest = (one, all)

  placed_rises : (x : X) (ys : List X) → Rises lt ys → Rises lt (placed lt x ys)
  placed_rises x [] up = (tt, tt)
  placed_rises x (y ∷ ys) up = by (lt y x) refl (placed_rises x ys up.1)
    where
      by : (b : Bool) → lt y x ≡ b → Rises lt (placed lt x ys) → Rises lt (cond b (y ∷ placed lt x ys) (x ∷ (y ∷ ys)))
      by true is rest = (all_placed (λ z. lt z y ≡ false) x ys (o.one_way y x is) up.0, rest)
      by false is rest = ((is, all_weaker (λ z. lt z y ≡ false) (λ z. lt z x ≡ false) (λ z later. o.chain z y x later is) ys up.0), up)

  pub in_order_rises : (xs : List X) → Rises lt (in_order lt xs)
  in_order_rises [] = tt
  in_order_rises (x ∷ xs) = placed_rises x (in_order lt xs) (in_order_rises xs)

  -- an item is put past none that ties with it
  placed_stable : (w x : X) (ys : List X) → filter (ties lt w) (placed lt x ys) ≡ filter (ties lt w) (x ∷ ys)
  placed_stable w x [] = refl
  placed_stable w x (y ∷ ys) = by (lt y x) refl (placed_stable w x ys)
    where
      swapped : (p q : Bool) → (p ≡ true → q ≡ true → ⊥) → cond q (y ∷ cond p (x ∷ filter (ties lt w) ys) (filter (ties lt w) ys)) (cond p (x ∷ filter (ties lt w) ys) (filter (ties lt w) ys)) ≡ cond p (x ∷ cond q (y ∷ filter (ties lt w) ys) (filter (ties lt w) ys)) (cond q (y ∷ filter (ties lt w) ys) (filter (ties lt w) ys))
      swapped true true not_both = absurd (not_both refl refl)
      swapped true false not_both = refl
      swapped false true not_both = refl
      swapped false false not_both = refl

      by : (b : Bool) → lt y x ≡ b → filter (ties lt w) (placed lt x ys) ≡ filter (ties lt w) (x ∷ ys) → filter (ties lt w) (cond b (y ∷ placed lt x ys) (x ∷ (y ∷ ys))) ≡ filter (ties lt w) (x ∷ (y ∷ ys))
      by false is rest = refl
      by true is rest =
          ap (λ items. cond (ties lt w y) (y ∷ items) items) rest
          ∙ swapped (ties lt w x) (ties lt w y) (λ first second. both_ways (lt y x) (o.chain y w x (tie_parts w y second).1 (tie_parts w x first).0) is)

  pub in_order_stable : (w : X) (xs : List X) → filter (ties lt w) (in_order lt xs) ≡ filter (ties lt w) xs
  in_order_stable w [] = refl
  in_order_stable w (x ∷ xs) =
      placed_stable w x (in_order lt xs) ∙ ap (λ rest. cond (ties lt w x) (x ∷ rest) rest) (in_order_stable w xs)

  kept_first : (w x : X) (xs : List X) → ties lt w x ≡ true → filter (ties lt w) (x ∷ xs) ≡ x ∷ filter (ties lt w) xs
  kept_first w x xs is = ap (λ b. cond b (x ∷ filter (ties lt w) xs) (filter (ties lt w) xs)) is

  first_later : (p : X → Bool) (x y : X) (zs ys : List X) → AllByRecursion (λ z. lt z x ≡ false) zs → filter p zs ≡ y ∷ ys → lt y x ≡ false
  first_later p x y [] ys all none = cc
  first_later p x y (z ∷ zs) ys all same = at (p z) (first_later p x y zs ys all.1) same
    where
      at : (b : Bool) → (filter p zs ≡ y ∷ ys → lt y x ≡ false) → cond b (z ∷ filter p zs) (filter p zs) ≡ y ∷ ys → lt y x ≡ false
      at true later here = let first : z ≡ y = cc in ap (λ v. lt v x) (sym first) ∙ all.0
      at false later after = later after

  -- the first of what is kept isn't less than the first of a rising list
  first_kept : (p : X → Bool) (x y : X) (xs ys : List X) → Rises lt (x ∷ xs) → filter p (x ∷ xs) ≡ y ∷ ys → lt y x ≡ false
  first_kept p x y xs ys up is = by (p x) is
    where
      by : (b : Bool) → cond b (x ∷ filter p xs) (filter p xs) ≡ y ∷ ys → lt y x ≡ false
      by true here = let first : x ≡ y = cc in ap (λ v. lt v x) (sym first) ∙ itself x
      by false after = first_later p x y xs ys up.0 after

  same_rest : (b : Bool) (x : X) (xs ys : List X) → cond b (x ∷ xs) xs ≡ cond b (x ∷ ys) ys → xs ≡ ys
  same_rest true x xs ys same = cc
  same_rest false x xs ys same = same

  nothing_kept : (x : X) (xs : List X) → filter (ties lt x) (x ∷ xs) ≡ [] → ⊥
  nothing_kept x xs none =
      let some : x ∷ filter (ties lt x) xs ≡ [] = sym (kept_first x x xs (tied x x (itself x) (itself x))) ∙ none in
      absurd cc

  -- two rising lists in which what ties stands alike
  pub same_order : (xs ys : List X) → Rises lt xs → Rises lt ys → ((w : X) → filter (ties lt w) xs ≡ filter (ties lt w) ys) → xs ≡ ys
  same_order [] [] up up' alike = refl
  same_order [] (y ∷ ys) up up' alike = absurd (nothing_kept y ys (sym (alike y)))
  same_order (x ∷ xs) [] up up' alike = absurd (nothing_kept x xs (alike x))
  same_order (x ∷ xs) (y ∷ ys) up up' alike =
      let self : (v : X) → ties lt v v ≡ true = λ v. tied v v (itself v) (itself v) in
      let left : lt x y ≡ false = first_kept (ties lt x) y x ys (filter (ties lt x) xs) up' (sym (alike x) ∙ kept_first x x xs (self x)) in
      let right : lt y x ≡ false = first_kept (ties lt y) x y xs (filter (ties lt y) ys) up (alike y ∙ kept_first y y ys (self y)) in
      let heads : x ∷ filter (ties lt x) xs ≡ y ∷ filter (ties lt x) ys = sym (kept_first x x xs (self x)) ∙ alike x ∙ kept_first x y ys (tied x y left right) in
      let first : x ≡ y = cc in
      let rest : xs ≡ ys = same_order xs ys up.1 up'.1 (λ w. same_rest (ties lt w x) x (filter (ties lt w) xs) (filter (ties lt w) ys) (alike w ∙ ap (λ v. cond (ties lt w v) (v ∷ filter (ties lt w) ys) (filter (ties lt w) ys)) (sym first))) in
      λ i. first i ∷ rest i

  -- what a stable sort gives
  pub is_in_order : (xs ys : List X) → IsSortedBy lt ys → IsStableBy lt xs ys → ys ≡ in_order lt xs
  is_in_order xs ys sorted stable =
      same_order ys (in_order lt xs) (rises_from_sorted ys sorted) (in_order_rises xs) (λ w. stable w ∙ sym (in_order_stable w xs))

map-placed : {X Y : Type 0} (lt : Y → Y → Bool) (f : X → Y) (x : X) (ys : List X) → map f (placed (λ a b. lt (f a) (f b)) x ys) ≡ placed lt (f x) (map f ys)
map-placed lt f x [] = refl
map-placed {X} {Y} lt f x (y ∷ ys) = by (lt (f y) (f x)) (map-placed lt f x ys)
  where
    by : (b : Bool) → map f (placed (λ a b. lt (f a) (f b)) x ys) ≡ placed lt (f x) (map f ys) → map f (cond b (y ∷ placed (λ a b. lt (f a) (f b)) x ys) (x ∷ (y ∷ ys))) ≡ cond b (f y ∷ placed lt (f x) (map f ys)) (f x ∷ (f y ∷ map f ys))
    by true rest = ap (λ items. f y ∷ items) rest
    by false rest = refl

-- A list is sorted by what its items show as what they show is sorted.
pub map-in_order : {X Y : Type 0} (lt : Y → Y → Bool) (f : X → Y) (xs : List X) → map f (in_order (λ a b. lt (f a) (f b)) xs) ≡ in_order lt (map f xs)
map-in_order lt f [] = refl
map-in_order lt f (x ∷ xs) = map-placed lt f x (in_order (λ a b. lt (f a) (f b)) xs) ∙ ap (placed lt (f x)) (map-in_order lt f xs)
