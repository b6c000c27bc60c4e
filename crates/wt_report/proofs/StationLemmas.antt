-- What is known of the stations of a machine, and of lists over them.
use Rattle.std.proofs.Common.{◌≡◌, ℕ, zero, suc, ◌+◌, ◌<◌, ◌≤◌, List, [], ◌∷◌, ◌++◌, length, map, take, get_or, Option, Some, None, refl, ap, sym, ◌∙◌, arith}
use Rattle.std.specs.Prelude.{slice_get}
use Rattle.std.specs.List.{filter_map, cons_option, enumerate_from}
use Rattle.std.proofs.lemmas.List.{get_or-map, length-map, map-append, take_more, take_all}
use Rattle.std.proofs.lemmas.List.Elements.{filter_map-append}
use Rattle.std.proofs.lemmas.Option.{slice_get-get_or}
use Rattle.wt_report.proofs.TextLemmas.{numbered_at}

-- one more element of a list is mapped
pub mapped_more : {X Y : Type 0} (f : X → Y) (xs : List X) (i : ℕ) (x : X) (y : Y) (ys more : List Y) → i < length xs → x ≡ get_or xs i x → y ≡ f x → ys ≡ map f (take i xs) → more ≡ ys ++ y ∷ [] → more ≡ map f (take (i + 1) xs)
mapped_more f xs i x y ys more within at is so_far added =
    added
    ∙ (λ j. so_far j ++ (is ∙ ap f at) j ∷ [])
    ∙ sym (map-append f (take i xs) (get_or xs i x ∷ []))
    ∙ ap (map f) (sym (take_more xs i x within))

-- an element with its place, among those that another list is mapped to
pub numbered_in : {X Y : Type 0} (f : X → Y) (xs : List X) (i : ℕ) (x : X) → i < length xs → x ≡ get_or xs i x → (i, f x) ≡ get_or (enumerate_from 0 (map f xs)) i (i, f x)
numbered_in f xs i x within at =
    numbered_at (map f xs) i (f x) (omega (arith, length-map xs f)) (ap f at ∙ sym (get_or-map f xs i x (f x) within))

pub mapped_at : {X Y : Type 0} (f : X → Y) (xs : List X) (i : ℕ) (d : X) → i < length xs → slice_get (map f xs) i ≡ Some (f (get_or xs i d))
mapped_at f xs i d within =
    slice_get-get_or (map f xs) i (f d) (omega (arith, length-map xs f)) ∙ ap Some (get_or-map f xs i d (f d) within)

pub mapped_twice : {X Y Z : Type 0} (f : Y → Z) (g : X → Y) (xs : List X) → map (λ x. f (g x)) xs ≡ map f (map g xs)
mapped_twice f g [] = refl
mapped_twice f g (x ∷ xs) = ap (λ l. f (g x) ∷ l) (mapped_twice f g xs)

-- ---- the first thing that is found in a list

module _ {X Y Z : Type 0} (f : Y → Option Z) (g : X → Y) where
  none_then : (x : X) (xs : List X) → f (g x) ≡ None → filter_map f (map g (x ∷ xs)) ≡ filter_map f (map g xs)
  none_then x xs none = ap (λ o. cons_option o (filter_map f (map g xs))) none

  some_then : (x : X) (xs : List X) (z : Z) → f (g x) ≡ Some z → filter_map f (map g (x ∷ xs)) ≡ z ∷ filter_map f (map g xs)
  some_then x xs z found = ap (λ o. cons_option o (filter_map f (map g xs))) found

  -- where nothing is found among the first elements, none of them gives anything
  first_gives_none : (o : Option Z) (zs : List Z) → cons_option o zs ≡ [] → (o ≡ None) × (zs ≡ [])
  first_gives_none None zs none = (refl, none)
  first_gives_none (Some z) zs none = absurd (let e : z ∷ zs ≡ [] = none in cc)

  pub none_more : (xs : List X) (i : ℕ) (x : X) → i < length xs → x ≡ get_or xs i x → filter_map f (map g (take i xs)) ≡ [] → f (g x) ≡ None → filter_map f (map g (take (i + 1) xs)) ≡ []
  none_more xs i x within at so_far none =
      ap (λ l. filter_map f (map g l)) (take_more xs i x within)
      ∙ ap (filter_map f) (map-append g (take i xs) (get_or xs i x ∷ []))
      ∙ filter_map-append f (map g (take i xs)) (g (get_or xs i x) ∷ [])
      ∙ (λ j. so_far j ++ cons_option ((ap (λ y. f (g y)) (sym at) ∙ none) j) [])

  pub first_found : (xs : List X) (i : ℕ) (x : X) (z : Z) → i < length xs → x ≡ get_or xs i x → filter_map f (map g (take i xs)) ≡ [] → f (g x) ≡ Some z → slice_get (filter_map f (map g xs)) 0 ≡ Some z
  first_found [] i x z within at so_far found = absurd (omega arith)
  first_found (y ∷ xs) zero x z within at so_far found =
      ap (λ l. slice_get l 0) (some_then y xs z (ap (λ y. f (g y)) (sym at) ∙ found))
  first_found (y ∷ xs) (suc i) x z within at so_far found =
      let parts = first_gives_none (f (g y)) (filter_map f (map g (take i xs))) so_far in
      ap (λ l. slice_get l 0) (none_then y xs parts.0) ∙ first_found xs i x z (omega arith) at parts.1 found

  pub none_found : (xs : List X) (i : ℕ) → length xs ≤ i → filter_map f (map g (take i xs)) ≡ [] → slice_get (filter_map f (map g xs)) 0 ≡ None
  none_found xs i end so_far =
      ap (λ l. slice_get (filter_map f (map g l)) 0) (sym (take_all i xs end)) ∙ ap (λ l. slice_get l 0) so_far
