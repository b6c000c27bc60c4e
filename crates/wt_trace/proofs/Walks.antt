-- A list that is gone through place by place.
use Rattle.std.proofs.Common.{◌≡◌, ℕ, zero, suc, ◌+◌, Some, None, List, [], ◌∷◌, ◌++◌, length, take, refl, ap, sym, ◌∙◌, subst}
use Rattle.std.specs.Prelude.{slice_get, All}
use Rattle.std.proofs.lemmas.List.{take_more, length-append}
use Rattle.std.proofs.lemmas.List.Elements.{All-get_or}
use Rattle.std.proofs.lemmas.Option.{slice_get_within, get_or_from_slice_get}

pub take_next : {X : Type 0} (xs : List X) (i : ℕ) (x : X) → slice_get xs i ≡ Some x → take (i + 1) xs ≡ take i xs ++ x ∷ []
take_next xs i x at =
    take_more xs i x (slice_get_within xs i x at) ∙ ap (λ y. take i xs ++ y ∷ []) (get_or_from_slice_get xs i x x at)

pub all_taken : {X : Type 0} (xs : List X) (i : ℕ) → slice_get xs i ≡ None → take i xs ≡ xs
all_taken [] zero at = refl
all_taken [] (suc i) at = refl
all_taken (x ∷ xs) zero at = cc
all_taken (x ∷ xs) (suc i) at = ap (λ ys. x ∷ ys) (all_taken xs i at)

pub holds_at : {X : Type 0} (P : X → Type 0) (xs : List X) (i : ℕ) (x : X) → slice_get xs i ≡ Some x → All P xs → P x
holds_at P xs i x at all =
    subst P (get_or_from_slice_get xs i x x at) (All-get_or P xs i x (slice_get_within xs i x at) all)

-- one more item of a list is copied
pub copied_more : {X : Type 0} (xs list list' : List X) (x : X) → list ≡ take (length list) xs → slice_get xs (length list) ≡ Some x → list' ≡ list ++ x ∷ [] → list' ≡ take (length list') xs
copied_more xs list list' x so_far at more =
    let longer : length list' ≡ length list + 1 = ap length more ∙ length-append list (x ∷ []) in
    more ∙ ap (λ ys. ys ++ x ∷ []) so_far ∙ sym (take_next xs (length list) x at) ∙ ap (λ n. take n xs) (sym longer)

-- all items are copied
pub copied_all : {X : Type 0} (xs list : List X) → list ≡ take (length list) xs → slice_get xs (length list) ≡ None → list ≡ xs
copied_all xs list so_far at = so_far ∙ all_taken xs (length list) at
