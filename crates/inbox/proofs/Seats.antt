-- Views by their seats, after one of them has changed.
use Rattle.std.proofs.Common.{◌≡◌, ◌≢◌, ℕ, zero, suc, ◌<◌, ◌≤◌, ◌==◌, nat_le, Bool, true, false, List, [], ◌∷◌, ◌++◌, ◌⊎◌, inl, inr, ⊎_elim, if◌then◌else◌, length, set, sym, refl, ap, ◌∙◌, subst, eq-eqb, ne_eqb, arith}
use Rattle.std.proofs.lemmas.Bool.Decides.{nat_tests}
use mathlib.Core.Option.{some, some-injective, some-ne-none}
use mathlib.Core.Logic.{dite}
use native.Mathlib.Decide.{ℕ_discrete}
use lib.ListN.{get_elem?}
use Rattle.crossbeam_queue.proofs.Lists.{at_set, set_here, set_else, at_longer, at_last}
use Rattle.inbox.specs.declared.view.View.{View}
use Rattle.inbox.specs.Rule.{HasAt}

abbrev pub AllSeats : (ℕ → View → Type 0) → List View → Type 0
AllSeats F views = (seat : ℕ) (v : View) → get_elem? views seat ≡ some v → F seat v

pub all_set : (F : ℕ → View → Type 0) (views : List View) (seat : ℕ) (w : View) → F seat w → ((j : ℕ) (u : View) → j ≢ seat → get_elem? views j ≡ some u → F j u) → AllSeats F (set views seat w)
all_set F views seat w mine others j u e = ⊎_elim (λ (x : (j ≡ seat) × (w ≡ u)). subst (λ (y : ℕ × View). F y.0 y.1) (λ i. (sym x.0 i, x.1 i)) mine)
    (λ (x : (j ≢ seat) × (get_elem? views j ≡ some u)). others j u x.0 x.1) (at_set views seat j w u e)

snoc : (l : List View) (a b : View) (j : ℕ) → get_elem? (l ++ a ∷ []) j ≡ some b → (get_elem? l j ≡ some b) ⊎ ((j ≡ length l) × (a ≡ b))
snoc [] a b zero e = inr (refl, some-injective a b e)
snoc [] a b (suc j) e = absurd (some-ne-none b (sym e))
snoc (x ∷ xs) a b zero e = inl e
snoc (x ∷ xs) a b (suc j) e = ⊎_elim (λ (t : get_elem? xs j ≡ some b). inl t) (λ (t : (j ≡ length xs) × (a ≡ b)). inr (ap suc t.0, t.1)) (snoc xs a b j e)

pub all_more : (F : ℕ → View → Type 0) (views : List View) (w : View) → AllSeats F views → F (length views) w → AllSeats F (views ++ w ∷ [])
all_more F views w old last j u e = ⊎_elim (λ (t : get_elem? views j ≡ some u). old j u t)
    (λ (t : (j ≡ length views) × (w ≡ u)). subst (λ (y : ℕ × View). F y.0 y.1) (λ i. (sym t.0 i, t.1 i)) last) (snoc views w u j e)

there : (views : List View) (seat : ℕ) (v : View) → get_elem? views seat ≡ some v → seat < length views
there [] seat v e = absurd (some-ne-none v (sym e))
there (x ∷ xs) zero v e = omega arith
there (x ∷ xs) (suc n) v e = let h = there xs n v e in omega arith

pub one_view : (views : List View) (seat : ℕ) (u v : View) → get_elem? views seat ≡ some u → get_elem? views seat ≡ some v → u ≡ v
one_view views seat u v a b = some-injective u v (sym a ∙ b)

pub here_set : (views : List View) (seat : ℕ) (v w : View) → get_elem? views seat ≡ some v → get_elem? (set views seat w) seat ≡ some w
here_set views seat v w at = set_here views seat w (there views seat v at)

-- ---- a seat whose view is of a kind

pub has_else : (F : View → Type 0) (views : List View) (seat j : ℕ) (w : View) → j ≢ seat → HasAt F views j → HasAt F (set views seat w) j
has_else F views seat j w n has = (has.0, set_else views seat j w n ∙ has.1, has.2)

pub has_set : (F : View → Type 0) (views : List View) (seat j : ℕ) (v w : View) → get_elem? views seat ≡ some v → (F v → F w) → HasAt F views j → HasAt F (set views seat w) j
has_set F views seat j v w at gives has = dite (ℕ_discrete j seat)
    (λ (e : j ≡ seat). subst (HasAt F (set views seat w)) (sym e) (w, here_set views seat v w at, gives (subst F (one_view views seat has.0 v (ap (get_elem? views) (sym e) ∙ has.1) at) has.2)))
    (λ (n : j ≢ seat). has_else F views seat j w n has)

pub has_more : (F : View → Type 0) (views : List View) (j : ℕ) (w : View) → HasAt F views j → HasAt F (views ++ w ∷ []) j
has_more F views j w has = (has.0, at_longer views (w ∷ []) j has.0 has.1, has.2)

pub has_last : (F : View → Type 0) (views : List View) (w : View) → F w → HasAt F (views ++ w ∷ []) (length views)
has_last F views w is = (w, at_last views w (length views) refl, is)

-- ---- a seat in the place of another

abbrev pub renamed : (from to n : ℕ) → ℕ
renamed from to n = if n == from then to else n

pub renamed_it : (from to n : ℕ) → n ≡ from → renamed from to n ≡ to
renamed_it from to n e = ap (λ (b : Bool). if b then to else n) (eq-eqb n from e)

pub renamed_not : (from to n : ℕ) → n ≢ from → renamed from to n ≡ n
renamed_not from to n e = ap (λ (b : Bool). if b then to else n) (ne_eqb n from e)

-- from a source on
abbrev pub moved : (owner : ℕ → ℕ) (mid from to : ℕ) → ℕ → ℕ
moved owner mid from to s = if nat_le mid s then renamed from to (owner s) else owner s

moved_above : (owner : ℕ → ℕ) (mid from to s : ℕ) → mid ≤ s → moved owner mid from to s ≡ renamed from to (owner s)
moved_above owner mid from to s h = let t : nat_le mid s ≡ true = grind (arith, nat_tests) in ap (λ (b : Bool). if b then renamed from to (owner s) else owner s) t

pub moved_on : (owner : ℕ → ℕ) (mid from to s : ℕ) → mid ≤ s → owner s ≡ from → moved owner mid from to s ≡ to
moved_on owner mid from to s h e = moved_above owner mid from to s h ∙ renamed_it from to (owner s) e

pub moved_low : (owner : ℕ → ℕ) (mid from to s : ℕ) → s < mid → moved owner mid from to s ≡ owner s
moved_low owner mid from to s h = let t : nat_le mid s ≡ false = grind (arith, nat_tests) in ap (λ (b : Bool). if b then renamed from to (owner s) else owner s) t

pub moved_not : (owner : ℕ → ℕ) (mid from to s : ℕ) → owner s ≢ from → moved owner mid from to s ≡ owner s
moved_not owner mid from to s n = ap (λ (k : ℕ). if nat_le mid s then k else owner s) (renamed_not from to (owner s) n) ∙ by (nat_le mid s)
  where
    by : (b : Bool) → (if b then owner s else owner s) ≡ owner s
    by true = refl
    by false = refl
