-- Lists of a few nodes, entry by entry.
use Rattle.std.proofs.Common.{◌≡◌, ℕ, ◌+◌, ◌<◌, ◌≤◌, ◌==◌, nat_lt, not, Bool, true, false, if◌then◌else◌, List, [], ◌∷◌, length, get_or, drop, eqb-true, refl, ap, sym, ◌∙◌, subst, arith}
use Rattle.std.specs.List.{filter}
use Rattle.std.proofs.lemmas.List.{at_drop_more}
use Rattle.dir_list.specs.Lists.{in_order, with_node}

pub length-with_node : (node : ℕ) (xs : List ℕ) → length (with_node node xs) ≤ length xs + 1
length-with_node node [] = omega arith
length-with_node node (x ∷ xs) = by (nat_lt node x) (node == x) (length-with_node node xs)
  where
    by : (less same : Bool) → length (with_node node xs) ≤ length xs + 1 → length (if less then node ∷ (x ∷ xs) else if same then x ∷ xs else x ∷ with_node node xs) ≤ length (x ∷ xs) + 1
    by true same more = omega arith
    by false true more = omega arith
    by false false more = omega arith

-- the nodes of a list but for one
abbrev pub but : ℕ → List ℕ → List ℕ
but node xs = filter (λ listed. not (listed == node)) xs

pub unlike : (a b : ℕ) → (a ≡ b → ⊥) → (a == b) ≡ false
unlike a b other = by (a == b) refl
  where
    by : (v : Bool) → (a == b) ≡ v → v ≡ false
    by true is = absurd (other (eqb-true a b is))
    by false is = refl

kept : (node x : ℕ) (xs : List ℕ) → (x == node) ≡ false → but node (x ∷ xs) ≡ x ∷ but node xs
kept node x xs other = subst (λ (same : Bool). (if not same then x ∷ but node xs else but node xs) ≡ x ∷ but node xs) (sym other) refl

-- one node more, before those that are in order
pub record Inserted (node : ℕ) (xs : List ℕ) (left : ℕ) (few : List ℕ) : Type 0 where
  pub room : length few + left ≤ length xs
  pub so_far : few ≡ in_order (but node (drop left xs))

pub inserted : (node : ℕ) (xs few after : List ℕ) (k left d : ℕ) → k + 1 ≡ left → k < length xs → (get_or xs k d == node) ≡ false →
    length few + left ≤ length xs → few ≡ in_order (but node (drop left xs)) → after ≡ with_node (get_or xs k d) few → Inserted node xs k after
inserted node xs few after k left d next within other room so_far is = record {
  room = let more = length-with_node (get_or xs k d) few in let same = ap (length {A = ℕ}) is in omega arith;
  so_far =
      is ∙ ap (with_node (get_or xs k d)) (so_far ∙ ap (λ (n : ℕ). in_order (but node (drop n xs))) (sym next))
      ∙ ap in_order (sym (kept node (get_or xs k d) (drop (k + 1) xs) other) ∙ sym (at_drop_more (but node) xs k d within));
}
