-- What follows for names that are asked of a store in several steps.
use Rattle.std.specs.Prelude.{◌≡◌, ℕ, List, [], ◌∷◌, ◌++◌, map, refl}
use Rattle.std.proofs.Common.{inl, inr, sym, ap, subst, ◌∙◌, append_assoc}
use Rattle.std.proofs.lemmas.List.{append-nil}
use Rattle.wt_outside.specs.Asked.{AreAsked, keeper}
use Rattle.wt_outside.specs.Views.{StoreView}

module _ {S : Type 0} (view : StoreView S) (limit : ℕ) where
  -- one read
  pub asked_once : (old : S) (name : List ℕ) (new : S) → view.asked old name limit new → AreAsked view limit old (name ∷ []) new
  asked_once old name new step = (new, step, inl refl, refl)

  -- some names, and where no fault was counted, others
  pub asked_then : (a b c : S) (first second : List (List ℕ)) → AreAsked view limit a first b → view.faults b ≡ view.faults a → AreAsked view limit b second c → AreAsked view limit a (first ++ second) c
  asked_then a b c [] second before steady after = subst (λ (s : S). AreAsked view limit s second c) before after
  asked_then a b c (name ∷ []) second before steady after =
      let next = before.0 in
      let same : b ≡ next = before.3 in
      (next, before.1, inr (ap view.faults (sym same) ∙ steady), subst (λ (s : S). AreAsked view limit s second c) same after)
  asked_then a b c (name ∷ other ∷ names) second before steady after =
      let next = before.0 in
      elim before.2 [
        | inl none ↦ cc
        | inr same ↦ (next, before.1, inr same, asked_then next b c (other ∷ names) second before.3 (steady ∙ sym same) after)
      ]

-- of a store that keeps names and limits
pub kept : (faults : List (List ℕ × ℕ) → ℕ) (limit : ℕ) (names : List (List ℕ)) (old new : List (List ℕ × ℕ)) → AreAsked (keeper faults) limit old names new → new ≡ old ++ map (λ name. (name, limit)) names
kept faults limit [] old new same = same ∙ sym (append-nil old)
kept faults limit (name ∷ names) old new asked =
    let next = asked.0 in
    kept faults limit names next new asked.3
    ∙ ap (λ (l : List (List ℕ × ℕ)). l ++ map (λ other. (other, limit)) names) asked.1
    ∙ append_assoc old ((name, limit) ∷ []) (map (λ other. (other, limit)) names)
