-- The texts of counters, one after another.
use Rattle.std.proofs.Common.{◌≡◌, ℕ, List, [], ◌∷◌, ◌++◌, map, refl, ap, sym, ◌∙◌, append_assoc, Bor, ◌⊎◌, inl, inr}
use Rattle.std.proofs.lemmas.List.{append-nil}
use Rattle.wt_text.specs.Text.{counter_of}
use Rattle.wt_report.specs.Report.{counts_text}

-- what counters with these names still add
abbrev pub counts_left : List (Bor (List ℕ)) → List ℕ → List ℕ
counts_left names values = counts_text (map (λ name. name.now) names) values

pub one_counter : (whole line more : List ℕ) (name : Bor (List ℕ)) (names rest : List (Bor (List ℕ))) (value : ℕ) (values others : List ℕ) → names ≡ name ∷ rest → values ≡ value ∷ others → whole ≡ line ++ counts_left names values → more ≡ line ++ counter_of name.now value → whole ≡ more ++ counts_left rest others
one_counter whole line more name names rest value values others named valued so_far added =
    so_far
    ∙ (λ i. line ++ counts_left (named i) (valued i))
    ∙ sym (append_assoc line (counter_of name.now value) (counts_left rest others))
    ∙ (λ i. sym added i ++ counts_left rest others)

nothing_named : (names : List (Bor (List ℕ))) → counts_left names [] ≡ []
nothing_named [] = refl
nothing_named (name ∷ names) = refl

pub no_counter : (whole line : List ℕ) (names : List (Bor (List ℕ))) (values : List ℕ) → (names ≡ []) ⊎ (values ≡ []) → whole ≡ line ++ counts_left names values → line ≡ whole
no_counter whole line names values (inl none) so_far =
    sym (so_far ∙ (λ i. line ++ counts_left (none i) values) ∙ append-nil line)
no_counter whole line names values (inr none) so_far =
    sym (so_far ∙ (λ i. line ++ counts_left names (none i)) ∙ ap (λ t. line ++ t) (nothing_named names) ∙ append-nil line)
