-- One text appended after another.
use Rattle.std.proofs.Common.{◌≡◌, ℕ, List, ◌++◌, ap, ◌∙◌, append_assoc}

pub three_texts : (l a b c l1 l2 l3 : List ℕ) → l1 ≡ l ++ a → l2 ≡ l1 ++ b → l3 ≡ l2 ++ c → l3 ≡ l ++ (a ++ b ++ c)
three_texts l a b c l1 l2 l3 first second third = simp append_assoc (third ∙ ap (λ t. t ++ c) (second ∙ ap (λ t. t ++ b) first) ∙ simp append_assoc)
