-- A constructor of several arguments, at equal arguments.
use Rattle.std.proofs.Common.{◌≡◌, ◌∙◌, ap}

pub same_two : {A B D : Type 0} (f : A → B → D) {a a' : A} {b b' : B} → a ≡ a' → b ≡ b' → f a b ≡ f a' b'
same_two f {a} {a'} {b} {b'} p q = ap (λ x. f x b) p ∙ ap (λ y. f a' y) q

pub same_three : {A B C D : Type 0} (f : A → B → C → D) {a a' : A} {b b' : B} {c c' : C} → a ≡ a' → b ≡ b' → c ≡ c' → f a b c ≡ f a' b' c'
same_three f {a} {a'} {b} {b'} {c} {c'} p q r = ap (λ x. f x b c) p ∙ (ap (λ y. f a' y c) q ∙ ap (λ z. f a' b' z) r)
