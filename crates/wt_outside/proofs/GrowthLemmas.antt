-- What follows for bytes that grow in several steps.
use Rattle.std.specs.Prelude.{◌≡◌, ℕ, ◌+◌, zero, suc, List, [], ◌∷◌, ◌++◌, length, take, Option, Some, None, is_some, refl}
use Rattle.std.specs.Option.{option_map}
use Rattle.std.proofs.Common.{sym, ap, ◌∙◌, append_assoc}
use Rattle.std.proofs.Math.Seq.{take-append-add, take-append_seam, take-length}
use Rattle.std.proofs.lemmas.List.{append-nil}
use Rattle.wt_outside.specs.Growth.{Grows, GrowsByPrefix}

added_nothing : (told : Option (List ℕ)) → told ≡ option_map (λ held. held ++ []) told
added_nothing None = refl
added_nothing (Some held) = ap Some (sym (append-nil held))

added_twice : (told : Option (List ℕ)) (x y : List ℕ) → option_map (λ held. held ++ y) (option_map (λ held. held ++ x) told) ≡ option_map (λ held. held ++ (x ++ y)) told
added_twice None x y = refl
added_twice (Some held) x y = ap Some (append_assoc held x y)

told_as_before : (told : Option (List ℕ)) (x : List ℕ) → is_some (option_map (λ held. held ++ x) told) ≡ is_some told
told_as_before None x = refl
told_as_before (Some held) x = refl

-- what stayed grew by nothing
pub grows_nothing : {a b : Option (List ℕ)} → b ≡ a → Grows a b []
grows_nothing {a = a} same = record { by = same ∙ added_nothing a }

some_front : (count : ℕ) (x y : List ℕ) → (n : ℕ) × (take n (x ++ y) ≡ take count x)
some_front zero x y = (0, refl)
some_front (suc count) [] y = (0, refl)
some_front (suc count) (first ∷ x) y = let rest = some_front count x y in (suc rest.0, ap (λ l. first ∷ l) rest.1)

module _ {a b : Option (List ℕ)} {x : List ℕ} where
  -- after nothing but failures before the first byte
  pub prefix_nothing : b ≡ a → GrowsByPrefix a b x
  prefix_nothing same = record { count = 0; grew = grows_nothing same }

  -- it is told afterwards exactly where it was before
  pub told_stays : Grows a b x → is_some b ≡ is_some a
  told_stays g = ap is_some g.by ∙ told_as_before a x

  pub prefix_told_stays : GrowsByPrefix a b x → is_some b ≡ is_some a
  prefix_told_stays g = ap is_some g.grew.by ∙ told_as_before a (take g.count x)

  -- all of the bytes are a prefix of them, and of more
  pub prefix_all : Grows a b x → GrowsByPrefix a b x
  prefix_all g = record { count = length x; grew = record { by = g.by ∙ ap (λ l. option_map (λ held. held ++ l) a) (sym (take-length x)) } }

  pub prefix_of_more : (y : List ℕ) → Grows a b x → GrowsByPrefix a b (x ++ y)
  prefix_of_more y g = record { count = length x; grew = record { by = g.by ∙ ap (λ l. option_map (λ held. held ++ l) a) (sym (take-append_seam x y)) } }

  -- a prefix of the bytes is a prefix of more
  pub prefix_longer : (y : List ℕ) → GrowsByPrefix a b x → GrowsByPrefix a b (x ++ y)
  prefix_longer y g = let front = some_front g.count x y in record { count = front.0; grew = record { by = g.grew.by ∙ ap (λ l. option_map (λ held. held ++ l) a) (sym front.1) } }

-- growth by one text and then by another is growth by both
pub grows_then : {a b c : Option (List ℕ)} {x y : List ℕ} → Grows a b x → Grows b c y → Grows a c (x ++ y)
grows_then {a = a} {x = x} {y = y} first second = record { by = second.by ∙ ap (λ t. option_map (λ held. held ++ y) t) first.by ∙ added_twice a x y }

pub grows_then_prefix : {a b c : Option (List ℕ)} {x y : List ℕ} → Grows a b x → GrowsByPrefix b c y → GrowsByPrefix a c (x ++ y)
grows_then_prefix {a = a} {c = c} {x = x} {y = y} first second =
    let both : Grows a c (x ++ take second.count y) = grows_then first second.grew in
    record { count = length x + second.count; grew = record { by = both.by ∙ ap (λ l. option_map (λ held. held ++ l) a) (sym (take-append-add x y second.count)) } }
