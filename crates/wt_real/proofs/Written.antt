-- Some first bytes are written and the others are left.
use Rattle.std.proofs.Common.{◌≡◌, ℕ, ◌+◌, ◌-◌, ◌≤◌, List, length, take, drop, sym, ap, subst, ◌∙◌, arith, length-drop}
use Rattle.std.specs.Prelude.{Option}
use Rattle.std.specs.Io.KnownBytes.{Appends}
use Rattle.std.proofs.KnownBytes.{Appends-trans}
use Rattle.std.proofs.Math.Seq.{take-add}
use Rattle.std.proofs.lemmas.List.{drop-drop, take_all}

-- after so many first bytes of what was left
pub written_more : (a b c : Option (List ℕ)) (bytes rest : List ℕ) (n : ℕ) → n ≤ length rest → (count : ℕ) × (rest ≡ drop count bytes) × Appends a b (take count bytes) → Appends b c (take n rest)
    → (count : ℕ) × (take (length rest - n) (drop n rest) ≡ drop count bytes) × Appends a c (take count bytes)
written_more a b c bytes rest n within before more =
    let count = before.0 in
    let all : take (length rest - n) (drop n rest) ≡ drop n rest = take_all _ _ (omega (arith, length-drop n rest)) in
    let next : Appends b c (take n (drop count bytes)) = subst (λ (l : List ℕ). Appends b c (take n l)) before.1 more in (
      count + n,
      all ∙ ap (drop n) before.1 ∙ drop-drop n count bytes,
      subst (Appends a c) (sym (take-add count n bytes)) (Appends-trans a b c _ _ before.2 next),
    )
