-- The elements of the lists that are written line by line.
use Rattle.std.specs.Prelude.{◌≡◌, ℕ, ◌+◌, ◌<◌, List, length}
use Rattle.std.specs.List.{enumerate_from, range_with_len}
use Rattle.std.proofs.Common.{ap, sym, ◌∙◌, get_or, arith}
use Rattle.std.proofs.lemmas.List.FromFn.{get_or-enumerate_from, get_or-range_with_len}

pub numbered_at : {X : Type 0} (xs : List X) (i : ℕ) (x : X) → i < length xs → x ≡ get_or xs i x → (i, x) ≡ get_or (enumerate_from 0 xs) i (i, x)
numbered_at {X = X} xs i x within at =
    let same : 0 + i ≡ i = omega arith in
    sym (get_or-enumerate_from 0 xs i (i, x) within ∙ ap (λ (k : ℕ). (k, get_or xs i x)) same ∙ ap (λ (y : X). (i, y)) (sym at))

pub number_at : (n i : ℕ) → i < n → i ≡ get_or (range_with_len 0 n) i i
number_at n i within = let same : 0 + i ≡ i = omega arith in sym (get_or-range_with_len 0 n i i within ∙ same)
