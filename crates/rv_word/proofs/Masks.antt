-- A mask of the low bits of a word.
use Rattle.std.proofs.Common.{◌≡◌, ℕ, ◌+◌, ◌-◌, ◌≤◌, ◌<◌, ◌^◌, ◌/◌, ◌%◌, ◌∙◌, ap, arith, bit_and}
use Rattle.std.proofs.lemmas.Nat.{and_mask}
use Rattle.std.proofs.lemmas.Nat.Bits.{ones_shr}
use Rattle.std.proofs.lemmas.Bool.Decides.{nat_tests}
use Rattle.rv_word.specs.Words.{sign_extended}

-- `u32::MAX >> (32 - k)` is the mask of the low k bits
pub ones_below : (k : ℕ) → k ≤ 32 → 4294967295 / 2 ^ (32 - k) ≡ 2 ^ k - 1
ones_below k h =
    let e : 32 - (32 - k) ≡ k = omega arith in
    ones_shr 32 (32 - k) (omega arith) ∙ ap (λ n. 2 ^ n - 1) e

-- to keep the low k bits of n
pub and-ones_below : (n k j : ℕ) → k ≤ 32 → j + k ≡ 32 → bit_and n (4294967295 / 2 ^ j) ≡ n % 2 ^ k
and-ones_below n k j h e =
    let f : j ≡ 32 - k = omega arith in
    ap (λ i. bit_and n (4294967295 / 2 ^ i)) f ∙ (ap (bit_and n) (ones_below k h) ∙ and_mask n k)

-- a value whose sign bit is 0, and one whose sign bit is 1
pub sign_extended-low : (value width kept : ℕ) → kept ≡ value % 2 ^ width → kept < 2 ^ (width - 1) → kept ≡ sign_extended value width
sign_extended-low value width kept e h = grind (arith, nat_tests)

pub sign_extended-high : (value width kept : ℕ) → kept ≡ value % 2 ^ width → 2 ^ (width - 1) ≤ kept → kept + (2 ^ 32 - 2 ^ width) ≡ sign_extended value width
sign_extended-high value width kept e h = grind (arith, nat_tests)
