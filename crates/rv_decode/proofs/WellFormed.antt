-- What the table means by a word has its fields in range.
use Rattle.std.proofs.Common.{◌≡◌, ℕ, ◌+◌, ◌<◌, ◌^◌, List, [], ◌∷◌, Bool, true, false, cond, refl, suc, arith, ltb-true, ltb-false, lt-ltb, le-ltb, ◌≤◌, ◌%◌, ◌-◌, nat_lt, Some}
use Rattle.std.specs.Prelude.{pos, negsuc, find}
use Rattle.std.proofs.lemmas.Bool.{cond_both}
use Rattle.std.proofs.lemmas.Int.{ints}
use Rattle.rv_word.specs.Words.{bits_of, sign_extended, signed}
use Rattle.rv_word.specs.Immediates.{i_immediate, s_immediate, b_immediate, j_immediate}
use Rattle.rv_decode.specs.Fields.{IsRegister, IsShort, IsBranchOffset, IsJumpOffset, IsShiftAmount, IsWellFormed}
use Rattle.rv_decode.specs.Table.{Row, matches, meaning, instruction_table, decode_of, rd_of, rs1_of, rs2_of}

-- the two cases of a sign extension
pub by_sign : (v w : ℕ) (P : ℕ → Type 0) → (v % 2 ^ w < 2 ^ (w - 1) → P (v % 2 ^ w)) → (2 ^ (w - 1) ≤ v % 2 ^ w → P (v % 2 ^ w + (2 ^ 32 - 2 ^ w))) → P (sign_extended v w)
by_sign v w P low high =
    cond_both (nat_lt (v % 2 ^ w) (2 ^ (w - 1))) _ _ P (λ e. low (ltb-true _ _ e)) (λ e. high (ltb-false _ _ e))

-- a word as a signed number, by its sign bit
pub signed-low : (n : ℕ) → n < 2 ^ 31 → signed n ≡ pos n
signed-low n h = rw (lt-ltb n (2 ^ 31) h) refl

pub signed-high : (n : ℕ) → 2 ^ 31 ≤ n → signed n ≡ negsuc (2 ^ 32 - suc n)
signed-high n h = rw (le-ltb n (2 ^ 31) h) refl

pub IsShort-signed : (v : ℕ) → IsShort (signed (sign_extended v 12))
IsShort-signed v =
    by_sign v 12 (λ n. IsShort (signed n))
    (λ h. rw (signed-low (v % 2 ^ 12) (omega arith)) (record { at_least = omega (arith, ints); at_most = omega (arith, ints) }))
    (λ h. rw (signed-high (v % 2 ^ 12 + (2 ^ 32 - 2 ^ 12)) (omega arith)) (record { at_least = omega (arith, ints); at_most = omega (arith, ints) }))

pub IsBranchOffset-signed : (v : ℕ) → v % 2 ≡ 0 → IsBranchOffset (signed (sign_extended v 13))
IsBranchOffset-signed v e =
    by_sign v 13 (λ n. IsBranchOffset (signed n))
    (λ h. rw (signed-low (v % 2 ^ 13) (omega arith)) (record { at_least = omega (arith, ints); at_most = omega (arith, ints); even = omega (arith, ints) }))
    (λ h. rw (signed-high (v % 2 ^ 13 + (2 ^ 32 - 2 ^ 13)) (omega arith)) (record { at_least = omega (arith, ints); at_most = omega (arith, ints); even = omega (arith, ints) }))

pub IsJumpOffset-signed : (v : ℕ) → v % 2 ≡ 0 → IsJumpOffset (signed (sign_extended v 21))
IsJumpOffset-signed v e =
    by_sign v 21 (λ n. IsJumpOffset (signed n))
    (λ h. rw (signed-low (v % 2 ^ 21) (omega arith)) (record { at_least = omega (arith, ints); at_most = omega (arith, ints); even = omega (arith, ints) }))
    (λ h. rw (signed-high (v % 2 ^ 21 + (2 ^ 32 - 2 ^ 21)) (omega arith)) (record { at_least = omega (arith, ints); at_most = omega (arith, ints); even = omega (arith, ints) }))

-- each row of a list means an instruction with its fields in range
abbrev AllFit : ℕ → List Row → Type 0
AllFit word [] = Unit {0}
AllFit word (r ∷ rs) = IsWellFormed (r.instr word) × AllFit word rs

meaning_step : (word : ℕ) (r : Row) (rs : List Row) (b : Bool) → IsWellFormed (r.instr word) → IsWellFormed (meaning word (find (matches word) rs)) → IsWellFormed (meaning word (cond b (Some r) (find (matches word) rs)))
meaning_step word r rs true here below = here
meaning_step word r rs false here below = below

fits-meaning : (word : ℕ) (rows : List Row) → AllFit word rows → IsWellFormed (meaning word (find (matches word) rows))
fits-meaning word [] all = tt
fits-meaning word (r ∷ rs) all = meaning_step word r rs (matches word r) all.0 (fits-meaning word rs all.1)

pub well_formed : (word : ℕ) → IsWellFormed (decode_of word)
unfolding instruction_table decode_of
well_formed word =
    let rd : IsRegister (rd_of word) = omega arith in
    let rs1 : IsRegister (rs1_of word) = omega arith in
    let rs2 : IsRegister (rs2_of word) = omega arith in
    let upper : bits_of word 31 12 < 2 ^ 20 = omega arith in
    let amount : IsShiftAmount (pos (bits_of word 24 20)) = record { at_least = omega (arith, ints); at_most = omega (arith, ints) } in
    let r : IsRegister (rd_of word) × IsRegister (rs1_of word) × IsRegister (rs2_of word) = (rd, rs1, rs2) in
    let i : IsRegister (rd_of word) × IsRegister (rs1_of word) × IsShort (signed (i_immediate word)) = (rd, rs1, IsShort-signed _) in
    let s : IsRegister (rs1_of word) × IsRegister (rs2_of word) × IsShort (signed (s_immediate word)) = (rs1, rs2, IsShort-signed _) in
    let b : IsRegister (rs1_of word) × IsRegister (rs2_of word) × IsBranchOffset (signed (b_immediate word)) =
    (rs1, rs2, IsBranchOffset-signed _ (omega arith)) in
    let u : IsRegister (rd_of word) × (bits_of word 31 12 < 2 ^ 20) = (rd, upper) in
    let j : IsRegister (rd_of word) × IsJumpOffset (signed (j_immediate word)) = (rd, IsJumpOffset-signed _ (omega arith)) in
    let h : IsRegister (rd_of word) × IsRegister (rs1_of word) × IsShiftAmount (pos (bits_of word 24 20)) = (rd, rs1, amount) in
    let c : IsRegister (rs1_of word) × IsShort (signed (i_immediate word)) = (rs1, IsShort-signed _) in
    let n : Unit {0} = tt in
    fits-meaning word instruction_table
    (u, (u, (j, (i, (b, (b, (b, (b, (b, (b, (i, (i, (i, (i, (i, (s, (s, (s, (i, (i, (i, (i, (i, (i, (h, (h, (h, (r, (r, (r, (r, (r, (r, (r, (r, (r, (r, (n, (n, (n, (c, (c, (c, tt)))))))))))))))))))))))))))))))))))))))))))
