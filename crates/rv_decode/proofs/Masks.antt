-- The masks of the table, by the fields of a word.
use Rattle.std.proofs.Common.{◌≡◌, ℕ, ◌+◌, ◌*◌, ◌/◌, ◌%◌, ◌^◌, ◌<◌, ap, ◌∙◌, arith, bit_and}
use Rattle.std.proofs.lemmas.Nat.{and_mask, and_block, mod_below, pow_pos}
use Rattle.rv_decode.specs.Codes.{opcode_of, funct3_of, funct7_of}
use Rattle.rv_decode.specs.Table.{rd_of}

-- `and_block` with the number taken apart
and_halves : (k n b s : ℕ) → s < 2 ^ k → bit_and n (b * 2 ^ k + s) ≡ bit_and (n / 2 ^ k) b * 2 ^ k + bit_and (n % 2 ^ k) s
and_halves k n b s h =
    ap (λ m. bit_and m (b * 2 ^ k + s)) (omega (arith, pow_pos k))
    ∙ and_block k (n / 2 ^ k) b (n % 2 ^ k) s (mod_below n (2 ^ k) (pow_pos k)) h

pub mask_opcode : (word : ℕ) → bit_and word 0x7f ≡ opcode_of word
mask_opcode word = let e = and_mask word 7 in omega arith

pub mask_funct3 : (word : ℕ) → bit_and word 0x707f ≡ funct3_of word * 4096 + opcode_of word
mask_funct3 word =
    let e = and_halves 12 word 7 0x7f (omega arith) in
    let high = and_mask (word / 2 ^ 12) 3 in
    let low = and_mask (word % 2 ^ 12) 7 in
    omega arith

pub mask_funct7 : (word : ℕ) → bit_and word 0xfe00707f ≡ funct7_of word * 33554432 + funct3_of word * 4096 + opcode_of word
mask_funct7 word =
    let e = and_halves 25 word 0x7f 0x707f (omega arith) in
    let high = and_mask (word / 2 ^ 25) 7 in
    let low = mask_funct3 (word % 2 ^ 25) in
    omega arith

pub mask_rd : (word : ℕ) → bit_and word 0x7fff ≡ funct3_of word * 4096 + rd_of word * 128 + opcode_of word
mask_rd word = let e = and_mask word 15 in omega arith

pub mask_word : (word : ℕ) → word < 2 ^ 32 → bit_and word 0xffffffff ≡ word
mask_word word h = let e = and_mask word 32 in omega arith
