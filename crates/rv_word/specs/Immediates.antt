-- The immediates of the instruction formats. From the RISC-V unprivileged manual, RV32I, "Immediate Encoding Variants".
use Rattle.std.specs.Prelude.{ℕ, ◌+◌, ◌*◌, ◌^◌}
use Rattle.rv_word.specs.Words.{bits_of, sign_extended}

abbrev pub i_immediate : ℕ → ℕ
i_immediate word = sign_extended (bits_of word 31 20) 12

abbrev pub s_immediate : ℕ → ℕ
s_immediate word = sign_extended (bits_of word 31 25 * 2 ^ 5 + bits_of word 11 7) 12

abbrev pub b_immediate : ℕ → ℕ
b_immediate word =
    sign_extended
    (bits_of word 31 31 * 2 ^ 12 + bits_of word 7 7 * 2 ^ 11 + bits_of word 30 25 * 2 ^ 5 + bits_of word 11 8 * 2)
    13

-- the bits stand where they stood in the word
abbrev pub u_immediate : ℕ → ℕ
u_immediate word = bits_of word 31 12 * 2 ^ 12

abbrev pub j_immediate : ℕ → ℕ
j_immediate word =
    sign_extended
    (bits_of word 31 31 * 2 ^ 20 + bits_of word 19 12 * 2 ^ 12 + bits_of word 20 20 * 2 ^ 11 + bits_of word 30 21 * 2)
    21
