-- How many bytes a load or a store moves, and what a load makes of them. From the RISC-V unprivileged manual, RV32I,
-- "Load and Store Instructions".
use Rattle.std.specs.Prelude.{ℕ, ◌%◌, ◌^◌}
use Rattle.rv_word.specs.Words.{sign_extended}
use Rattle.rv_decode.specs.declared.instr.LoadOp.{LoadOp}
use Rattle.rv_decode.specs.declared.instr.LoadOp.TheVariants.{Lb, Lh, Lw, Lbu, Lhu}
use Rattle.rv_decode.specs.declared.instr.StoreOp.{StoreOp}
use Rattle.rv_decode.specs.declared.instr.StoreOp.TheVariants.{Sb, Sh, Sw}

-- how many bytes are read
abbrev pub load_width_of : LoadOp → ℕ
load_width_of Lb = 1
load_width_of Lh = 2
load_width_of Lw = 4
load_width_of Lbu = 1
load_width_of Lhu = 2

-- how many bytes are written
abbrev pub store_width_of : StoreOp → ℕ
store_width_of Sb = 1
store_width_of Sh = 2
store_width_of Sw = 4

-- the word that the lowest bytes of a number make, as many as are read
abbrev pub widened : LoadOp → ℕ → ℕ
widened Lb raw = sign_extended raw 8
widened Lh raw = sign_extended raw 16
widened Lw raw = raw % 2 ^ 32
widened Lbu raw = raw % 2 ^ 8
widened Lhu raw = raw % 2 ^ 16
