-- The integer registers x0 to x31. From the RISC-V unprivileged manual, RV32I, "Programmers' Model for Base Integer ISA".
use Rattle.std.specs.Prelude.{◌≡◌, ℕ, ◌^◌, ◌<◌, ◌==◌, if◌then◌else◌, List, length, slice_index, slice_set, All}

-- 32 words, the first of them 0
pub record AreRegisters (registers : List ℕ) : Type 0 where
  pub count : length registers ≡ 32
  pub zero : slice_index registers 0 ≡ 0
  pub words : All (λ word. word < 2 ^ 32) registers

-- the registers after a write; a write to x0 is dropped
abbrev pub register_set : List ℕ → ℕ → ℕ → List ℕ
register_set registers r value = if r == 0 then registers else slice_set registers r value
