-- Which instructions have their fields in range. From the RISC-V unprivileged manual, RV32I; the annotations are own.
use Rattle.std.specs.Prelude.{◌≡◌, ◌≢◌, ℕ, ℤ, pos, negsuc, ◌<◌, ◌%◌, ◌^◌, ◌≤ℤ◌}
use Rattle.std.specs.Int.{w32, cast_unsigned}
use Rattle.rv_word.specs.declared.operations.AluOp.{AluOp}
use Rattle.rv_word.specs.declared.operations.AluOp.TheVariants.{Add, Sub, Sll, Slt, Sltu, Xor, Srl, Sra, Or, And}
use Rattle.rv_decode.specs.declared.instr.Instr.{Instr}
use Rattle.rv_decode.specs.declared.instr.Instr.TheVariants.{Lui, Auipc, Jal, Jalr, Branch, Load, Store, OpImm, Op, Fence, Ecall, Ebreak, Cico, Illegal}

-- one of x0 to x31
abbrev pub IsRegister : ℕ → Type 0
IsRegister register = register < 32

-- an immediate of the formats I and S: 12 bits, signed
pub record IsShort (imm : ℤ) : Type 0 where
  pub at_least : negsuc 2047 ≤ℤ imm
  pub at_most : imm ≤ℤ pos 2047

-- the lowest bit is 0
abbrev pub IsEven : ℤ → Type 0
IsEven imm = cast_unsigned w32 imm % 2 ≡ 0

-- an immediate of the format B: 13 bits, signed and even
pub record IsBranchOffset (imm : ℤ) : Type 0 where
  pub at_least : negsuc 4095 ≤ℤ imm
  pub at_most : imm ≤ℤ pos 4094
  pub even : IsEven imm

-- an immediate of the format J: 21 bits, signed and even
pub record IsJumpOffset (imm : ℤ) : Type 0 where
  pub at_least : negsuc 1048575 ≤ℤ imm
  pub at_most : imm ≤ℤ pos 1048574
  pub even : IsEven imm

-- the amount of a shift by a constant
pub record IsShiftAmount (imm : ℤ) : Type 0 where
  pub at_least : pos 0 ≤ℤ imm
  pub at_most : imm ≤ℤ pos 31

-- the constant of an operation: there is no subtraction of a constant
abbrev pub FitsOperation : AluOp → ℤ → Type 0
FitsOperation Add imm = IsShort imm
FitsOperation Sub imm = ⊥
FitsOperation Sll imm = IsShiftAmount imm
FitsOperation Slt imm = IsShort imm
FitsOperation Sltu imm = IsShort imm
FitsOperation Xor imm = IsShort imm
FitsOperation Srl imm = IsShiftAmount imm
FitsOperation Sra imm = IsShiftAmount imm
FitsOperation Or imm = IsShort imm
FitsOperation And imm = IsShort imm

-- illegal, or an instruction that has each field in its range, and so a word
abbrev pub IsWellFormed : Instr → Type 0
IsWellFormed (Lui rd imm) = IsRegister rd × (imm < 2 ^ 20)
IsWellFormed (Auipc rd imm) = IsRegister rd × (imm < 2 ^ 20)
IsWellFormed (Jal rd imm) = IsRegister rd × IsJumpOffset imm
IsWellFormed (Jalr rd rs1 imm) = IsRegister rd × IsRegister rs1 × IsShort imm
IsWellFormed (Branch op rs1 rs2 imm) = IsRegister rs1 × IsRegister rs2 × IsBranchOffset imm
IsWellFormed (Load op rd rs1 imm) = IsRegister rd × IsRegister rs1 × IsShort imm
IsWellFormed (Store op rs1 rs2 imm) = IsRegister rs1 × IsRegister rs2 × IsShort imm
IsWellFormed (OpImm op rd rs1 imm) = IsRegister rd × IsRegister rs1 × FitsOperation op imm
IsWellFormed (Op op rd rs1 rs2) = IsRegister rd × IsRegister rs1 × IsRegister rs2
IsWellFormed Fence = Unit {0}
IsWellFormed Ecall = Unit {0}
IsWellFormed Ebreak = Unit {0}
IsWellFormed (Cico op rs1 imm) = IsRegister rs1 × IsShort imm
IsWellFormed Illegal = Unit {0}

-- an instruction that a word stands for
pub record IsEncodable (instr : Instr) : Type 0 where
  pub legal : instr ≢ Illegal
  pub fields : IsWellFormed instr
