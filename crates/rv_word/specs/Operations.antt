-- What the operations and the branch conditions mean, modulo 2 ^ 32. From the RISC-V unprivileged manual, RV32I:
-- "Integer Register-Register Operations" and "Conditional Branches".
use Rattle.std.specs.Prelude.{ℕ, pos, Bool, not, ◌+◌, ◌-◌, ◌*◌, ◌/◌, ◌%◌, ◌^◌, ◌==◌, nat_lt, int_lt, if◌then◌else◌, bit_and, bit_or, bit_xor}
use Rattle.std.specs.Int.{w32, cast_unsigned, int_div_euclid}
use Rattle.rv_word.specs.Words.{signed}
use Rattle.rv_word.specs.declared.operations.AluOp.{AluOp}
use Rattle.rv_word.specs.declared.operations.AluOp.TheVariants.{Add, Sub, Sll, Slt, Sltu, Xor, Srl, Sra, Or, And}
use Rattle.rv_word.specs.declared.operations.BranchOp.{BranchOp}
use Rattle.rv_word.specs.declared.operations.BranchOp.TheVariants.{Beq, Bne, Blt, Bge, Bltu, Bgeu}

-- how far a shift goes: the low five bits
abbrev pub shift_amount : ℕ → ℕ
shift_amount b = b % 32

-- an operation on two words; sra divides the signed number by a power of two and rounds down
abbrev pub alu_of : AluOp → ℕ → ℕ → ℕ
alu_of Add a b = (a + b) % 2 ^ 32
alu_of Sub a b = (a + (2 ^ 32 - b)) % 2 ^ 32
alu_of Sll a b = a * 2 ^ shift_amount b % 2 ^ 32
alu_of Slt a b = if int_lt (signed a) (signed b) then 1 else 0
alu_of Sltu a b = if nat_lt a b then 1 else 0
alu_of Xor a b = bit_xor a b
alu_of Srl a b = a / 2 ^ shift_amount b
alu_of Sra a b = cast_unsigned w32 (int_div_euclid (signed a) (pos (2 ^ shift_amount b)))
alu_of Or a b = bit_or a b
alu_of And a b = bit_and a b

-- whether a branch on two words is taken
abbrev pub takes : BranchOp → ℕ → ℕ → Bool
takes Beq a b = a == b
takes Bne a b = not (a == b)
takes Blt a b = int_lt (signed a) (signed b)
takes Bge a b = not (int_lt (signed a) (signed b))
takes Bltu a b = nat_lt a b
takes Bgeu a b = not (nat_lt a b)
