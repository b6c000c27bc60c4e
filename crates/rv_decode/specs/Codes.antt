-- Where a word tells its instruction, and the codes of the operations. From the RISC-V unprivileged manual, RV32I, "Base
-- Instruction Formats" and the instruction set listings; those of the annotations are own.
use Rattle.std.specs.Prelude.{ℕ}
use Rattle.rv_word.specs.Words.{bits_of}
use Rattle.rv_word.specs.declared.operations.AluOp.{AluOp}
use Rattle.rv_word.specs.declared.operations.AluOp.TheVariants.{Add, Sub, Sll, Slt, Sltu, Xor, Srl, Sra, Or, And}
use Rattle.rv_word.specs.declared.operations.BranchOp.{BranchOp}
use Rattle.rv_word.specs.declared.operations.BranchOp.TheVariants.{Beq, Bne, Blt, Bge, Bltu, Bgeu}
use Rattle.rv_decode.specs.declared.instr.LoadOp.{LoadOp}
use Rattle.rv_decode.specs.declared.instr.LoadOp.TheVariants.{Lb, Lh, Lw, Lbu, Lhu}
use Rattle.rv_decode.specs.declared.instr.StoreOp.{StoreOp}
use Rattle.rv_decode.specs.declared.instr.StoreOp.TheVariants.{Sb, Sh, Sw}
use Rattle.rv_decode.specs.declared.instr.CicoOp.{CicoOp}
use Rattle.rv_decode.specs.declared.instr.CicoOp.TheVariants.{CheckOutS, CheckOutX, CheckIn}

abbrev pub opcode_of : ℕ → ℕ
opcode_of word = bits_of word 6 0

abbrev pub funct3_of : ℕ → ℕ
funct3_of word = bits_of word 14 12

abbrev pub funct7_of : ℕ → ℕ
funct7_of word = bits_of word 31 25

-- funct3 of each operation
abbrev pub branch_code : BranchOp → ℕ
branch_code Beq = 0
branch_code Bne = 1
branch_code Blt = 4
branch_code Bge = 5
branch_code Bltu = 6
branch_code Bgeu = 7

abbrev pub load_code : LoadOp → ℕ
load_code Lb = 0
load_code Lh = 1
load_code Lw = 2
load_code Lbu = 4
load_code Lhu = 5

abbrev pub store_code : StoreOp → ℕ
store_code Sb = 0
store_code Sh = 1
store_code Sw = 2

abbrev pub alu_code : AluOp → ℕ
alu_code Add = 0
alu_code Sub = 0
alu_code Sll = 1
alu_code Slt = 2
alu_code Sltu = 3
alu_code Xor = 4
alu_code Srl = 5
alu_code Sra = 5
alu_code Or = 6
alu_code And = 7

abbrev pub cico_code : CicoOp → ℕ
cico_code CheckOutS = 0
cico_code CheckOutX = 1
cico_code CheckIn = 2

-- funct7 of an operation: bit 30 tells sub from add and sra from srl
abbrev pub alu_code7 : AluOp → ℕ
alu_code7 Add = 0
alu_code7 Sub = 0x20
alu_code7 Sll = 0
alu_code7 Slt = 0
alu_code7 Sltu = 0
alu_code7 Xor = 0
alu_code7 Srl = 0
alu_code7 Sra = 0x20
alu_code7 Or = 0
alu_code7 And = 0
