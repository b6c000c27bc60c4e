-- The text of an instruction: registers x0 to x31, immediates in signed decimal, but the upper ones in hexadecimal. The
-- names are those of the RISC-V unprivileged manual, in the syntax of its assembler; those of the annotations are own.
use Rattle.std.specs.Prelude.{ℕ, ℤ, List, [], ◌++◌, codes, decimal, false}
use Rattle.std.specs.Fmt.{digits, signed_decimal}
use Rattle.rv_word.specs.declared.operations.AluOp.{AluOp}
use Rattle.rv_word.specs.declared.operations.AluOp.TheVariants.{Add, Sub, Sll, Slt, Sltu, Xor, Srl, Sra, Or, And}
use Rattle.rv_word.specs.declared.operations.BranchOp.{BranchOp}
use Rattle.rv_word.specs.declared.operations.BranchOp.TheVariants.{Beq, Bne, Blt, Bge, Bltu, Bgeu}
use Rattle.rv_decode.specs.declared.instr.LoadOp.{LoadOp}
use Rattle.rv_decode.specs.declared.instr.LoadOp.TheVariants.{Lb, Lh, Lw, Lbu, Lhu}
use Rattle.rv_decode.specs.declared.instr.StoreOp.{StoreOp}
use Rattle.rv_decode.specs.declared.instr.StoreOp.TheVariants.{Sb, Sh, Sw}
use Rattle.rv_decode.specs.declared.instr.CicoOp.{CicoOp}
use Rattle.rv_decode.specs.declared.instr.CicoOp.TheVariants.{CheckOutS, CheckOutX, CheckIn}
use Rattle.rv_decode.specs.declared.instr.Instr.{Instr}
use Rattle.rv_decode.specs.declared.instr.Instr.TheVariants.{Lui, Auipc, Jal, Jalr, Branch, Load, Store, OpImm, Op, Fence, Ecall, Ebreak, Cico, Illegal}

abbrev pub branch_name : BranchOp → List ℕ
branch_name Beq = codes "beq"
branch_name Bne = codes "bne"
branch_name Blt = codes "blt"
branch_name Bge = codes "bge"
branch_name Bltu = codes "bltu"
branch_name Bgeu = codes "bgeu"

abbrev pub load_name : LoadOp → List ℕ
load_name Lb = codes "lb"
load_name Lh = codes "lh"
load_name Lw = codes "lw"
load_name Lbu = codes "lbu"
load_name Lhu = codes "lhu"

abbrev pub store_name : StoreOp → List ℕ
store_name Sb = codes "sb"
store_name Sh = codes "sh"
store_name Sw = codes "sw"

abbrev pub alu_name : AluOp → List ℕ
alu_name Add = codes "add"
alu_name Sub = codes "sub"
alu_name Sll = codes "sll"
alu_name Slt = codes "slt"
alu_name Sltu = codes "sltu"
alu_name Xor = codes "xor"
alu_name Srl = codes "srl"
alu_name Sra = codes "sra"
alu_name Or = codes "or"
alu_name And = codes "and"

-- with a constant; there is no subtraction of one, and so no name
abbrev pub constant_name : AluOp → List ℕ
constant_name Add = codes "addi"
constant_name Sub = []
constant_name Sll = codes "slli"
constant_name Slt = codes "slti"
constant_name Sltu = codes "sltiu"
constant_name Xor = codes "xori"
constant_name Srl = codes "srli"
constant_name Sra = codes "srai"
constant_name Or = codes "ori"
constant_name And = codes "andi"

abbrev pub cico_name : CicoOp → List ℕ
cico_name CheckOutS = codes "check_out_s"
cico_name CheckOutX = codes "check_out_x"
cico_name CheckIn = codes "check_in"

-- a register, and a place in memory
abbrev pub register_text : ℕ → List ℕ
register_text register = codes "x" ++ decimal register

abbrev pub place_text : ℕ → ℤ → List ℕ
place_text rs1 imm = signed_decimal imm ++ (codes "(" ++ (register_text rs1 ++ codes ")"))

-- the name, a space, and the operands, between which stand a comma and a space
abbrev pub one_operand : List ℕ → List ℕ → List ℕ
one_operand name first = name ++ (codes " " ++ first)

abbrev pub two_operands : List ℕ → List ℕ → List ℕ → List ℕ
two_operands name first second = name ++ (codes " " ++ (first ++ (codes ", " ++ second)))

abbrev pub three_operands : List ℕ → List ℕ → List ℕ → List ℕ → List ℕ
three_operands name first second third = two_operands name first (second ++ (codes ", " ++ third))

-- hexadecimal, in lower case and without leading zeros
abbrev pub upper_text : ℕ → List ℕ
upper_text imm = codes "0x" ++ digits 16 false imm

abbrev pub text_of : Instr → List ℕ
text_of (Lui rd imm) = two_operands (codes "lui") (register_text rd) (upper_text imm)
text_of (Auipc rd imm) = two_operands (codes "auipc") (register_text rd) (upper_text imm)
text_of (Jal rd imm) = two_operands (codes "jal") (register_text rd) (signed_decimal imm)
text_of (Jalr rd rs1 imm) = two_operands (codes "jalr") (register_text rd) (place_text rs1 imm)
text_of (Branch op rs1 rs2 imm) =
    three_operands (branch_name op) (register_text rs1) (register_text rs2) (signed_decimal imm)
text_of (Load op rd rs1 imm) = two_operands (load_name op) (register_text rd) (place_text rs1 imm)
text_of (Store op rs1 rs2 imm) = two_operands (store_name op) (register_text rs2) (place_text rs1 imm)
text_of (OpImm op rd rs1 imm) =
    three_operands (constant_name op) (register_text rd) (register_text rs1) (signed_decimal imm)
text_of (Op op rd rs1 rs2) = three_operands (alu_name op) (register_text rd) (register_text rs1) (register_text rs2)
text_of Fence = codes "fence"
text_of Ecall = codes "ecall"
text_of Ebreak = codes "ebreak"
text_of (Cico op rs1 imm) = one_operand (cico_name op) (place_text rs1 imm)
text_of Illegal = codes "illegal"
