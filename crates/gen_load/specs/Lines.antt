-- The lines of a listing, by the names of the assembly language. From the RISC-V unprivileged manual; the annotations are
-- own.
use Rattle.std.specs.Prelude.{ℕ, pos, negsuc}
use Rattle.rv_word.specs.declared.operations.AluOp.TheVariants.{Add, Sll}
use Rattle.rv_word.specs.declared.operations.BranchOp.TheVariants.{Beq, Bne}
use Rattle.rv_decode.specs.declared.instr.LoadOp.TheVariants.{Lw}
use Rattle.rv_decode.specs.declared.instr.StoreOp.TheVariants.{Sw}
use Rattle.rv_decode.specs.declared.instr.CicoOp.TheVariants.{CheckOutX, CheckIn}
use Rattle.rv_decode.specs.declared.instr.Instr.TheVariants.{Lui, Load, Store, OpImm, Op, Ecall, Cico}
use Rattle.gen_load.specs.declared.line.Label.{Label}
use Rattle.gen_load.specs.declared.line.Line.{Line}
use Rattle.gen_load.specs.declared.line.Line.TheVariants.{Here, Plain, Branch, Jump}

abbrev pub x0 : ℕ
x0 = 0

abbrev pub x5 : ℕ
x5 = 5

abbrev pub x6 : ℕ
x6 = 6

abbrev pub x8 : ℕ
x8 = 8

abbrev pub x9 : ℕ
x9 = 9

abbrev pub x10 : ℕ
x10 = 10

abbrev pub x11 : ℕ
x11 = 11

abbrev pub x17 : ℕ
x17 = 17

abbrev pub x18 : ℕ
x18 = 18

abbrev pub x19 : ℕ
x19 = 19

abbrev pub x20 : ℕ
x20 = 20

abbrev pub x21 : ℕ
x21 = 21

abbrev pub x22 : ℕ
x22 = 22

abbrev pub x23 : ℕ
x23 = 23

abbrev pub x24 : ℕ
x24 = 24

-- a label stands before the line that follows
abbrev pub here : Label → Line
here label = Here label

abbrev pub lui : ℕ → ℕ → Line
lui rd imm = Plain (Lui rd imm)

abbrev pub addi : ℕ → ℕ → ℕ → Line
addi rd rs1 imm = Plain (OpImm Add rd rs1 (pos imm))

-- addi with the constant -1
abbrev pub addi_minus_1 : ℕ → ℕ → Line
addi_minus_1 rd rs1 = Plain (OpImm Add rd rs1 (negsuc 0))

abbrev pub slli : ℕ → ℕ → ℕ → Line
slli rd rs1 amount = Plain (OpImm Sll rd rs1 (pos amount))

abbrev pub add : ℕ → ℕ → ℕ → Line
add rd rs1 rs2 = Plain (Op Add rd rs1 rs2)

-- lw rd, imm(rs1), and likewise the store and the annotations
abbrev pub lw : ℕ → ℕ → ℕ → Line
lw rd imm rs1 = Plain (Load Lw rd rs1 (pos imm))

abbrev pub sw : ℕ → ℕ → ℕ → Line
sw rs2 imm rs1 = Plain (Store Sw rs1 rs2 (pos imm))

abbrev pub check_out_x : ℕ → ℕ → Line
check_out_x imm rs1 = Plain (Cico CheckOutX rs1 (pos imm))

abbrev pub check_in : ℕ → ℕ → Line
check_in imm rs1 = Plain (Cico CheckIn rs1 (pos imm))

abbrev pub beq : ℕ → ℕ → Label → Line
beq rs1 rs2 label = Branch Beq rs1 rs2 label

abbrev pub bne : ℕ → ℕ → Label → Line
bne rs1 rs2 label = Branch Bne rs1 rs2 label

abbrev pub jal : ℕ → Label → Line
jal rd label = Jump rd label

abbrev pub ecall : Line
ecall = Plain Ecall
