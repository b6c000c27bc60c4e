-- The instruction table. From the RISC-V unprivileged manual, "RV32/64G Instruction Set Listings", RV32I; the rows of
-- check_out_s, check_out_x and check_in, in the opcode custom-0, are own, and so it is that any other word is illegal.
use Rattle.std.specs.Prelude.{ℕ, ℤ, pos, ◌≤◌, ◌==◌, Bool, List, [], ◌∷◌, Option, Some, None, find, filter, length, bit_and}
use Rattle.rv_word.specs.Words.{bits_of, signed}
use Rattle.rv_word.specs.Immediates.{i_immediate, s_immediate, b_immediate, j_immediate}
use Rattle.rv_word.specs.declared.operations.AluOp.TheVariants.{Add, Sub, Sll, Slt, Sltu, Xor, Srl, Sra, Or, And}
use Rattle.rv_word.specs.declared.operations.BranchOp.TheVariants.{Beq, Bne, Blt, Bge, Bltu, Bgeu}
use Rattle.rv_decode.specs.declared.instr.LoadOp.TheVariants.{Lb, Lh, Lw, Lbu, Lhu}
use Rattle.rv_decode.specs.declared.instr.StoreOp.TheVariants.{Sb, Sh, Sw}
use Rattle.rv_decode.specs.declared.instr.CicoOp.TheVariants.{CheckOutS, CheckOutX, CheckIn}
use Rattle.rv_decode.specs.declared.instr.Instr.{Instr}
use Rattle.rv_decode.specs.declared.instr.Instr.TheVariants.{Lui, Auipc, Jal, Jalr, Branch, Load, Store, OpImm, Op, Fence, Ecall, Ebreak, Cico, Illegal}

-- the registers that a word names
abbrev pub rd_of : ℕ → ℕ
rd_of word = bits_of word 11 7

abbrev pub rs1_of : ℕ → ℕ
rs1_of word = bits_of word 19 15

abbrev pub rs2_of : ℕ → ℕ
rs2_of word = bits_of word 24 20

-- the formats: how an instruction gets its fields from a word
abbrev pub r_format : (ℕ → ℕ → ℕ → Instr) → ℕ → Instr
r_format name word = name (rd_of word) (rs1_of word) (rs2_of word)

abbrev pub i_format : (ℕ → ℕ → ℤ → Instr) → ℕ → Instr
i_format name word = name (rd_of word) (rs1_of word) (signed (i_immediate word))

abbrev pub s_format : (ℕ → ℕ → ℤ → Instr) → ℕ → Instr
s_format name word = name (rs1_of word) (rs2_of word) (signed (s_immediate word))

abbrev pub b_format : (ℕ → ℕ → ℤ → Instr) → ℕ → Instr
b_format name word = name (rs1_of word) (rs2_of word) (signed (b_immediate word))

abbrev pub u_format : (ℕ → ℕ → Instr) → ℕ → Instr
u_format name word = name (rd_of word) (bits_of word 31 12)

abbrev pub j_format : (ℕ → ℤ → Instr) → ℕ → Instr
j_format name word = name (rd_of word) (signed (j_immediate word))

-- a shift by a constant: the amount stands where rs2 would
abbrev pub shift_format : (ℕ → ℕ → ℤ → Instr) → ℕ → Instr
shift_format name word = name (rd_of word) (rs1_of word) (pos (bits_of word 24 20))

-- an annotation: I, with no rd
abbrev pub cico_format : (ℕ → ℤ → Instr) → ℕ → Instr
cico_format name word = name (rs1_of word) (signed (i_immediate word))

-- no field counts
abbrev pub no_fields : Instr → ℕ → Instr
no_fields name word = name

-- a row: a word whose bits under the mask are those of match is the instruction of this name and format
pub record Row : Type 0 where
  pub mask : ℕ
  pub match : ℕ
  pub instr : ℕ → Instr

abbrev pub row : ℕ → ℕ → (ℕ → Instr) → Row
row mask match instr = record { mask = mask; match = match; instr = instr }

unfoldable pub instruction_table : List Row
instruction_table =
    row 0x0000007f 0x00000037 (u_format Lui) ∷
    row 0x0000007f 0x00000017 (u_format Auipc) ∷
    row 0x0000007f 0x0000006f (j_format Jal) ∷
    row 0x0000707f 0x00000067 (i_format Jalr) ∷
    row 0x0000707f 0x00000063 (b_format (Branch Beq)) ∷
    row 0x0000707f 0x00001063 (b_format (Branch Bne)) ∷
    row 0x0000707f 0x00004063 (b_format (Branch Blt)) ∷
    row 0x0000707f 0x00005063 (b_format (Branch Bge)) ∷
    row 0x0000707f 0x00006063 (b_format (Branch Bltu)) ∷
    row 0x0000707f 0x00007063 (b_format (Branch Bgeu)) ∷
    row 0x0000707f 0x00000003 (i_format (Load Lb)) ∷
    row 0x0000707f 0x00001003 (i_format (Load Lh)) ∷
    row 0x0000707f 0x00002003 (i_format (Load Lw)) ∷
    row 0x0000707f 0x00004003 (i_format (Load Lbu)) ∷
    row 0x0000707f 0x00005003 (i_format (Load Lhu)) ∷
    row 0x0000707f 0x00000023 (s_format (Store Sb)) ∷
    row 0x0000707f 0x00001023 (s_format (Store Sh)) ∷
    row 0x0000707f 0x00002023 (s_format (Store Sw)) ∷
    row 0x0000707f 0x00000013 (i_format (OpImm Add)) ∷
    row 0x0000707f 0x00002013 (i_format (OpImm Slt)) ∷
    row 0x0000707f 0x00003013 (i_format (OpImm Sltu)) ∷
    row 0x0000707f 0x00004013 (i_format (OpImm Xor)) ∷
    row 0x0000707f 0x00006013 (i_format (OpImm Or)) ∷
    row 0x0000707f 0x00007013 (i_format (OpImm And)) ∷
    row 0xfe00707f 0x00001013 (shift_format (OpImm Sll)) ∷
    row 0xfe00707f 0x00005013 (shift_format (OpImm Srl)) ∷
    row 0xfe00707f 0x40005013 (shift_format (OpImm Sra)) ∷
    row 0xfe00707f 0x00000033 (r_format (Op Add)) ∷
    row 0xfe00707f 0x40000033 (r_format (Op Sub)) ∷
    row 0xfe00707f 0x00001033 (r_format (Op Sll)) ∷
    row 0xfe00707f 0x00002033 (r_format (Op Slt)) ∷
    row 0xfe00707f 0x00003033 (r_format (Op Sltu)) ∷
    row 0xfe00707f 0x00004033 (r_format (Op Xor)) ∷
    row 0xfe00707f 0x00005033 (r_format (Op Srl)) ∷
    row 0xfe00707f 0x40005033 (r_format (Op Sra)) ∷
    row 0xfe00707f 0x00006033 (r_format (Op Or)) ∷
    row 0xfe00707f 0x00007033 (r_format (Op And)) ∷
    row 0x0000707f 0x0000000f (no_fields Fence) ∷
    row 0xffffffff 0x00000073 (no_fields Ecall) ∷
    row 0xffffffff 0x00100073 (no_fields Ebreak) ∷
    row 0x00007fff 0x0000000b (cico_format (Cico CheckOutS)) ∷
    row 0x00007fff 0x0000100b (cico_format (Cico CheckOutX)) ∷
    row 0x00007fff 0x0000200b (cico_format (Cico CheckIn)) ∷
    []

-- whether a word matches a row
abbrev pub matches : ℕ → Row → Bool
matches word r = bit_and word r.mask == r.match

-- what a word means by the row that it matches, if there is one
abbrev pub meaning : ℕ → Option Row → Instr
meaning word (Some r) = r.instr word
meaning word None = Illegal

-- what a word means: the row of the table that it matches, else illegal
unfoldable pub decode_of : ℕ → Instr
decode_of word = meaning word (find (matches word) instruction_table)

-- a word matches one row at most
abbrev pub MatchesAtMostOne : ℕ → Type 0
MatchesAtMostOne word = length (filter (matches word) instruction_table) ≤ 1
