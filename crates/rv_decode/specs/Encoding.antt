-- The word of an instruction, by its format. From the RISC-V unprivileged manual, RV32I, "Base Instruction Formats" and
-- "Immediate Encoding Variants"; the words of the annotations are own.
use Rattle.std.specs.Prelude.{ℕ, ℤ, ◌+◌, ◌*◌, ◌^◌}
use Rattle.std.specs.Int.{w32, cast_unsigned}
use Rattle.rv_word.specs.Words.{bits_of}
use Rattle.rv_word.specs.declared.operations.AluOp.{AluOp}
use Rattle.rv_word.specs.declared.operations.AluOp.TheVariants.{Add, Sub, Sll, Slt, Sltu, Xor, Srl, Sra, Or, And}
use Rattle.rv_decode.specs.declared.instr.Instr.{Instr}
use Rattle.rv_decode.specs.declared.instr.Instr.TheVariants.{Lui, Auipc, Jal, Jalr, Branch, Load, Store, OpImm, Op, Fence, Ecall, Ebreak, Cico, Illegal}
use Rattle.rv_decode.specs.Codes.{branch_code, load_code, store_code, alu_code, alu_code7, cico_code}

-- bits of an immediate in two's complement
abbrev pub bits_in : ℤ → ℕ → ℕ → ℕ
bits_in imm high low = bits_of (cast_unsigned w32 imm) high low

-- a word's bits 31 to 20, 19 to 15, 14 to 12, 11 to 7 and 6 to 0
abbrev pub joined_of : ℕ → ℕ → ℕ → ℕ → ℕ → ℕ
joined_of high rs1 funct3 low opcode = high * 2 ^ 20 + rs1 * 2 ^ 15 + funct3 * 2 ^ 12 + low * 2 ^ 7 + opcode

-- the formats: where the fields of an instruction stand in its word
abbrev pub r_word_of : ℕ → ℕ → ℕ → ℕ → ℕ → ℕ → ℕ
r_word_of opcode funct3 funct7 rd rs1 rs2 = joined_of (funct7 * 2 ^ 5 + rs2) rs1 funct3 rd opcode

abbrev pub i_word_of : ℕ → ℕ → ℕ → ℕ → ℤ → ℕ
i_word_of opcode funct3 rd rs1 imm = joined_of (bits_in imm 11 0) rs1 funct3 rd opcode

abbrev pub s_word_of : ℕ → ℕ → ℕ → ℕ → ℤ → ℕ
s_word_of opcode funct3 rs1 rs2 imm =
    joined_of (bits_in imm 11 5 * 2 ^ 5 + rs2) rs1 funct3 (bits_in imm 4 0) opcode

abbrev pub b_word_of : ℕ → ℕ → ℕ → ℕ → ℤ → ℕ
b_word_of opcode funct3 rs1 rs2 imm =
    joined_of (bits_in imm 12 12 * 2 ^ 11 + bits_in imm 10 5 * 2 ^ 5 + rs2) rs1 funct3
    (bits_in imm 4 1 * 2 + bits_in imm 11 11) opcode

abbrev pub u_word_of : ℕ → ℕ → ℕ → ℕ
u_word_of opcode rd imm = imm * 2 ^ 12 + rd * 2 ^ 7 + opcode

abbrev pub j_word_of : ℕ → ℕ → ℤ → ℕ
j_word_of opcode rd imm =
    u_word_of opcode rd
    (bits_in imm 20 20 * 2 ^ 19 + bits_in imm 10 1 * 2 ^ 9 + bits_in imm 11 11 * 2 ^ 8 + bits_in imm 19 12)

-- an operation on a register and a constant; the amount of a shift stands where rs2 would
abbrev pub constant_word_of : AluOp → ℕ → ℕ → ℤ → ℕ
constant_word_of Add rd rs1 imm = i_word_of 0x13 (alu_code Add) rd rs1 imm
constant_word_of Sub rd rs1 imm = 0
constant_word_of Sll rd rs1 imm = r_word_of 0x13 (alu_code Sll) (alu_code7 Sll) rd rs1 (bits_in imm 4 0)
constant_word_of Slt rd rs1 imm = i_word_of 0x13 (alu_code Slt) rd rs1 imm
constant_word_of Sltu rd rs1 imm = i_word_of 0x13 (alu_code Sltu) rd rs1 imm
constant_word_of Xor rd rs1 imm = i_word_of 0x13 (alu_code Xor) rd rs1 imm
constant_word_of Srl rd rs1 imm = r_word_of 0x13 (alu_code Srl) (alu_code7 Srl) rd rs1 (bits_in imm 4 0)
constant_word_of Sra rd rs1 imm = r_word_of 0x13 (alu_code Sra) (alu_code7 Sra) rd rs1 (bits_in imm 4 0)
constant_word_of Or rd rs1 imm = i_word_of 0x13 (alu_code Or) rd rs1 imm
constant_word_of And rd rs1 imm = i_word_of 0x13 (alu_code And) rd rs1 imm

-- The word of an instruction that has its fields in range. A fence orders everything. What has no word is 0, which no
-- instruction has.
unfoldable pub encode_of : Instr → ℕ
encode_of (Lui rd imm) = u_word_of 0x37 rd imm
encode_of (Auipc rd imm) = u_word_of 0x17 rd imm
encode_of (Jal rd imm) = j_word_of 0x6f rd imm
encode_of (Jalr rd rs1 imm) = i_word_of 0x67 0 rd rs1 imm
encode_of (Branch op rs1 rs2 imm) = b_word_of 0x63 (branch_code op) rs1 rs2 imm
encode_of (Load op rd rs1 imm) = i_word_of 0x03 (load_code op) rd rs1 imm
encode_of (Store op rs1 rs2 imm) = s_word_of 0x23 (store_code op) rs1 rs2 imm
encode_of (OpImm op rd rs1 imm) = constant_word_of op rd rs1 imm
encode_of (Op op rd rs1 rs2) = r_word_of 0x33 (alu_code op) (alu_code7 op) rd rs1 rs2
encode_of Fence = 0x0ff0000f
encode_of Ecall = 0x00000073
encode_of Ebreak = 0x00100073
encode_of (Cico op rs1 imm) = i_word_of 0x0b (cico_code op) 0 rs1 imm
encode_of Illegal = 0
