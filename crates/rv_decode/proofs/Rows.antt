-- The rows of the table by the fields of a word.
use Rattle.std.proofs.Common.{ℤ, pos, subst, sym, ◌≡◌, ℕ, ◌+◌, ◌*◌, [], ◌∷◌, refl, ap, ◌∙◌, arith, ◌⊎◌, inl, inr}
use Rattle.std.specs.Prelude.{negsuc, unsigned_abs}
use Rattle.std.proofs.lemmas.Int.{ints}
use Rattle.rv_decode.specs.Fields.{IsShort, IsShiftAmount, FitsOperation}
use Rattle.std.specs.Prelude.{filter}
use Rattle.rv_word.specs.declared.operations.AluOp.{AluOp}
use Rattle.rv_word.specs.declared.operations.AluOp.TheVariants.{Add, Sub, Sll, Slt, Sltu, Xor, Srl, Sra, Or, And}
use Rattle.rv_word.specs.declared.operations.BranchOp.{BranchOp}
use Rattle.rv_word.specs.declared.operations.BranchOp.TheVariants.{Beq, Bne, Blt, Bge, Bltu, Bgeu}
use Rattle.rv_decode.specs.Codes.{opcode_of, funct3_of, funct7_of, branch_code, load_code, store_code, alu_code, alu_code7, cico_code}
use Rattle.rv_decode.specs.Table.{row, instruction_table, decode_of, rd_of, r_format, i_format, s_format, b_format, u_format, j_format, shift_format, cico_format, no_fields}
use Rattle.rv_decode.specs.declared.instr.LoadOp.{LoadOp}
use Rattle.rv_decode.specs.declared.instr.LoadOp.TheVariants.{Lb, Lh, Lw, Lbu, Lhu}
use Rattle.rv_decode.specs.declared.instr.StoreOp.{StoreOp}
use Rattle.rv_decode.specs.declared.instr.StoreOp.TheVariants.{Sb, Sh, Sw}
use Rattle.rv_decode.specs.declared.instr.CicoOp.{CicoOp}
use Rattle.rv_decode.specs.declared.instr.CicoOp.TheVariants.{CheckOutS, CheckOutX, CheckIn}
use Rattle.rv_decode.specs.declared.instr.Instr.{Instr}
use Rattle.rv_decode.specs.declared.instr.Instr.TheVariants.{Lui, Auipc, Jal, Jalr, Branch, Load, Store, OpImm, Op, Fence, Ecall, Ebreak, Cico}
use Rattle.rv_decode.proofs.Masks.{mask_opcode, mask_funct3, mask_funct7, mask_rd, mask_word}
use Rattle.rv_decode.proofs.Search.{agrees, found}

-- a row that fixes the opcode; the opcode and funct3; these and funct7; the opcode, funct3 and no rd
by_opcode : (op : ℕ) (instr : ℕ → Instr) → filter (agrees 0x7f op) instruction_table ≡ row 0x7f op instr ∷ [] → (word : ℕ) → opcode_of word ≡ op → decode_of word ≡ instr word
by_opcode op instr alone word h = found (row 0x7f op instr) alone word (mask_opcode word ∙ h)

by_funct3 : (op f3 : ℕ) (instr : ℕ → Instr) → filter (agrees 0x707f (f3 * 4096 + op)) instruction_table ≡ row 0x707f (f3 * 4096 + op) instr ∷ [] → (word : ℕ) → opcode_of word ≡ op → funct3_of word ≡ f3 → decode_of word ≡ instr word
by_funct3 op f3 instr alone word h h3 =
    found (row 0x707f (f3 * 4096 + op) instr) alone word (mask_funct3 word ∙ (ap (λ v. v * 4096 + opcode_of word) h3 ∙ ap (λ v. f3 * 4096 + v) h))

by_funct7 : (op f3 f7 : ℕ) (instr : ℕ → Instr) → filter (agrees 0xfe00707f (f7 * 33554432 + f3 * 4096 + op)) instruction_table ≡ row 0xfe00707f (f7 * 33554432 + f3 * 4096 + op) instr ∷ [] → (word : ℕ) → opcode_of word ≡ op → funct3_of word ≡ f3 → funct7_of word ≡ f7 → decode_of word ≡ instr word
by_funct7 op f3 f7 instr alone word h h3 h7 =
    found (row 0xfe00707f (f7 * 33554432 + f3 * 4096 + op) instr) alone word
    (mask_funct7 word ∙ (ap (λ v. v * 33554432 + funct3_of word * 4096 + opcode_of word) h7 ∙ (ap (λ v. f7 * 33554432 + v * 4096 + opcode_of word) h3 ∙ ap (λ v. f7 * 33554432 + f3 * 4096 + v) h)))

pub lui_row : (word : ℕ) → opcode_of word ≡ 0x37 → decode_of word ≡ u_format Lui word
unfolding instruction_table
lui_row = by_opcode 0x37 (u_format Lui) refl

pub auipc_row : (word : ℕ) → opcode_of word ≡ 0x17 → decode_of word ≡ u_format Auipc word
unfolding instruction_table
auipc_row = by_opcode 0x17 (u_format Auipc) refl

pub jal_row : (word : ℕ) → opcode_of word ≡ 0x6f → decode_of word ≡ j_format Jal word
unfolding instruction_table
jal_row = by_opcode 0x6f (j_format Jal) refl

pub jalr_row : (word : ℕ) → opcode_of word ≡ 0x67 → funct3_of word ≡ 0 → decode_of word ≡ i_format Jalr word
unfolding instruction_table
jalr_row = by_funct3 0x67 0 (i_format Jalr) refl

pub fence_row : (word : ℕ) → opcode_of word ≡ 0x0f → funct3_of word ≡ 0 → decode_of word ≡ Fence
unfolding instruction_table
fence_row = by_funct3 0x0f 0 (no_fields Fence) refl

pub ecall_row : (word : ℕ) → word ≡ 0x73 → decode_of word ≡ Ecall
unfolding instruction_table
ecall_row word h = found (row 0xffffffff 0x73 (no_fields Ecall)) refl word (mask_word word (omega arith) ∙ h)

pub ebreak_row : (word : ℕ) → word ≡ 0x100073 → decode_of word ≡ Ebreak
unfolding instruction_table
ebreak_row word h = found (row 0xffffffff 0x100073 (no_fields Ebreak)) refl word (mask_word word (omega arith) ∙ h)

pub branch_row : (op : BranchOp) (word : ℕ) → opcode_of word ≡ 0x63 → funct3_of word ≡ branch_code op → decode_of word ≡ b_format (Branch op) word
unfolding instruction_table
branch_row Beq = by_funct3 0x63 0 (b_format (Branch Beq)) refl
branch_row Bne = by_funct3 0x63 1 (b_format (Branch Bne)) refl
branch_row Blt = by_funct3 0x63 4 (b_format (Branch Blt)) refl
branch_row Bge = by_funct3 0x63 5 (b_format (Branch Bge)) refl
branch_row Bltu = by_funct3 0x63 6 (b_format (Branch Bltu)) refl
branch_row Bgeu = by_funct3 0x63 7 (b_format (Branch Bgeu)) refl

pub load_row : (op : LoadOp) (word : ℕ) → opcode_of word ≡ 0x03 → funct3_of word ≡ load_code op → decode_of word ≡ i_format (Load op) word
unfolding instruction_table
load_row Lb = by_funct3 0x03 0 (i_format (Load Lb)) refl
load_row Lh = by_funct3 0x03 1 (i_format (Load Lh)) refl
load_row Lw = by_funct3 0x03 2 (i_format (Load Lw)) refl
load_row Lbu = by_funct3 0x03 4 (i_format (Load Lbu)) refl
load_row Lhu = by_funct3 0x03 5 (i_format (Load Lhu)) refl

pub store_row : (op : StoreOp) (word : ℕ) → opcode_of word ≡ 0x23 → funct3_of word ≡ store_code op → decode_of word ≡ s_format (Store op) word
unfolding instruction_table
store_row Sb = by_funct3 0x23 0 (s_format (Store Sb)) refl
store_row Sh = by_funct3 0x23 1 (s_format (Store Sh)) refl
store_row Sw = by_funct3 0x23 2 (s_format (Store Sw)) refl

-- the operations with a constant that are no shifts
abbrev pub HasShort : AluOp → Type 0
HasShort Add = Unit {0}
HasShort Sub = ⊥
HasShort Sll = ⊥
HasShort Slt = Unit {0}
HasShort Sltu = Unit {0}
HasShort Xor = Unit {0}
HasShort Srl = ⊥
HasShort Sra = ⊥
HasShort Or = Unit {0}
HasShort And = Unit {0}

pub constant_row : (op : AluOp) → HasShort op → (word : ℕ) → opcode_of word ≡ 0x13 → funct3_of word ≡ alu_code op → decode_of word ≡ i_format (OpImm op) word
unfolding instruction_table
constant_row Add _ = by_funct3 0x13 0 (i_format (OpImm Add)) refl
constant_row Sub h = absurd h
constant_row Sll h = absurd h
constant_row Slt _ = by_funct3 0x13 2 (i_format (OpImm Slt)) refl
constant_row Sltu _ = by_funct3 0x13 3 (i_format (OpImm Sltu)) refl
constant_row Xor _ = by_funct3 0x13 4 (i_format (OpImm Xor)) refl
constant_row Srl h = absurd h
constant_row Sra h = absurd h
constant_row Or _ = by_funct3 0x13 6 (i_format (OpImm Or)) refl
constant_row And _ = by_funct3 0x13 7 (i_format (OpImm And)) refl

-- the shifts
abbrev pub IsShift : AluOp → Type 0
IsShift Add = ⊥
IsShift Sub = ⊥
IsShift Sll = Unit {0}
IsShift Slt = ⊥
IsShift Sltu = ⊥
IsShift Xor = ⊥
IsShift Srl = Unit {0}
IsShift Sra = Unit {0}
IsShift Or = ⊥
IsShift And = ⊥

-- a shift is known by its funct3
pub shift_by_code : (op : AluOp) → (alu_code op ≡ 1) ⊎ (alu_code op ≡ 5) → IsShift op
shift_by_code Add h = elim h [ inl e ↦ cc | inr e ↦ cc ]
shift_by_code Sub h = elim h [ inl e ↦ cc | inr e ↦ cc ]
shift_by_code Sll h = tt
shift_by_code Slt h = elim h [ inl e ↦ cc | inr e ↦ cc ]
shift_by_code Sltu h = elim h [ inl e ↦ cc | inr e ↦ cc ]
shift_by_code Xor h = elim h [ inl e ↦ cc | inr e ↦ cc ]
shift_by_code Srl h = tt
shift_by_code Sra h = tt
shift_by_code Or h = elim h [ inl e ↦ cc | inr e ↦ cc ]
shift_by_code And h = elim h [ inl e ↦ cc | inr e ↦ cc ]

amount_of : (imm : ℤ) → IsShiftAmount imm → pos (unsigned_abs imm) ≡ imm
amount_of (pos n) fits = refl
amount_of (negsuc n) fits = absurd (omega (arith, ints))

-- the shifts by their names, and the other operations with a constant
pub shift_by_name : (op : AluOp) → (op ≡ Sll) ⊎ ((op ≡ Srl) ⊎ (op ≡ Sra)) → IsShift op
shift_by_name op h =
    elim h [
      | inl e ↦ subst IsShift (sym e) tt
      | inr h ↦ elim h [ inl e ↦ subst IsShift (sym e) tt | inr e ↦ subst IsShift (sym e) tt ]
    ]

pub short_by_name : (op : AluOp) (imm : ℤ) → FitsOperation op imm → (op ≡ Sll → ⊥) → (op ≡ Srl → ⊥) → (op ≡ Sra → ⊥) → HasShort op × IsShort imm
short_by_name Add imm fits l r a = (tt, fits)
short_by_name Sub imm fits l r a = absurd fits
short_by_name Sll imm fits l r a = absurd (l refl)
short_by_name Slt imm fits l r a = (tt, fits)
short_by_name Sltu imm fits l r a = (tt, fits)
short_by_name Xor imm fits l r a = (tt, fits)
short_by_name Srl imm fits l r a = absurd (r refl)
short_by_name Sra imm fits l r a = absurd (a refl)
short_by_name Or imm fits l r a = (tt, fits)
short_by_name And imm fits l r a = (tt, fits)

-- the amount of a shift isn't negative
pub amount_of_shift : (op : AluOp) (imm : ℤ) → IsShift op → FitsOperation op imm → pos (unsigned_abs imm) ≡ imm
amount_of_shift Add imm h fits = absurd h
amount_of_shift Sub imm h fits = absurd h
amount_of_shift Sll imm h fits = amount_of imm fits
amount_of_shift Slt imm h fits = absurd h
amount_of_shift Sltu imm h fits = absurd h
amount_of_shift Xor imm h fits = absurd h
amount_of_shift Srl imm h fits = amount_of imm fits
amount_of_shift Sra imm h fits = amount_of imm fits
amount_of_shift Or imm h fits = absurd h
amount_of_shift And imm h fits = absurd h

pub shift_row : (op : AluOp) → IsShift op → (word : ℕ) → opcode_of word ≡ 0x13 → funct3_of word ≡ alu_code op → funct7_of word ≡ alu_code7 op → decode_of word ≡ shift_format (OpImm op) word
unfolding instruction_table
shift_row Add h = absurd h
shift_row Sub h = absurd h
shift_row Sll _ = by_funct7 0x13 1 0 (shift_format (OpImm Sll)) refl
shift_row Slt h = absurd h
shift_row Sltu h = absurd h
shift_row Xor h = absurd h
shift_row Srl _ = by_funct7 0x13 5 0 (shift_format (OpImm Srl)) refl
shift_row Sra _ = by_funct7 0x13 5 0x20 (shift_format (OpImm Sra)) refl
shift_row Or h = absurd h
shift_row And h = absurd h

pub register_row : (op : AluOp) (word : ℕ) → opcode_of word ≡ 0x33 → funct3_of word ≡ alu_code op → funct7_of word ≡ alu_code7 op → decode_of word ≡ r_format (Op op) word
unfolding instruction_table
register_row Add = by_funct7 0x33 0 0 (r_format (Op Add)) refl
register_row Sub = by_funct7 0x33 0 0x20 (r_format (Op Sub)) refl
register_row Sll = by_funct7 0x33 1 0 (r_format (Op Sll)) refl
register_row Slt = by_funct7 0x33 2 0 (r_format (Op Slt)) refl
register_row Sltu = by_funct7 0x33 3 0 (r_format (Op Sltu)) refl
register_row Xor = by_funct7 0x33 4 0 (r_format (Op Xor)) refl
register_row Srl = by_funct7 0x33 5 0 (r_format (Op Srl)) refl
register_row Sra = by_funct7 0x33 5 0x20 (r_format (Op Sra)) refl
register_row Or = by_funct7 0x33 6 0 (r_format (Op Or)) refl
register_row And = by_funct7 0x33 7 0 (r_format (Op And)) refl

by_rd : (f3 : ℕ) (instr : ℕ → Instr) → filter (agrees 0x7fff (f3 * 4096 + 0 * 128 + 0x0b)) instruction_table ≡ row 0x7fff (f3 * 4096 + 0 * 128 + 0x0b) instr ∷ [] → (word : ℕ) → opcode_of word ≡ 0x0b → funct3_of word ≡ f3 → rd_of word ≡ 0 → decode_of word ≡ instr word
by_rd f3 instr alone word h h3 hd =
    found (row 0x7fff (f3 * 4096 + 0 * 128 + 0x0b) instr) alone word
    (mask_rd word ∙ (ap (λ v. v * 4096 + rd_of word * 128 + opcode_of word) h3 ∙ (ap (λ v. f3 * 4096 + v * 128 + opcode_of word) hd ∙ ap (λ v. f3 * 4096 + 0 * 128 + v) h)))

pub cico_row : (op : CicoOp) (word : ℕ) → opcode_of word ≡ 0x0b → funct3_of word ≡ cico_code op → rd_of word ≡ 0 → decode_of word ≡ cico_format (Cico op) word
unfolding instruction_table
cico_row CheckOutS = by_rd 0 (cico_format (Cico CheckOutS)) refl
cico_row CheckOutX = by_rd 1 (cico_format (Cico CheckOutX)) refl
cico_row CheckIn = by_rd 2 (cico_format (Cico CheckIn)) refl
