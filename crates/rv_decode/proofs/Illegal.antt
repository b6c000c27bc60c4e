-- The words that match no row, by their fields.
use Rattle.std.proofs.Common.{◌≡◌, ◌≢◌, ℕ, ◌+◌, ◌*◌, ◌<◌, ◌^◌, List, [], ◌∷◌, None, Bool, true, false, refl, ap, sym, ◌∙◌, arith, bit_and, ne_eqb, eqb-true, inl, inr, ◌&&◌, ◌||◌}
use Rattle.std.specs.Prelude.{filter, find, ◌⊎◌, ◌==◌}
use Rattle.std.specs.List.{list_all}
use Rattle.std.proofs.lemmas.Bool.{and_parts, both_ways}
use Rattle.std.proofs.lemmas.Bool.Decides.{nat_tests}
use Rattle.std.proofs.lemmas.Nat.{and_assoc}
use Rattle.rv_word.specs.declared.operations.AluOp.{AluOp}
use Rattle.rv_word.specs.declared.operations.AluOp.TheVariants.{Add, Sub, Sll, Slt, Sltu, Xor, Srl, Sra, Or, And}
use Rattle.rv_word.specs.declared.operations.BranchOp.{BranchOp}
use Rattle.rv_word.specs.declared.operations.BranchOp.TheVariants.{Beq, Bne, Blt, Bge, Bltu, Bgeu}
use Rattle.rv_decode.specs.Codes.{opcode_of, funct3_of, funct7_of, branch_code, load_code, store_code, alu_code, alu_code7, cico_code}
use Rattle.rv_decode.specs.Table.{Row, matches, meaning, instruction_table, decode_of, rd_of}
use Rattle.rv_decode.specs.declared.instr.LoadOp.{LoadOp}
use Rattle.rv_decode.specs.declared.instr.LoadOp.TheVariants.{Lb, Lh, Lw, Lbu, Lhu}
use Rattle.rv_decode.specs.declared.instr.StoreOp.{StoreOp}
use Rattle.rv_decode.specs.declared.instr.StoreOp.TheVariants.{Sb, Sh, Sw}
use Rattle.rv_decode.specs.declared.instr.CicoOp.{CicoOp}
use Rattle.rv_decode.specs.declared.instr.CicoOp.TheVariants.{CheckOutS, CheckOutX, CheckIn}
use Rattle.rv_decode.specs.declared.instr.Instr.TheVariants.{Illegal}
use Rattle.rv_decode.proofs.Masks.{mask_opcode, mask_funct3, mask_funct7, mask_rd, mask_word}
use Rattle.rv_decode.proofs.Search.{agrees, narrowed}

-- the word matches none of the rows
abbrev AllMiss : ℕ → List Row → Type 0
AllMiss word [] = Unit {0}
AllMiss word (r ∷ rs) = (bit_and word r.mask ≢ r.match) × AllMiss word rs

find-none : (word : ℕ) (rows : List Row) → AllMiss word rows → find (matches word) rows ≡ None
find-none word [] miss = refl
find-none word (r ∷ rs) miss = rw (ne_eqb _ _ miss.0) (find-none word rs miss.1)

-- none of the rows with this opcode
none_left : (op word : ℕ) → opcode_of word ≡ op → AllMiss word (filter (agrees 0x7f op) instruction_table) → decode_of word ≡ Illegal
none_left op word h miss = narrowed word 0x7f op (mask_opcode word ∙ h) ∙ ap (meaning word) (find-none word _ miss)

pub jalr_illegal : (word : ℕ) → opcode_of word ≡ 0x67 → funct3_of word ≢ 0 → decode_of word ≡ Illegal
unfolding instruction_table
jalr_illegal word h n =
    let m = mask_funct3 word in
    none_left 0x67 word h ((λ e. omega arith), tt)

pub fence_illegal : (word : ℕ) → opcode_of word ≡ 0x0f → funct3_of word ≢ 0 → decode_of word ≡ Illegal
unfolding instruction_table
fence_illegal word h n =
    let m = mask_funct3 word in
    none_left 0x0f word h ((λ e. omega arith), tt)

pub branch_illegal : (word : ℕ) → opcode_of word ≡ 0x63 → ((op : BranchOp) → branch_code op ≢ funct3_of word) → decode_of word ≡ Illegal
unfolding instruction_table
branch_illegal word h n =
    let m = mask_funct3 word in
    let miss = λ (op : BranchOp) (e : bit_and word 0x707f ≡ branch_code op * 4096 + 0x63). n op (omega arith) in
    none_left 0x63 word h (miss Beq, (miss Bne, (miss Blt, (miss Bge, (miss Bltu, (miss Bgeu, tt))))))

pub load_illegal : (word : ℕ) → opcode_of word ≡ 0x03 → ((op : LoadOp) → load_code op ≢ funct3_of word) → decode_of word ≡ Illegal
unfolding instruction_table
load_illegal word h n =
    let m = mask_funct3 word in
    let miss = λ (op : LoadOp) (e : bit_and word 0x707f ≡ load_code op * 4096 + 0x03). n op (omega arith) in
    none_left 0x03 word h (miss Lb, (miss Lh, (miss Lw, (miss Lbu, (miss Lhu, tt)))))

pub store_illegal : (word : ℕ) → opcode_of word ≡ 0x23 → ((op : StoreOp) → store_code op ≢ funct3_of word) → decode_of word ≡ Illegal
unfolding instruction_table
store_illegal word h n =
    let m = mask_funct3 word in
    let miss = λ (op : StoreOp) (e : bit_and word 0x707f ≡ store_code op * 4096 + 0x23). n op (omega arith) in
    none_left 0x23 word h (miss Sb, (miss Sh, (miss Sw, tt)))

alu_code-lt : (op : AluOp) → alu_code op < 8
alu_code-lt Add = omega arith
alu_code-lt Sub = omega arith
alu_code-lt Sll = omega arith
alu_code-lt Slt = omega arith
alu_code-lt Sltu = omega arith
alu_code-lt Xor = omega arith
alu_code-lt Srl = omega arith
alu_code-lt Sra = omega arith
alu_code-lt Or = omega arith
alu_code-lt And = omega arith

-- the fields of a word under the mask of funct7
same_fields : (word op f3 f7 : ℕ) → f3 < 8 → op < 128 → bit_and word 0xfe00707f ≡ f7 * 33554432 + f3 * 4096 + op → (f3 ≡ funct3_of word) × (f7 ≡ funct7_of word)
same_fields word op f3 f7 h3 h e = let m = mask_funct7 word in (omega arith, omega arith)

-- shifts: with this funct3 no other operation on a constant is meant
pub shift_illegal : (word : ℕ) → opcode_of word ≡ 0x13 → (funct3_of word ≡ 1) ⊎ (funct3_of word ≡ 5) → ((op : AluOp) → alu_code op ≡ funct3_of word → alu_code7 op ≢ funct7_of word) → decode_of word ≡ Illegal
unfolding instruction_table
shift_illegal word h s n =
    let m = mask_funct3 word in
    let other : (f : ℕ) → f ≢ 1 → f ≢ 5 → bit_and word 0x707f ≢ f * 4096 + 0x13 = λ f n1 n5 e. elim s [ inl a ↦ n1 (omega arith) | inr a ↦ n5 (omega arith) ] in
    let miss = λ (op : AluOp) (e : bit_and word 0xfe00707f ≡ alu_code7 op * 33554432 + alu_code op * 4096 + 0x13).
    let same = same_fields word 0x13 (alu_code op) (alu_code7 op) (alu_code-lt op) (omega arith) e in n op same.0 same.1 in
    none_left 0x13 word h (
      other 0 (omega arith) (omega arith),
      (
        other 2 (omega arith) (omega arith),
        (
          other 3 (omega arith) (omega arith),
          (
            other 4 (omega arith) (omega arith),
            (
              other 6 (omega arith) (omega arith),
              (
                other 7 (omega arith) (omega arith),
                (miss Sll, (miss Srl, (miss Sra, tt))),
              ),
            ),
          ),
        ),
      ),
    )

pub register_illegal : (word : ℕ) → opcode_of word ≡ 0x33 → ((op : AluOp) → alu_code op ≡ funct3_of word → alu_code7 op ≢ funct7_of word) → decode_of word ≡ Illegal
unfolding instruction_table
register_illegal word h n =
    let miss = λ (op : AluOp) (e : bit_and word 0xfe00707f ≡ alu_code7 op * 33554432 + alu_code op * 4096 + 0x33).
    let same = same_fields word 0x33 (alu_code op) (alu_code7 op) (alu_code-lt op) (omega arith) e in n op same.0 same.1 in
    none_left 0x33 word h
    (miss Add, (miss Sub, (miss Sll, (miss Slt, (miss Sltu, (miss Xor, (miss Srl, (miss Sra, (miss Or, (miss And, tt))))))))))

pub system_illegal : (word : ℕ) → word < 2 ^ 32 → opcode_of word ≡ 0x73 → word ≢ 0x73 → word ≢ 0x100073 → decode_of word ≡ Illegal
unfolding instruction_table
system_illegal word small h n n1 =
    let m = mask_word word small in
    none_left 0x73 word h ((λ e. n (omega arith)), ((λ e. n1 (omega arith)), tt))

pub cico_illegal : (word : ℕ) → opcode_of word ≡ 0x0b → ((op : CicoOp) → cico_code op ≢ funct3_of word) → decode_of word ≡ Illegal
unfolding instruction_table
cico_illegal word h n =
    let m = mask_rd word in
    let miss = λ (op : CicoOp) (e : bit_and word 0x7fff ≡ cico_code op * 4096 + 0x0b). n op (omega arith) in
    none_left 0x0b word h (miss CheckOutS, (miss CheckOutX, (miss CheckIn, tt)))

pub cico_with_rd : (word : ℕ) → opcode_of word ≡ 0x0b → rd_of word ≢ 0 → decode_of word ≡ Illegal
unfolding instruction_table
cico_with_rd word h n =
    let m = mask_rd word in
    let miss = λ (op : CicoOp) (e : bit_and word 0x7fff ≡ cico_code op * 4096 + 0x0b). n (omega arith) in
    none_left 0x0b word h (miss CheckOutS, (miss CheckOutX, (miss CheckIn, tt)))

-- the opcodes of the table
abbrev is_used : ℕ → Bool
is_used op =
    op == 0x37 || (op == 0x17 || (op == 0x6f || (op == 0x67 || (op == 0x63 || (op == 0x03 || (op == 0x23 || (op == 0x13 || (op == 0x33 || (op == 0x0f || (op == 0x73 || op == 0x0b))))))))))

-- a row that tests the opcode, which is a used one
abbrev has_used : Row → Bool
has_used r = bit_and r.mask 0x7f == 0x7f && is_used (bit_and r.match 0x7f)

unused-miss : (word : ℕ) → is_used (opcode_of word) ≡ false → (r : Row) → has_used r ≡ true → bit_and word r.mask ≢ r.match
unused-miss word n r h e =
    let parts = and_parts (bit_and r.mask 0x7f == 0x7f) (is_used (bit_and r.match 0x7f)) h in
    let same : bit_and r.match 0x7f ≡ opcode_of word = ap (λ v. bit_and v 0x7f) (sym e) ∙ (and_assoc 0x7f word r.mask ∙ (ap (bit_and word) (eqb-true _ _ parts.0) ∙ mask_opcode word)) in
    both_ways (is_used (opcode_of word)) n (ap is_used (sym same) ∙ parts.1)

all-miss : (word : ℕ) → is_used (opcode_of word) ≡ false → (rows : List Row) → list_all has_used rows ≡ true → AllMiss word rows
all-miss word n [] all = tt
all-miss word n (r ∷ rs) all =
    let parts = and_parts (has_used r) (list_all has_used rs) all in
    (unused-miss word n r parts.0, all-miss word n rs parts.1)

unused_illegal : (word : ℕ) → is_used (opcode_of word) ≡ false → decode_of word ≡ Illegal
unfolding instruction_table decode_of
unused_illegal word n = ap (meaning word) (find-none word instruction_table (all-miss word n instruction_table refl))

is_used-false : (op : ℕ) → op ≢ 0x37 → op ≢ 0x17 → op ≢ 0x6f → op ≢ 0x67 → op ≢ 0x63 → op ≢ 0x03 → op ≢ 0x23 → op ≢ 0x13 → op ≢ 0x33 → op ≢ 0x0f → op ≢ 0x73 → op ≢ 0x0b → is_used op ≡ false
is_used-false op n1 n2 n3 n4 n5 n6 n7 n8 n9 n10 n11 n12 = grind (arith, nat_tests)

pub opcode_illegal : (word : ℕ) → opcode_of word ≢ 0x37 → opcode_of word ≢ 0x17 → opcode_of word ≢ 0x6f → opcode_of word ≢ 0x67 → opcode_of word ≢ 0x63 → opcode_of word ≢ 0x03 → opcode_of word ≢ 0x23 → opcode_of word ≢ 0x13 → opcode_of word ≢ 0x33 → opcode_of word ≢ 0x0f → opcode_of word ≢ 0x73 → opcode_of word ≢ 0x0b → decode_of word ≡ Illegal
opcode_illegal word n1 n2 n3 n4 n5 n6 n7 n8 n9 n10 n11 n12 =
    unused_illegal word (is_used-false (opcode_of word) n1 n2 n3 n4 n5 n6 n7 n8 n9 n10 n11 n12)
