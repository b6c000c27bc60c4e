-- A test that computes: an instruction that passes it is encodable. It knows the kinds of instructions that the listings have.
use Rattle.std.proofs.Common.{◌≡◌, ◌<◌, ℕ, ℤ, pos, negsuc, ◌%◌, ◌^◌, ◌==◌, Bool, true, false, ◌&&◌, nat_lt, List, [], ◌∷◌, refl, rules, tests, arith}
use Rattle.std.specs.List.{All, list_all}
use Rattle.std.specs.Int.{w32, cast_unsigned}
use Rattle.std.specs.Int.Signed.{◌≤ℤ◌, le_z, le_z_yes}
use Rattle.std.proofs.lemmas.Bool.{false≢true}
use Rattle.std.proofs.lemmas.List.Elements.{All-nil, All-cons}
use Rattle.rv_word.specs.declared.operations.AluOp.TheVariants.{Add, Sll}
use Rattle.rv_decode.specs.declared.instr.Instr.{Instr}
use Rattle.rv_decode.specs.declared.instr.Instr.TheVariants.{Lui, Jal, Branch, Load, Store, OpImm, Op, Ecall, Cico}
use Rattle.rv_decode.specs.Fields.{IsEncodable, IsEven}

abbrev is_register : ℕ → Bool
is_register register = nat_lt register 32

abbrev is_within : ℤ → ℤ → ℤ → Bool
is_within least greatest imm = le_z least imm && le_z imm greatest

abbrev is_short : ℤ → Bool
is_short imm = is_within (negsuc 2047) (pos 2047) imm

abbrev is_even : ℤ → Bool
is_even imm = cast_unsigned w32 imm % 2 == 0

abbrev pub fits : Instr → Bool
fits (Lui rd imm) = is_register rd && nat_lt imm (2 ^ 20)
fits (Jal rd imm) = is_register rd && (is_within (negsuc 1048575) (pos 1048574) imm && is_even imm)
fits (Branch op rs1 rs2 imm) =
    is_register rs1 && (is_register rs2 && (is_within (negsuc 4095) (pos 4094) imm && is_even imm))
fits (Load op rd rs1 imm) = is_register rd && (is_register rs1 && is_short imm)
fits (Store op rs1 rs2 imm) = is_register rs1 && (is_register rs2 && is_short imm)
fits (OpImm Add rd rs1 imm) = is_register rd && (is_register rs1 && is_short imm)
fits (OpImm Sll rd rs1 imm) = is_register rd && (is_register rs1 && is_within (pos 0) (pos 31) imm)
fits (Op op rd rs1 rs2) = is_register rd && (is_register rs1 && is_register rs2)
fits Ecall = true
fits (Cico op rs1 imm) = is_register rs1 && is_short imm
fits _ = false

both : (a b : Bool) → (a && b) ≡ true → (a ≡ true) × (b ≡ true)
both true b h = (refl, h)
both false b h = absurd (false≢true h)

le_of : (a b : ℤ) → le_z a b ≡ true → a ≤ℤ b
le_of a b h = le_z_yes (rw h tt)

below : (a b : ℕ) → nat_lt a b ≡ true → a < b
below a b h = search (rules, tests)

even_of : (imm : ℤ) → is_even imm ≡ true → IsEven imm
even_of imm h = search (rules, tests)

pub encodable_of : (instr : Instr) → fits instr ≡ true → IsEncodable instr
encodable_of (Lui rd imm) h =
    let p = both _ _ h in record { legal = grind arith; fields = (below _ _ p.0, below _ _ p.1) }
encodable_of (Jal rd imm) h =
    let p = both _ _ h in
    let q = both _ _ p.1 in
    let r = both _ _ q.0 in
    record {
      legal = grind arith;
      fields = (below _ _ p.0, record { at_least = le_of _ _ r.0; at_most = le_of _ _ r.1; even = even_of imm q.1 });
    }
encodable_of (Branch op rs1 rs2 imm) h =
    let p = both _ _ h in
    let q = both _ _ p.1 in
    let s = both _ _ q.1 in
    let r = both _ _ s.0 in
    record {
      legal = grind arith;
      fields =
          (below _ _ p.0, below _ _ q.0, record { at_least = le_of _ _ r.0; at_most = le_of _ _ r.1; even = even_of imm s.1 });
    }
encodable_of (Load op rd rs1 imm) h =
    let p = both _ _ h in
    let q = both _ _ p.1 in
    let r = both _ _ q.1 in
    record {
      legal = grind arith;
      fields = (below _ _ p.0, below _ _ q.0, record { at_least = le_of _ _ r.0; at_most = le_of _ _ r.1 });
    }
encodable_of (Store op rs1 rs2 imm) h =
    let p = both _ _ h in
    let q = both _ _ p.1 in
    let r = both _ _ q.1 in
    record {
      legal = grind arith;
      fields = (below _ _ p.0, below _ _ q.0, record { at_least = le_of _ _ r.0; at_most = le_of _ _ r.1 });
    }
encodable_of (OpImm Add rd rs1 imm) h =
    let p = both _ _ h in
    let q = both _ _ p.1 in
    let r = both _ _ q.1 in
    record {
      legal = grind arith;
      fields = (below _ _ p.0, below _ _ q.0, record { at_least = le_of _ _ r.0; at_most = le_of _ _ r.1 });
    }
encodable_of (OpImm Sll rd rs1 imm) h =
    let p = both _ _ h in
    let q = both _ _ p.1 in
    let r = both _ _ q.1 in
    record {
      legal = grind arith;
      fields = (below _ _ p.0, below _ _ q.0, record { at_least = le_of _ _ r.0; at_most = le_of _ _ r.1 });
    }
encodable_of (Op op rd rs1 rs2) h =
    let p = both _ _ h in
    let q = both _ _ p.1 in
    record { legal = grind arith; fields = (below _ _ p.0, below _ _ q.0, below _ _ q.1) }
encodable_of Ecall h = record { legal = grind arith; fields = tt }
encodable_of (Cico op rs1 imm) h =
    let p = both _ _ h in
    let r = both _ _ p.1 in
    record {
      legal = grind arith;
      fields = (below _ _ p.0, record { at_least = le_of _ _ r.0; at_most = le_of _ _ r.1 });
    }
encodable_of _ h = absurd (false≢true h)

-- instructions that all pass the test
pub all_encodable : (instrs : List Instr) → list_all fits instrs ≡ true → All IsEncodable instrs
all_encodable [] h = All-nil IsEncodable
all_encodable (instr ∷ instrs) h =
    let p = both _ _ h in
    All-cons IsEncodable instr instrs (encodable_of instr p.0) (all_encodable instrs p.1)
