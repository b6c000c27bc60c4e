use Rattle.std.proofs.Common.{◌≡◌, ◌⊎◌, w32, sym, ◌∙◌, arith, inl, inr}
use Rattle.std.proofs.lemmas.Int.{to_z_pos}
use Rattle.rv_decode.specs.Codes.{alu_code}
use Rattle.rv_decode.proofs.Rows.{shift_row, shift_by_code}
use Rattle.rv_decode.proofs.decoder.shift.Goals as goal

pub returns-in-Some : goal.returns-in-Some
returns-in-Some c =
    let code : alu_code c.in-Some.op ≡ c.bits.result = c.in-Some.ensures.0 in
    let plain = to_z_pos w32 c.bits-in-Some.result (omega arith) in
    let shift : (alu_code c.in-Some.op ≡ 1) ⊎ (alu_code c.in-Some.op ≡ 5) =
    elim c.requires.shift [ inl one ↦ inl (omega arith) | inr five ↦ inr (omega arith) ] in
    let meant =
    shift_row c.in-Some.op (shift_by_code c.in-Some.op shift) c.args.word c.requires.opcode
    (sym (c.in-Some.ensures.0 ∙ c.bits.ensures.value))
    (sym (c.in-Some.ensures.1 ∙ c.bits-funct7.ensures.value)) in
    cc
