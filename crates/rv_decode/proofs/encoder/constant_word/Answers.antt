use Rattle.std.proofs.Common.{◌∙◌, ap, rules, w32}
use Rattle.std.specs.Prelude.{pos, unsigned_abs}
use Rattle.std.proofs.lemmas.Int.{to_z-of_z}
use Rattle.rv_decode.specs.declared.instr.Instr.TheVariants.{OpImm}
use Rattle.rv_decode.proofs.Congruence.{same_three}
use Rattle.rv_decode.proofs.Rows.{shift_row, constant_row, shift_by_name, short_by_name, amount_of_shift}
use Rattle.rv_decode.proofs.encoder.constant_word.Goals as goal

pub returns-in-Sll-clause-meaning : goal.returns-in-Sll-clause-meaning
returns-in-Sll-clause-meaning c =
    let shift = shift_by_name c.args.op c.in-Sll.is in
    let plain = to_z-of_z w32 c.args.imm (search rules) in
    let amount = amount_of_shift c.args.op c.args.imm shift c.requires.imm in
    shift_row c.args.op shift _ c.r_word.ensures.opcode
    (c.r_word.ensures.funct3 ∙ c.funct3_of_alu.ensures.value)
    (c.r_word.ensures.funct7 ∙ c.funct7_of_alu.ensures.value)
    ∙ same_three (OpImm c.args.op) c.r_word.ensures.rd c.r_word.ensures.rs1
    (ap pos c.r_word.ensures.rs2 ∙ (ap (λ z. pos (unsigned_abs z)) plain ∙ amount))

pub returns-in_default-clause-meaning : goal.returns-in_default-clause-meaning
returns-in_default-clause-meaning c =
    let short = short_by_name c.args.op c.args.imm c.requires.imm c.in_default.not-Sll c.in_default.not-Srl c.in_default.not-Sra in
    constant_row c.args.op short.0 _ c.i_word.ensures.opcode
    (c.i_word.ensures.funct3 ∙ c.funct3_of_alu-in_default.ensures.value)
    ∙ same_three (OpImm c.args.op) c.i_word.ensures.rd c.i_word.ensures.rs1
    (c.i_word.ensures.imm ∙ to_z-of_z w32 c.args.imm (search rules))
