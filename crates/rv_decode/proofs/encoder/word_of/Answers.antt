use Rattle.std.proofs.Common.{◌∙◌, refl, sym, rules, w32}
use Rattle.std.proofs.lemmas.Int.{to_z-of_z}
use Rattle.rv_decode.specs.declared.instr.Instr.TheVariants.{Lui, Auipc, Jal, Jalr, Branch, Load, Store, Op, Cico}
use Rattle.rv_decode.proofs.Congruence.{same_two, same_three}
use Rattle.rv_decode.proofs.Rows.{lui_row, auipc_row, jal_row, jalr_row, branch_row, load_row, store_row, register_row, fence_row, ecall_row, ebreak_row, cico_row}
use Rattle.rv_decode.proofs.encoder.word_of.Goals as goal

pub returns-in-Lui-clause-meaning : goal.returns-in-Lui-clause-meaning
returns-in-Lui-clause-meaning c =
    lui_row _ c.u_word.ensures.opcode
    ∙ (same_two Lui c.u_word.ensures.rd c.u_word.ensures.imm
    ∙ sym c.in-Lui.is)

pub returns-in-Auipc-clause-meaning : goal.returns-in-Auipc-clause-meaning
returns-in-Auipc-clause-meaning c =
    auipc_row _ c.u_word-in-Auipc.ensures.opcode
    ∙ (same_two Auipc c.u_word-in-Auipc.ensures.rd c.u_word-in-Auipc.ensures.imm
    ∙ sym c.in-Auipc.is)

pub returns-in-Jal-clause-meaning : goal.returns-in-Jal-clause-meaning
returns-in-Jal-clause-meaning c =
    jal_row _ c.j_word.ensures.opcode
    ∙ (same_two Jal c.j_word.ensures.rd (c.j_word.ensures.imm ∙ to_z-of_z w32 c.in-Jal.imm (search rules))
    ∙ sym c.in-Jal.is)

pub returns-in-Jalr-clause-meaning : goal.returns-in-Jalr-clause-meaning
returns-in-Jalr-clause-meaning c =
    jalr_row _ c.i_word.ensures.opcode c.i_word.ensures.funct3
    ∙ (same_three Jalr c.i_word.ensures.rd c.i_word.ensures.rs1 (c.i_word.ensures.imm ∙ to_z-of_z w32 c.in-Jalr.imm (search rules))
    ∙ sym c.in-Jalr.is)

pub returns-in-Branch-clause-meaning : goal.returns-in-Branch-clause-meaning
returns-in-Branch-clause-meaning c =
    branch_row c.in-Branch.op _ c.b_word.ensures.opcode (c.b_word.ensures.funct3 ∙ c.funct3_of_branch.ensures.value)
    ∙ (same_three (Branch c.in-Branch.op) c.b_word.ensures.rs1 c.b_word.ensures.rs2 (c.b_word.ensures.imm ∙ to_z-of_z w32 c.in-Branch.imm (search rules))
    ∙ sym c.in-Branch.is)

pub returns-in-Load-clause-meaning : goal.returns-in-Load-clause-meaning
returns-in-Load-clause-meaning c =
    load_row c.in-Load.op _ c.i_word-in-Load.ensures.opcode (c.i_word-in-Load.ensures.funct3 ∙ c.funct3_of_load.ensures.value)
    ∙ (same_three (Load c.in-Load.op) c.i_word-in-Load.ensures.rd c.i_word-in-Load.ensures.rs1 (c.i_word-in-Load.ensures.imm ∙ to_z-of_z w32 c.in-Load.imm (search rules))
    ∙ sym c.in-Load.is)

pub returns-in-Store-clause-meaning : goal.returns-in-Store-clause-meaning
returns-in-Store-clause-meaning c =
    store_row c.in-Store.op _ c.s_word.ensures.opcode (c.s_word.ensures.funct3 ∙ c.funct3_of_store.ensures.value)
    ∙ (same_three (Store c.in-Store.op) c.s_word.ensures.rs1 c.s_word.ensures.rs2 (c.s_word.ensures.imm ∙ to_z-of_z w32 c.in-Store.imm (search rules))
    ∙ sym c.in-Store.is)

pub returns-in-Op-clause-meaning : goal.returns-in-Op-clause-meaning
returns-in-Op-clause-meaning c =
    register_row c.in-Op.op _ c.r_word.ensures.opcode (c.r_word.ensures.funct3 ∙ c.funct3_of_alu.ensures.value) (c.r_word.ensures.funct7 ∙ c.funct7_of_alu.ensures.value)
    ∙ (same_three (Op c.in-Op.op) c.r_word.ensures.rd c.r_word.ensures.rs1 c.r_word.ensures.rs2
    ∙ sym c.in-Op.is)

pub returns-in-Fence-clause-meaning : goal.returns-in-Fence-clause-meaning
returns-in-Fence-clause-meaning c =
    fence_row 0x0ff0000f refl refl ∙ sym c.in-Fence.is

pub returns-in-Ecall-clause-meaning : goal.returns-in-Ecall-clause-meaning
returns-in-Ecall-clause-meaning c =
    ecall_row 0x73 refl ∙ sym c.in-Ecall.is

pub returns-in-Ebreak-clause-meaning : goal.returns-in-Ebreak-clause-meaning
returns-in-Ebreak-clause-meaning c =
    ebreak_row 0x100073 refl ∙ sym c.in-Ebreak.is

pub returns-in-Cico-clause-meaning : goal.returns-in-Cico-clause-meaning
returns-in-Cico-clause-meaning c =
    cico_row c.in-Cico.op _ c.i_word-in-Cico.ensures.opcode (c.i_word-in-Cico.ensures.funct3 ∙ c.funct3_of_cico.ensures.value) c.i_word-in-Cico.ensures.rd
    ∙ (same_two (Cico c.in-Cico.op) c.i_word-in-Cico.ensures.rs1 (c.i_word-in-Cico.ensures.imm ∙ to_z-of_z w32 c.in-Cico.imm (search rules))
    ∙ sym c.in-Cico.is)
