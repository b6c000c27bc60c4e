use Rattle.std.proofs.Common.{◌≡◌, FitsSigned, w32, sym, arith, rules}
use Rattle.std.proofs.lemmas.Int.{to_z-of_z}
use Rattle.rv_decode.specs.Codes.{opcode_of}
use Rattle.rv_decode.proofs.Illegal.{opcode_illegal}
use Rattle.rv_decode.proofs.Rows.{lui_row, auipc_row, jal_row}
use Rattle.rv_decode.proofs.WellFormed.{well_formed}
use Rattle.rv_decode.proofs.decoder.decode.Goals as goal

pub returns-in-55-clause-table : goal.returns-in-55-clause-table
returns-in-55-clause-table c =
    let opcode : opcode_of c.args.word ≡ 0x37 = cc in let meant = lui_row c.args.word opcode in cc

pub returns-in-23-clause-table : goal.returns-in-23-clause-table
returns-in-23-clause-table c =
    let opcode : opcode_of c.args.word ≡ 0x17 = cc in let meant = auipc_row c.args.word opcode in cc

pub returns-in-111-clause-table : goal.returns-in-111-clause-table
returns-in-111-clause-table c =
    let fits : FitsSigned w32 c.cast_signed.result = search rules in
    let plain = to_z-of_z w32 c.cast_signed.result fits in
    let opcode : opcode_of c.args.word ≡ 0x6f = cc in let meant = jal_row c.args.word opcode in cc

pub returns-in-103-clause-fields : goal.returns-in-103-clause-fields
returns-in-103-clause-fields c = rw c.indirect_jump.ensures (well_formed c.args.word)

pub returns-in-99-clause-fields : goal.returns-in-99-clause-fields
returns-in-99-clause-fields c = rw c.branch-word.ensures (well_formed c.args.word)

pub returns-in-3-clause-fields : goal.returns-in-3-clause-fields
returns-in-3-clause-fields c = rw c.load.ensures (well_formed c.args.word)

pub returns-in-35-clause-fields : goal.returns-in-35-clause-fields
returns-in-35-clause-fields c = rw c.store.ensures (well_formed c.args.word)

pub returns-in-19-clause-fields : goal.returns-in-19-clause-fields
returns-in-19-clause-fields c = rw c.constant_operation.ensures (well_formed c.args.word)

pub returns-in-51-clause-fields : goal.returns-in-51-clause-fields
returns-in-51-clause-fields c = rw c.operation.ensures (well_formed c.args.word)

pub returns-in-15-clause-fields : goal.returns-in-15-clause-fields
returns-in-15-clause-fields c = rw c.fence.ensures (well_formed c.args.word)

pub returns-in-115-clause-fields : goal.returns-in-115-clause-fields
returns-in-115-clause-fields c = rw c.system.ensures (well_formed c.args.word)

pub returns-in-11-clause-fields : goal.returns-in-11-clause-fields
returns-in-11-clause-fields c = rw c.annotation.ensures (well_formed c.args.word)

pub returns-in_default-clause-table : goal.returns-in_default-clause-table
returns-in_default-clause-table c =
    sym
    (opcode_illegal c.args.word (omega arith) (omega arith) (omega arith) (omega arith) (omega arith) (omega arith) (omega arith) (omega arith) (omega arith) (omega arith) (omega arith) (omega arith))
