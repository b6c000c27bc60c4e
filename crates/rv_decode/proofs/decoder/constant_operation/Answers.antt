use Rattle.std.proofs.Common.{◌≡◌, sym, ◌∙◌}
use Rattle.rv_word.specs.declared.operations.AluOp.TheVariants.{Add, Slt, Sltu, Xor, Or, And}
use Rattle.rv_decode.specs.Codes.{funct3_of}
use Rattle.rv_decode.proofs.Rows.{constant_row}
use Rattle.rv_decode.proofs.decoder.constant_operation.Goals as goal

pub returns-in-0 : goal.returns-in-0
returns-in-0 c =
    let code : funct3_of c.args.word ≡ 0 = cc in
    c.constant.ensures ∙ sym (constant_row Add tt c.args.word c.requires code)

pub returns-in-2 : goal.returns-in-2
returns-in-2 c =
    let code : funct3_of c.args.word ≡ 2 = cc in
    c.constant-in-2.ensures ∙ sym (constant_row Slt tt c.args.word c.requires code)

pub returns-in-3 : goal.returns-in-3
returns-in-3 c =
    let code : funct3_of c.args.word ≡ 3 = cc in
    c.constant-in-3.ensures ∙ sym (constant_row Sltu tt c.args.word c.requires code)

pub returns-in-4 : goal.returns-in-4
returns-in-4 c =
    let code : funct3_of c.args.word ≡ 4 = cc in
    c.constant-in-4.ensures ∙ sym (constant_row Xor tt c.args.word c.requires code)

pub returns-in-6 : goal.returns-in-6
returns-in-6 c =
    let code : funct3_of c.args.word ≡ 6 = cc in
    c.constant-in-6.ensures ∙ sym (constant_row Or tt c.args.word c.requires code)

pub returns-in-7 : goal.returns-in-7
returns-in-7 c =
    let code : funct3_of c.args.word ≡ 7 = cc in
    c.constant-in-7.ensures ∙ sym (constant_row And tt c.args.word c.requires code)
