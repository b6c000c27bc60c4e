use Rattle.std.proofs.Common.{sym, ◌∙◌}
use Rattle.rv_decode.proofs.Rows.{register_row}
use Rattle.rv_decode.proofs.decoder.operation.Goals as goal

pub returns-in-Some : goal.returns-in-Some
returns-in-Some c =
    let meant =
    register_row c.in-Some.op c.args.word c.requires
    (sym (c.in-Some.ensures.0 ∙ c.bits.ensures.value))
    (sym (c.in-Some.ensures.1 ∙ c.bits-2.ensures.value)) in
    cc
