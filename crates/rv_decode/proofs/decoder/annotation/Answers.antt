use Rattle.std.proofs.Common.{◌≡◌, FitsSigned, w32, sym, ◌∙◌, arith, rules}
use Rattle.std.proofs.lemmas.Int.{to_z-of_z}
use Rattle.rv_decode.specs.Table.{rd_of}
use Rattle.rv_decode.proofs.Rows.{cico_row}
use Rattle.rv_decode.proofs.decoder.annotation.Goals as goal

pub returns-in-Some : goal.returns-in-Some
returns-in-Some c =
    let fits : FitsSigned w32 c.cast_signed.result = search rules in
    let plain = to_z-of_z w32 c.cast_signed.result fits in
    let no_rd : rd_of c.args.word ≡ 0 = omega arith in
    let meant = cico_row c.in-Some.op c.args.word c.requires (sym (c.in-Some.ensures ∙ c.bits-2.ensures.value)) no_rd in
    cc
