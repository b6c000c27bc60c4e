use Rattle.std.proofs.Common.{FitsSigned, w32, sym, ◌∙◌, rules}
use Rattle.std.proofs.lemmas.Int.{to_z-of_z}
use Rattle.rv_decode.proofs.Rows.{load_row}
use Rattle.rv_decode.proofs.decoder.load.Goals as goal

pub returns-in-Some : goal.returns-in-Some
returns-in-Some c =
    let fits : FitsSigned w32 c.cast_signed.result = search rules in
    let plain = to_z-of_z w32 c.cast_signed.result fits in
    let meant = load_row c.in-Some.op c.args.word c.requires (sym (c.in-Some.ensures ∙ c.bits.ensures.value)) in
    cc
