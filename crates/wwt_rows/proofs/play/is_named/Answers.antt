use Rattle.std.proofs.Common.{◌≡◌, ◌≢◌, ℕ, false, arith, rules}
use Rattle.std.specs.Prelude.{Vec, String}
use Rattle.std.specs.Str.{bytes_eq}
use Rattle.std.specs.String.{string_bytes}
use Rattle.std.specs.declared.alloc.Global.{Global}
use Rattle.std.proofs.lemmas.Bool.Decides.{not_from_Decides}
use Rattle.std.proofs.lemmas.List.Elements.{AllWithin-more, at_read}
use Rattle.std.proofs.lemmas.Slice.Eq.{bytes_eq-Decides}
use Rattle.wwt_rows.proofs.play.is_named.Goals as goal

pub loop-other-preserved : goal.loop-other-preserved
loop-other-preserved c =
    let other : bytes_eq (string_bytes c.loop-other-item.result.0) c.args.name.now ≡ false = search rules in
    let differs = not_from_Decides _ (bytes_eq-Decides (string_bytes c.loop-other-item.result.0) c.args.name.now) other in
    let P : String Global × Vec ℕ Global → Type 0 = λ file. string_bytes file.0 ≢ c.args.name.now in
    AllWithin-more P c.args.files.now 0 c.loop-other.other-index c.loop-other.invariant
    (at_read c.args.files.now P c.loop-other.other-index c.loop-other-item.result (omega arith) c.loop-other-item.is differs)
