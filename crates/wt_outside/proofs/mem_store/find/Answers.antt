use Rattle.std.proofs.Common.{◌≡◌, true, false, sym, ap, ◌∙◌, arith, rules}
use Rattle.std.specs.Prelude.{Some}
use Rattle.std.specs.Str.{bytes_eq}
use Rattle.std.specs.String.{string_bytes}
use Rattle.std.specs.Cmp.Lexicographic.{nat_list_cmp_total}
use Rattle.std.specs.FinMap.{get-from_entries}
use Rattle.wt_outside.proofs.Found.{found, passed}
use Rattle.wt_outside.proofs.mem_store.find.Goals as goal

pub loop-file-init : goal.loop-file-init
loop-file-init c = sym (get-from_entries nat_list_cmp_total _ _)

pub returns-then-eq : goal.returns-then-eq
returns-then-eq c =
    let same : bytes_eq c.args.name.now (string_bytes c.loop-file-item.result.0) ≡ true = search rules in
    ap Some c.as_slice.ensures.value ∙ sym (found _ c.args.files.now c.loop-file.file-index _ (omega arith) c.loop-file-item.is same) ∙ c.loop-file.invariant

pub loop-file-preserved : goal.loop-file-preserved
loop-file-preserved c =
    let other : bytes_eq c.args.name.now (string_bytes c.loop-file-item.result.0) ≡ false = search rules in
    sym (passed _ c.args.files.now c.loop-file.file-index _ (omega arith) c.loop-file-item.is other) ∙ c.loop-file.invariant
