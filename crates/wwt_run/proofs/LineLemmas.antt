-- A line that is written in parts, and told by it.
use Rattle.std.proofs.Common.{◌≡◌, ℕ, ◌+◌, ◌<◌, List, Result, Ok, Err, flat_map, length, take, get_or, refl}
use Rattle.std.specs.Borrow.{Bor}
use Rattle.std.proofs.lemmas.List.{get_or_default}
use Rattle.wt_outside.specs.Views.{SinkView}
use Rattle.wt_outside.specs.Writes.{Writes}
use Rattle.wt_outside.specs.declared.fault.WriteFault.{WriteFault}
use Rattle.wt_outside.specs.declared.fault.WriteFault.TheVariants.{Failed}
use Rattle.wt_outside.proofs.FaultLemmas.{not_both}
use Rattle.wt_outside.proofs.GrowthLemmas.{prefix_all}
use Rattle.wt_outside.proofs.WriteLemmas.{HasWritten, writes_all, writes_until, written_by, written_more}
use Rattle.wwt_run.specs.Answer.{Tells}

-- the text of a part
abbrev pub text : Bor (List ℕ) → List ℕ
text part = part.now

module _ {E : Type 0} {view : SinkView E} {old new : E} (parts : List (Bor (List ℕ))) (i : ℕ) where
  -- one more part is written
  pub part_more : {middle : E} (d : Bor (List ℕ)) → i < length parts → HasWritten (flat_map text (take i parts)) view old middle → Writes {T = Unit {0}} (get_or parts i d).now (Ok tt) view middle new → HasWritten (flat_map text (take (i + 1) parts)) view old new
  part_more d within before more =
      written_more text parts i (get_or parts i d) within (get_or_default parts i d (get_or parts i d) within) before more

  -- the line is written up to where a part failed
  pub told_until : {middle : E} (d : Bor (List ℕ)) (fault : WriteFault) → i < length parts → fault ≡ Failed → HasWritten (flat_map text (take i parts)) view old middle → Writes {T = Unit {0}} (get_or parts i d).now (Err fault) view middle new → Tells (flat_map text parts) view old new
  told_until d fault within is before more =
      let stopped = writes_until text parts i (get_or parts i d) within (get_or_default parts i d (get_or parts i d) within) before more in
      record {
        whole = λ stood. absurd (not_both _ _ (stopped.failed (λ j. Err (is j))) stood);
        part = stopped.part;
      }

  -- all parts are written
  pub told_whole : i ≡ length parts → HasWritten (flat_map text (take i parts)) view old new → Tells (flat_map text parts) view old new
  told_whole end written =
      let all = written_by {T = Unit {0}} {value = tt} (writes_all text parts i end written) in
      record { whole = λ stood. all.grew; part = prefix_all all.grew }
