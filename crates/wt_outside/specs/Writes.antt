-- What a call does that writes one text. Own.
use Rattle.std.specs.Prelude.{◌≡◌, ◌≢◌, ℕ, ◌≤◌, List, Result, Err, OnOk}
use Rattle.wt_outside.specs.declared.fault.WriteFault.{WriteFault}
use Rattle.wt_outside.specs.declared.fault.WriteFault.TheVariants.{Failed}
use Rattle.wt_outside.specs.Faults.{Rose}
use Rattle.wt_outside.specs.Growth.{Grows, GrowsByPrefix}
use Rattle.wt_outside.specs.Views.{SinkView}

-- the text was written whole, or a first part of it where writing ended early; only the sink makes the fault `Failed`
pub record Writes {S T : Type 0} (text : List ℕ) (result : Result T WriteFault) (view : SinkView S) (old new : S) : Type 0 where
  pub whole : OnOk result (Grows (view.written old) (view.written new) text)
  pub part : GrowsByPrefix (view.written old) (view.written new) text
  pub failed : result ≡ Err Failed → Rose (view.faults old) (view.faults new)
  pub steady : (result ≢ Err Failed) → view.faults new ≡ view.faults old
  pub later : view.faults old ≤ view.faults new
