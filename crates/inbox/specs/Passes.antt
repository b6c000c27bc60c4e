-- What contracts see of a pass, and what each pass keeps. Own.
use Rattle.std.specs.Prelude.{◌≡◌, ℕ, ◌≤◌, Bool, false, []}
use Rattle.std.specs.List.{All}
use Rattle.std.specs.declared.alloc.Global.{Global}
use Rattle.crossbeam_queue.specs.SegTies.{SegId}
use Rattle.wt_proto.specs.declared.message.Stamped.{Stamped}
use Rattle.inbox.specs.declared.view.View.{View}
use Rattle.inbox.specs.Views.{HasSource, IsInUse, TakesInOrder}

-- an inbox, by what tells it from others
abbrev pub InboxModel : Type 0
InboxModel = SegId Global

-- which inbox it is of, and what it knows
pub record PassModel : Type 0 where
  pub of : InboxModel
  pub view : View

-- The view has the range and the right that the pass has. It isn't left behind by a join. What was put in through it is of
-- its range, and where it may not take it has taken nothing.
pub record IsPass (lo hi : ℕ) (takes : Bool) (v : View) : Type 0 where
  pub low : v.lo ≡ lo
  pub high : v.hi ≡ hi
  pub right : v.takes ≡ takes
  pub range : v.lo ≤ v.hi
  pub in_use : IsInUse v
  pub within : All (λ (message : Stamped). HasSource v message.from) v.sent
  pub idle : v.takes ≡ false → v.taken ≡ []
  pub order : TakesInOrder v
