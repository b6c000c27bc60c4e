-- A queue, and the number of its messages. Own.
use Rattle.std.specs.Prelude.{◌≡◌, ℕ, List, length}
use Rattle.wt_proto.specs.declared.message.Stamped.{Stamped}
use Rattle.event_queue.specs.Rising.{IsRising}

pub record IsCounted (messages : List Stamped) (count : ℕ) : Type 0 where
  pub counted : count ≡ length messages
  pub rising : IsRising messages
