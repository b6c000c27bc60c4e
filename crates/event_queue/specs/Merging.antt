-- Messages that are kept in two parts. Own.
use Rattle.std.specs.Prelude.{Bool, true, false, List, [], ◌∷◌, Option, Some, None}
use Rattle.std.specs.List.{All}
use Rattle.std.specs.Ordering.{is_lt}
use Rattle.wt_proto.specs.declared.key.Key.{Key}
use Rattle.wt_proto.specs.declared.message.Stamped.{Stamped}
use Rattle.wt_proto.specs.KeyOrder.{key_cmp}
use Rattle.wt_proto.specs.Messages.{key_of}
use Rattle.event_queue.specs.Rising.{IsRising, HasNoKey, insert_of}

-- the messages of both parts, each in its place
abbrev pub merged : List Stamped → List Stamped → List Stamped
merged [] far = far
merged (message ∷ near) far = insert_of message (merged near far)

-- whether the first of the near messages comes before the first of the far ones, by their keys
abbrev pub is_sooner : Option Key → Option Key → Bool
is_sooner None far = false
is_sooner (Some near) None = true
is_sooner (Some near) (Some far) = is_lt (key_cmp near far)

-- A key is in one part alone, and the messages of both rise.
pub record AreParts (near far : List Stamped) : Type 0 where
  pub apart : All (λ message. HasNoKey (key_of message) far) near
  pub rising : IsRising (merged near far)
