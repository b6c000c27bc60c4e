-- Messages in rising order of their keys. Own.
use Rattle.std.specs.Prelude.{◌≢◌, Bool, IsTrue, List, [], ◌∷◌, map, Option, Some, None, if◌then◌else◌}
use Rattle.std.specs.List.{All}
use Rattle.std.specs.Ordering.{is_lt}
use Rattle.std.specs.FinMap.{is_sorted}
use Rattle.wt_proto.specs.declared.key.Key.{Key}
use Rattle.wt_proto.specs.declared.message.Msg.{Msg}
use Rattle.wt_proto.specs.declared.message.Stamped.{Stamped}
use Rattle.wt_proto.specs.KeyOrder.{key_cmp}
use Rattle.wt_proto.specs.Messages.{key_of}

-- messages under their keys
abbrev pub entries_of : List Stamped → List (Key × Msg)
entries_of messages = map (λ message. (key_of message, message.msg)) messages

-- each key is below those after it
abbrev pub IsRising : List Stamped → Type 0
IsRising messages = IsTrue (is_sorted key_cmp (entries_of messages))

-- no message has this key
abbrev pub HasNoKey : Key → List Stamped → Type 0
HasNoKey key messages = All (λ message. key_of message ≢ key) messages

-- whether a message comes before a key
abbrev pub is_before : Key → Stamped → Bool
is_before key message = is_lt (key_cmp (key_of message) key)

-- a message in its place: after the messages of lesser keys, before all others
abbrev pub insert_of : Stamped → List Stamped → List Stamped
insert_of message [] = message ∷ []
insert_of message (first ∷ rest) =
    if is_before (key_of message) first then first ∷ insert_of message rest else message ∷ first ∷ rest

-- the key of the first message
abbrev pub peek_of : List Stamped → Option Key
peek_of [] = None
peek_of (first ∷ rest) = Some (key_of first)
