-- The lines of a block: the messages under way that go one way between its home and one node, in the order of their
-- keys. Own.
use Rattle.std.specs.Prelude.{◌≡◌, ℕ, ◌==◌, ◌&&◌, not, Bool, true, false, IsTrue, List, [], ◌∷◌, ◌++◌, map, Some, None}
use Rattle.std.specs.List.{filter, AllByRecursion}
use Rattle.std.specs.declared.cmp.Ordering.TheVariants.{Greater}
use Rattle.std.specs.Ordering.{eq_by_cmp}
use Rattle.std.specs.FinMap.{find, put, is_sorted}
use Rattle.std.specs.FinMap.Entries.{where_key}
use Rattle.wt_proto.specs.declared.key.Key.{Key}
use Rattle.wt_proto.specs.declared.message.Body.{Body}
use Rattle.wt_proto.specs.declared.message.Msg.{Msg}
use Rattle.wt_proto.specs.KeyOrder.{key_cmp}
use Rattle.coherence.specs.Pipes.{not_to_home_of, not_from_home_of, total}

-- those of some messages that are of a line
abbrev pub line : (Key × Msg → Bool) → List (Key × Msg) → List (Key × Msg)
line is_of messages = filter is_of messages

-- whether a message about a block goes from a node to its home, or comes to a node from it
abbrev pub goes_from : ℕ → ℕ → Key × Msg → Bool
goes_from block node message =
    (message.0.from == node) && ((message.1.block == block) && (not_to_home_of message.1.body == 0))

abbrev pub comes_to : ℕ → ℕ → Key × Msg → Bool
comes_to block node message =
    (message.0.to == node) && ((message.1.block == block) && (not_from_home_of message.1.body == 0))

abbrev pub bodies : List (Key × Msg) → List Body
bodies messages = map (λ (message : Key × Msg). message.1.body) messages

-- all messages but that of a key
abbrev pub without_key : Key → List (Key × Msg) → List (Key × Msg)
without_key key messages = where_key key_cmp (λ other. not (eq_by_cmp key_cmp key other)) messages

abbrev pub IsRising : List (Key × Msg) → Type 0
IsRising messages = IsTrue (is_sorted key_cmp messages)

-- Lines are first in, first out.
pub record LinesKeepOrder : Type 0 where
  -- A message under a new key, above those of its line, joins it at its end,
  pub joins : (is_of : Key × Msg → Bool) (key : Key) (msg : Msg) (messages : List (Key × Msg)) → IsRising messages →
      find key_cmp key messages ≡ None → AllByRecursion (λ other. key_cmp key other.0 ≡ Greater) (line is_of messages) →
      is_of (key, msg) ≡ true → line is_of (put key_cmp key msg messages) ≡ line is_of messages ++ (key, msg) ∷ []
  -- and leaves every other line.
  pub passes : (is_of : Key × Msg → Bool) (key : Key) (msg : Msg) (messages : List (Key × Msg)) →
      find key_cmp key messages ≡ None → is_of (key, msg) ≡ false → line is_of (put key_cmp key msg messages) ≡ line is_of messages
  -- The first of a line is taken from its front,
  pub taken : (is_of : Key × Msg → Bool) (first : Key × Msg) (messages rest : List (Key × Msg)) → IsRising messages →
      line is_of messages ≡ first ∷ rest → line is_of (without_key first.0 messages) ≡ rest
  -- and every other line is left.
  pub left : (is_of : Key × Msg → Bool) (key : Key) (msg : Msg) (messages : List (Key × Msg)) → IsRising messages →
      find key_cmp key messages ≡ Some msg → is_of (key, msg) ≡ false → line is_of (without_key key messages) ≡ line is_of messages
  -- Nothing but what goes to a home is in the lines there, and nothing but what comes from one in the lines back.
  pub goes : (block node : ℕ) (messages : List (Key × Msg)) → total not_to_home_of (bodies (line (goes_from block node) messages)) ≡ 0
  pub comes : (block node : ℕ) (messages : List (Key × Msg)) → total not_from_home_of (bodies (line (comes_to block node) messages)) ≡ 0
