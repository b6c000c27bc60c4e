-- What the nodes have sent and not deposited, by the nodes that it is to. Own.
use Rattle.std.specs.Prelude.{◌≡◌, ◌≢◌, ℕ, ◌<◌, ◌⊎◌, ◌==◌, List, [], ◌∷◌, ◌++◌, take, drop, if◌then◌else◌, slice_index_or, Option, Some, None}
use Rattle.wt_proto.specs.declared.message.Stamped.{Stamped}
use Rattle.core_steps.specs.Cores.{sent_to, under_keys}

abbrev pub HasSome : ℕ → List Stamped → Type 0
HasSome to messages = sent_to to messages ≢ []

abbrev pub HasNone : ℕ → List Stamped → Type 0
HasNone to messages = sent_to to messages ≡ []

-- nothing is to one of the first nodes, so many
abbrev pub HaveNone : ℕ → List Stamped → Type 0
HaveNone count messages = (to : ℕ) → to < count → HasNone to messages

-- the least of the first nodes that something is to
pub record IsFirstTo (count : ℕ) (messages : List Stamped) (to : ℕ) : Type 0 where
  pub exists : to < count
  pub some : HasSome to messages
  pub least : HaveNone to messages

-- nothing is left between the first nodes, so many
abbrev pub AreAllOut : ℕ → List (List Stamped) → Type 0
AreAllOut count outs = (from to : ℕ) → from < count → to < count → HasNone to (slice_index_or outs from [])

-- the least pair of them between which something is left
pub record IsFirstOut (count : ℕ) (outs : List (List Stamped)) (from to : ℕ) : Type 0 where
  pub source : from < count
  pub dest : to < count
  pub some : HasSome to (slice_index_or outs from [])
  pub least : (one other : ℕ) → one < count → other < count → (one < from) ⊎ ((one ≡ from) × (other < to)) → HasNone other (slice_index_or outs one [])

-- what is left of some messages once the first to a node is taken
abbrev pub IsLeft : ℕ → List Stamped → List Stamped → Type 0
IsLeft to before after =
    (other : ℕ) → sent_to other after ≡ (if other == to then drop 1 (sent_to to before) else sent_to other before)

abbrev pub first_of : Option Stamped → List Stamped
first_of None = []
first_of (Some message) = message ∷ []

-- the first message to a node was taken out, where there was one
pub record IsTaken (to : ℕ) (before after : List Stamped) (taken : Option Stamped) : Type 0 where
  pub first : under_keys (first_of taken) ≡ take 1 (sent_to to before)
  pub left : IsLeft to before after

-- and was put at the end of an inbox
pub record IsMoved (to : ℕ) (before inbox_before after inbox_after : List Stamped) : Type 0 where
  pub inbox : under_keys inbox_after ≡ under_keys inbox_before ++ take 1 (sent_to to before)
  pub left : IsLeft to before after
