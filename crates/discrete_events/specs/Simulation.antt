-- A discrete-event simulation: nodes that handle timestamped events and send each other messages. Own.
use Rattle.std.specs.Prelude.{ℕ, List, Option}
use Rattle.wt_proto.specs.declared.key.Key.{Key}

-- A message is what it says under its stamp: its time, destination, source, and place among all
-- that its source sent.
abbrev pub Message : Type 0 → Type 0
Message X = Key × X

-- an event of a node: the next step of its processor, or a message that comes to it
pub data Event (X : Type 0) : Type 0 where
  Step : Event X
  Arrival : Message X → Event X

-- Node states and messages may be of any type.
pub record Simulation (S X : Type 0) : Type 0 where
  pub nodes : ℕ
  -- how many events a node may handle
  pub event_limit : ℕ
  -- An event at this time or later is never handled.
  pub budget : ℕ
  -- how long the nodes run on their own
  pub quantum : ℕ
  -- the least time that a message to another node takes
  pub lookahead : ℕ
  pub number : S → ℕ
  -- the events that a node has handled, and the key of the last one
  pub handled : S → ℕ
  pub last : S → Option Key
  -- how many messages a node has sent
  pub sent : S → ℕ
  -- when a node's next step begins, where its processor runs
  pub next : S → Option ℕ
  -- the node after an event, and the messages that it sends, in order of sending
  pub react : S → Event X → S × List (Message X)

-- A step has the number of nodes for its source, so a message of the same time and node goes before it.
abbrev pub key_of_step : ℕ → ℕ → ℕ → Key
key_of_step nodes number time = record { time = time; to = number; from = nodes; sequence = 0 }

abbrev pub step_key : {S X : Type 0} → Simulation S X → S → ℕ → Key
step_key sim node time = key_of_step sim.nodes (sim.number node) time
