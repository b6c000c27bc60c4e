-- The wind tunnel as a simulation: which nodes and messages are sound, and which events a node may handle. Own.
use Rattle.std.specs.Prelude.{◌≡◌, ⊤, ℕ, ◌+◌, Bool, false, List, [], ◌∷◌, length}
use Rattle.wt_params.specs.declared.parts.MachineParts.{MachineParts}
use Rattle.wt_params.specs.Machine.{IsMachine}
use Rattle.wt_proto.specs.declared.key.Key.{Key}
use Rattle.wt_proto.specs.declared.message.Msg.{Msg}
use Rattle.wt_proto.specs.declared.message.Stamped.{Stamped}
use Rattle.wt_proto.specs.Messages.{StampedFits}
use Rattle.discrete_events.specs.Simulation.{Simulation, Event, Step, Arrival, Message}
use Rattle.discrete_events.specs.Laws.{IsDue, IsSimulation, IsConservative}
use Rattle.node.specs.declared.state.NodeState.{NodeState}
use Rattle.node.specs.declared.state.Send.{Send}
use Rattle.node.specs.React.{logged, react, record_of, wind_tunnel}
use Rattle.node.specs.Sound.{IsNode}

-- a message with its stamp
abbrev pub stamped_message : Message Msg → Stamped
stamped_message message = record {
  time = message.0.time;
  to = message.0.to;
  from = message.0.from;
  sequence = message.0.sequence;
  msg = message.1;
}

-- a message that the machine can have
abbrev pub Fits : MachineParts → Message Msg → Type 0
Fits machine message = StampedFits machine (stamped_message message)

-- an event that a node may handle now: it isn't spent, the event isn't at or past the budget, and is its own, and the
-- earliest of them where it is a message to a running processor
abbrev pub IsDueAt : MachineParts → NodeState → Key → Event Msg → Type 0
IsDueAt machine node key event = IsDue (wind_tunnel machine) (Fits machine) node key event

-- the messages among some events
abbrev pub arrivals_of : Event Msg → ℕ
arrivals_of Step = 0
arrivals_of (Arrival message) = 1

-- Messages have the numbers from one on as their sequences.
abbrev pub AreNumbered : ℕ → List Stamped → Type 0
AreNumbered sequence [] = ⊤
AreNumbered sequence (message ∷ messages) =
    (message.sequence ≡ sequence) × AreNumbered (sequence + 1) messages

-- What an event counts of messages and sends, how its sends are numbered, and that a traced node adds its record to
-- the log.
pub record IsCounted (machine : MachineParts) (node : NodeState) (key : Key) (event : Event Msg) : Type 0 where
  pub messages : (react machine node event).0.counters.messages ≡ node.counters.messages + arrivals_of event
  pub sent : (react machine node event).0.counters.sent ≡ node.counters.sent + length (react machine node event).1
  pub numbered : AreNumbered node.counters.sent (react machine node event).1
  pub traced : (react machine node event).0.traced ≡ node.traced
  pub log : (react machine node event).0.log ≡ logged node.traced (record_of machine node event) node.log
  pub recorded_key : (record_of machine node event).key ≡ key
  pub recorded_sends : (record_of machine node event).sends ≡ (react machine node event).1

-- Every machine keeps the laws of a simulation, its quanta are conservative, and its nodes count what they do.
pub record IsWindTunnel (machine : MachineParts) : Type 0 where
  pub laws : IsSimulation (wind_tunnel machine) (IsNode machine) (Fits machine)
  pub quanta : IsConservative (wind_tunnel machine)
  pub counts : (node : NodeState) (key : Key) (event : Event Msg) → IsNode machine node → IsDueAt machine node key event →
      IsCounted machine node key event

abbrev pub MachinesAreSimulations : Type 0
MachinesAreSimulations = (machine : MachineParts) → IsMachine machine → IsWindTunnel machine

-- what is proved of any simulation, of every machine's
abbrev pub HoldsOfMachines : (Simulation NodeState Msg → (NodeState → Type 0) → (Message Msg → Type 0) → Type 0) → Type 0
HoldsOfMachines Theorem = (machine : MachineParts) → IsMachine machine → Theorem (wind_tunnel machine) (IsNode machine) (Fits machine)

-- ---- a node of the program: its machine, its state, and whether memory was refused to it
pub record NodeModel : Type 0 where
  pub machine : MachineParts
  pub state : NodeState
  pub broken : Bool

-- A node that isn't broken is sound, and has no messages to send between events. Nothing is known of a broken one.
abbrev pub IsSoundNode : MachineParts → NodeState → List Send → Bool → Type 0
IsSoundNode machine state sends broken = broken ≡ false → IsNode machine state × (sends ≡ [])

abbrev pub IsWhole : NodeModel → Type 0
IsWhole node = node.broken ≡ false

-- a node that isn't broken may handle an event under a key now
abbrev pub MayHandle : NodeModel → Key → Event Msg → Type 0
MayHandle node key event = IsWhole node → IsDueAt node.machine node.state key event
