-- A node with the messages that wait for it, and what the station of a machine keeps. Own.
use Rattle.std.specs.Prelude.{◌≡◌, ◌≢◌, ⊤, ℕ, ◌<◌, ◌≤◌, Bool, false, List, [], ◌∷◌, Option, Some, None, option_map}
use Rattle.std.specs.FinMap.{FinMap, empty, get, insert, from_sorted}
use Rattle.wt_params.specs.declared.parts.MachineParts.{MachineParts}
use Rattle.wt_proto.specs.declared.key.Key.{Key}
use Rattle.wt_proto.specs.declared.message.Msg.{Msg}
use Rattle.wt_proto.specs.declared.message.Stamped.{Stamped}
use Rattle.wt_proto.specs.KeyOrder.{key_cmp}
use Rattle.wt_proto.specs.Messages.{StampedFits, key_of}
use Rattle.event_queue.specs.Rising.{IsRising, entries_of}
use Rattle.image_loader.specs.Images.{LoadedImages}
use Rattle.discrete_events.specs.World.{events_below, least}
use Rattle.discrete_events.specs.Core.{Station}
use Rattle.discrete_events.specs.Laws.{IsAfter, IsStation}
use Rattle.node.specs.declared.state.NodeState.{NodeState}
use Rattle.node.specs.React.{wind_tunnel}
use Rattle.node.specs.Sound.{IsNode}
use Rattle.node.specs.Start.{start_node}
use Rattle.node.specs.Laws.{Fits, NodeModel, IsWhole}

-- a node, the messages that wait for it, by their keys, the time that it last ran up to, and whether memory was refused
pub record StationModel : Type 0 where
  pub node : NodeModel
  pub pending : FinMap key_cmp Msg
  pub until : ℕ
  pub broken : Bool

-- the messages of a rising list, by their keys
abbrev pub pending_of : List Stamped → FinMap key_cmp Msg
pending_of messages = from_sorted (entries_of messages)

-- a station as one of the simulation
abbrev pub station_of : StationModel → Station NodeState Msg
station_of station = record { node = station.node.state; pending = station.pending; until = station.until }

-- a station at the start: nothing waits, and it has run up to no time
abbrev pub station_at_start : MachineParts → LoadedImages → Bool → ℕ → Station NodeState Msg
station_at_start machine loaded traced number =
    record { node = start_node machine loaded traced number; pending = empty; until = 0 }

abbrev pub machine_of : StationModel → MachineParts
machine_of station = station.node.machine

abbrev pub IsUnbroken : StationModel → Type 0
IsUnbroken station = station.broken ≡ false

-- the time of the node's least event, where it has one
abbrev pub least_time_of : StationModel → Option ℕ
least_time_of station =
    let sim = wind_tunnel (machine_of station) in
    option_map (λ event. event.0.time) (least (events_below sim sim.budget (station.node.state ∷ []) station.pending))

-- a time that was come to after the last event, if there was one
abbrev pub IsPast : ℕ → Option Key → Type 0
IsPast time None = ⊤
IsPast time (Some last) = last.time < time

-- No past: the key of every message that waits is above that of the last event handled.
abbrev pub HasNoPast : StationModel → Type 0
HasNoPast station =
    (key : Key) (msg : Msg) → get station.pending key ≡ Some msg → IsAfter station.node.state.last key

-- what every station keeps that isn't broken: its node and its messages are those of a station of the simulation, and its
-- messages are to itself
pub record IsLive (station : StationModel) : Type 0 where
  pub whole : IsWhole station.node
  pub sound : IsStation (wind_tunnel (machine_of station)) (IsNode (machine_of station)) (Fits (machine_of station)) station.node.state station.pending
  pub own : (key : Key) (msg : Msg) → get station.pending key ≡ Some msg → key.to ≡ station.node.state.number
  pub ran : IsPast station.until station.node.state.last

-- what it keeps with that: its queue is a rising one, and the time at hand is that of its least event
pub record IsKept (queue : List Stamped) (due : Option ℕ) (station : StationModel) : Type 0 where
  pub rising : IsRising queue
  pub live : IsLive station
  pub due_is : due ≡ least_time_of station

abbrev pub IsSoundStation : List Stamped → Option ℕ → StationModel → Type 0
IsSoundStation queue due station = IsUnbroken station → IsKept queue due station

-- A message that a station may be given: one of the machine, for its node and from another, not before the time that it
-- ran up to, and with a key that no other has.
pub record MayAccept (station : StationModel) (message : Stamped) : Type 0 where
  pub fits : StampedFits (machine_of station) message
  pub to : message.to ≡ station.node.state.number
  pub away : message.from ≢ station.node.state.number
  pub late : station.until ≤ message.time
  pub new : get station.pending (key_of message) ≡ None

-- a station with one more message that waits
abbrev pub accept_of : Stamped → StationModel → StationModel
accept_of message station = record station { pending = insert station.pending (key_of message) message.msg }
