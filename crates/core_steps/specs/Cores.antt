-- A core of the machine: what it is of the simulation, and what every core keeps. Own.
use Rattle.std.specs.Prelude.{◌≡◌, ℕ, ◌≤◌, Bool, false, List, [], length, map, slice_index_or, Option, Some}
use Rattle.std.specs.List.{All}
use Rattle.wt_params.specs.declared.parts.MachineParts.{MachineParts}
use Rattle.wt_params.specs.Machine.{IsMachine}
use Rattle.wt_proto.specs.declared.message.Msg.{Msg}
use Rattle.wt_proto.specs.declared.message.Stamped.{Stamped}
use Rattle.discrete_events.specs.Simulation.{Simulation, Message}
use Rattle.discrete_events.specs.Core.{Core, CoreStep, core_of, core_run, part_to, AreEnabled}
use Rattle.discrete_events.specs.Laws.{IsIn, IsBetweenQuanta, handled_in}
use Rattle.discrete_events.specs.Theorems.{IsUnderWay}
use Rattle.node.specs.declared.state.NodeState.{NodeState}
use Rattle.node.specs.Laws.{Fits}
use Rattle.node.specs.React.{message_under_key, wind_tunnel}
use Rattle.quantum.specs.Starts.{IsWorldOf}
use Rattle.quantum.specs.Stations.{StationModel, IsLive, machine_of, station_of, IsUnbroken as IsWholeStation}
use Rattle.quantum.specs.World.{World}

-- the stations of a machine, which of them have run in the quantum, what each has sent to others and hasn't deposited, in
-- order of sending, what was deposited for each, the end of the last quantum that was ended and how many were, the end of
-- the one that is open, and whether memory was refused
pub record CoreModel : Type 0 where
  pub machine : MachineParts
  pub stations : List StationModel
  pub done : List Bool
  pub outs : List (List Stamped)
  pub inboxes : List (List Stamped)
  pub kept_end : ℕ
  pub quanta : ℕ
  pub until : Option ℕ
  pub broken : Bool

abbrev pub sim_of : CoreModel → Simulation NodeState Msg
sim_of core = wind_tunnel core.machine

abbrev pub IsUnbroken : CoreModel → Type 0
IsUnbroken core = core.broken ≡ false

-- messages by their keys
abbrev pub under_keys : List Stamped → List (Message Msg)
under_keys messages = map message_under_key messages

-- the messages to a node among some
abbrev pub sent_to : ℕ → List Stamped → List (Message Msg)
sent_to to messages = part_to to (under_keys messages)

-- The core as one of the simulation: what is left to deposit from a node to another is the part of what the one has left
-- that is to the other.
abbrev pub seen : CoreModel → Core NodeState Msg
seen core = record {
  stations = map station_of core.stations;
  kept_end = core.kept_end;
  quanta = core.quanta;
  until = core.until;
  done = λ node. slice_index_or core.done node false;
  out = λ from to. sent_to to (slice_index_or core.outs from []);
  inbox = λ to. under_keys (slice_index_or core.inboxes to []);
}

-- a core that was come to from the core of a world between quanta, by steps each of which was enabled
pub record IsReached (machine : MachineParts) (core : Core NodeState Msg) : Type 0 where
  pub begun : World
  pub is_world : IsWorldOf machine begun
  pub between : IsBetweenQuanta (wind_tunnel machine) begun
  pub counted : begun.quanta ≤ handled_in (wind_tunnel machine) begun
  pub steps : List CoreStep
  pub enabled : AreEnabled (wind_tunnel machine) (core_of (wind_tunnel machine) begun) steps
  pub run : core ≡ core_run (wind_tunnel machine) steps (core_of (wind_tunnel machine) begun)

-- a station of the machine that isn't broken
pub record IsStationOf (machine : MachineParts) (station : StationModel) : Type 0 where
  pub whole : IsWholeStation station
  pub machine_is : machine_of station ≡ machine
  pub live : IsLive station

-- what every core keeps that isn't broken
pub record IsCore (core : CoreModel) : Type 0 where
  pub numbers : IsMachine core.machine
  pub stations : length core.stations ≡ core.machine.nodes
  pub done : length core.done ≡ core.machine.nodes
  pub outs : length core.outs ≡ core.machine.nodes
  pub inboxes : length core.inboxes ≡ core.machine.nodes
  pub live : All (IsStationOf core.machine) core.stations
  pub reached : IsReached core.machine (seen core)

abbrev pub IsSoundCore : CoreModel → Type 0
IsSoundCore core = IsUnbroken core → IsCore core

-- Each message that is left to deposit is under way: it comes at the end of the quantum that is open or later, and its key
-- is above the last one of its node.
abbrev pub AreUnderWay : CoreModel → Type 0
AreUnderWay core =
    (until : ℕ) → core.until ≡ Some until → (from to : ℕ) (message : Message Msg) → IsIn message ((seen core).out from to) →
    IsUnderWay (sim_of core) (Fits core.machine) until (seen core) to message
