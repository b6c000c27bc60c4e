-- A machine that goes on quantum by quantum, and the world that it stands for. Own.
use Rattle.std.specs.Prelude.{◌≡◌, ℕ, ◌≤◌, Bool, false, List, map}
use Rattle.std.specs.FinMap.{FinMap}
use Rattle.wt_params.specs.declared.parts.MachineParts.{MachineParts}
use Rattle.wt_params.specs.Machine.{IsMachine}
use Rattle.wt_proto.specs.declared.message.Msg.{Msg}
use Rattle.wt_proto.specs.KeyOrder.{key_cmp}
use Rattle.discrete_events.specs.Simulation.{Simulation}
use Rattle.discrete_events.specs.Round.{together}
use Rattle.discrete_events.specs.Laws.{IsIn, IsWorld, IsBetweenQuanta, handled_in}
use Rattle.node.specs.declared.state.NodeState.{NodeState}
use Rattle.node.specs.React.{wind_tunnel}
use Rattle.node.specs.Sound.{IsNode}
use Rattle.node.specs.Laws.{Fits}
use Rattle.quantum.specs.Stations.{StationModel, IsLive, machine_of, IsUnbroken as IsWholeStation}
use Rattle.quantum.specs.World.{World}
use Rattle.inbox.specs.Passes.{PassModel}

-- the stations of a machine, the end of the last quantum that was begun, the count of quanta and how many of these were
-- run by threads, the passes of the last of these, and whether memory was refused
pub record EngineModel : Type 0 where
  pub machine : MachineParts
  pub stations : List StationModel
  pub kept_end : ℕ
  pub quanta : ℕ
  pub threaded : ℕ
  pub passes : List PassModel
  pub broken : Bool

abbrev pub sim_of : EngineModel → Simulation NodeState Msg
sim_of engine = wind_tunnel engine.machine

-- the nodes of some stations, and all their pending messages together
abbrev pub nodes_of : List StationModel → List NodeState
nodes_of stations = map (λ station. station.node.state) stations

abbrev pub all_pending : List StationModel → FinMap key_cmp Msg
all_pending stations = together (map (λ station. station.pending) stations)

-- The world of an engine that isn't broken.
abbrev pub world_of : EngineModel → World
world_of engine = record {
  nodes = nodes_of engine.stations;
  pending = all_pending engine.stations;
  kept_end = engine.kept_end;
  quanta = engine.quanta;
}

-- the events that its nodes have handled
abbrev pub events_so_far : EngineModel → ℕ
events_so_far engine = handled_in (sim_of engine) (world_of engine)

abbrev pub IsUnbroken : EngineModel → Type 0
IsUnbroken engine = engine.broken ≡ false

-- a station of a machine that has run up to a time
pub record IsStationOf (machine : MachineParts) (until : ℕ) (station : StationModel) : Type 0 where
  pub whole : IsWholeStation station
  pub machine_is : machine_of station ≡ machine
  pub live : IsLive station
  pub ran : station.until ≡ until

-- what an engine keeps that isn't broken: it stands for a world of the simulation between two quanta
pub record IsRunning (engine : EngineModel) : Type 0 where
  pub numbers : IsMachine engine.machine
  pub stations : (station : StationModel) → IsIn station engine.stations → IsStationOf engine.machine engine.kept_end station
  pub world : IsWorld (sim_of engine) (IsNode engine.machine) (Fits engine.machine) (world_of engine)
  pub between : IsBetweenQuanta (sim_of engine) (world_of engine)
  pub counted : engine.quanta ≤ events_so_far engine
  pub threads : engine.threaded ≤ events_so_far engine

abbrev pub IsSoundEngine : EngineModel → Type 0
IsSoundEngine engine = IsUnbroken engine → IsRunning engine
