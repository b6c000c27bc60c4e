-- What the stations of a machine have come to, station by station. Own.
use Rattle.std.specs.Prelude.{ℕ, ◌-◌, ◌^◌, ◌||◌, ◌==◌, not, min, sum_by, Bool, List, if◌then◌else◌}
use Rattle.std.specs.List.{list_any, list_all}
use Rattle.std.specs.FinMap.{len}
use Rattle.discrete_events.specs.World.{is_spent}
use Rattle.node.specs.State.{events_of, is_running, is_stopped}
use Rattle.node.specs.React.{wind_tunnel}
use Rattle.wt_stats.specs.declared.head.Outcome.{Outcome}
use Rattle.wt_stats.specs.declared.head.Outcome.TheVariants.{Finished, Budget, EventLimit, Stalled}
use Rattle.wt_stats.specs.declared.head.Head.{Head}
use Rattle.quantum.specs.Outcome.{greatest_time}
use Rattle.quantum.specs.Stations.{StationModel, machine_of}
use Rattle.engine.specs.Engine.{nodes_of}

abbrev pub has_spent : StationModel → Bool
has_spent station = is_spent (wind_tunnel (machine_of station)) station.node.state

-- messages wait, or the processor runs
abbrev pub is_at_work : StationModel → Bool
is_at_work station = not (len station.pending == 0) || is_running station.node.state

abbrev pub has_stopped : StationModel → Bool
has_stopped station = is_stopped station.node.state

abbrev pub outcome_in : List StationModel → Outcome
outcome_in stations =
    if list_any has_spent stations then EventLimit
    else if list_any is_at_work stations then Budget
    else if list_all has_stopped stations then Finished
    else Stalled

-- the events of all nodes, or the greatest number of 64 bits where they are more
abbrev pub events_in_all : List StationModel → ℕ
events_in_all stations = min (sum_by events_of (nodes_of stations)) (2 ^ 64 - 1)

abbrev pub head_in : List StationModel → ℕ → Head
head_in stations quanta = record {
  outcome = outcome_in stations;
  events = events_in_all stations;
  time = greatest_time (nodes_of stations);
  quanta = quanta;
}
