-- A node that is alone in its machine, and the quanta that its events begin. Own.
use Rattle.std.specs.Prelude.{◌≡◌, ◌+◌, ◌^◌, ◌≤◌, min, nat_le, [], ◌∷◌, Option, Some, None, if◌then◌else◌}
use Rattle.wt_params.specs.declared.parts.MachineParts.{MachineParts}
use Rattle.wt_proto.specs.declared.key.Key.{Key}
use Rattle.discrete_events.specs.Serial.{final}
use Rattle.discrete_events.specs.Laws.{IsWorld}
use Rattle.node.specs.Laws.{Fits}
use Rattle.node.specs.React.{wind_tunnel}
use Rattle.node.specs.Sound.{IsNode}
use Rattle.node.specs.State.{events_of}
use Rattle.quantum.specs.declared.quanta.Quanta.{Quanta}
use Rattle.quantum.specs.Stations.{StationModel, machine_of}
use Rattle.quantum.specs.World.{World}

-- the world of a machine of one node
abbrev pub sole_world : StationModel → Quanta → World
sole_world station quanta = record {
  nodes = station.node.state ∷ [];
  pending = station.pending;
  kept_end = quanta.kept_end;
  quanta = quanta.count;
}

-- the quanta after an event, which begins one where its time isn't below the kept end
abbrev pub quanta_after : MachineParts → Option Key → Quanta → Quanta
quanta_after machine None quanta = quanta
quanta_after machine (Some key) quanta =
    if nat_le quanta.kept_end key.time
    then record { kept_end = min (key.time + machine.quantum) machine.budget; count = quanta.count + 1 }
    else quanta

-- a station of a machine of one node, at the end of its last quantum
pub record IsSole (station : StationModel) (quanta : Quanta) : Type 0 where
  pub one : (machine_of station).nodes ≡ 1
  pub world : IsWorld (wind_tunnel (machine_of station)) (IsNode (machine_of station)) (Fits (machine_of station)) (sole_world station quanta)
  pub until : station.until ≡ quanta.kept_end
  pub few : quanta.count ≤ 2 ^ 50

-- Such a station has run to the end of the simulation.
pub record HasEnded (before after : StationModel) (old new : Quanta) : Type 0 where
  pub end : sole_world after new ≡ final (wind_tunnel (machine_of before)) (sole_world before old)
  pub until : after.until ≡ new.kept_end
  pub counted : new.count + events_of before.node.state ≤ old.count + events_of after.node.state
