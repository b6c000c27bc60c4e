-- The trace of a run, by the serial simulation. Own.
use Rattle.std.specs.Prelude.{◌≡◌, ℕ, suc, zero, ◌*◌, true, List, [], ◌∷◌, ◌++◌, flat_map, Option, Some, None, if◌then◌else◌}
use Rattle.wt_params.specs.declared.parts.MachineParts.{MachineParts}
use Rattle.wt_params.specs.Machine.{IsMachine}
use Rattle.wt_proto.specs.declared.key.Key.{Key}
use Rattle.wt_proto.specs.declared.message.Msg.{Msg}
use Rattle.wt_trace.specs.declared.record.Record.{Record}
use Rattle.wt_trace.specs.EventLine.{line_of}
use Rattle.wt_trace.specs.Merged.{merge_of}
use Rattle.discrete_events.specs.Simulation.{Event}
use Rattle.discrete_events.specs.World.{events_in, least}
use Rattle.discrete_events.specs.Serial.{is_for, serial, final}
use Rattle.discrete_events.specs.Laws.{IsIn}
use Rattle.image_loader.specs.Images.{LoadedImages, IsFor}
use Rattle.image_loader.specs.Loading.{AreLoaded}
use Rattle.node.specs.declared.state.NodeState.{NodeState}
use Rattle.node.specs.React.{record_of, wind_tunnel}
use Rattle.quantum.specs.World.{World, start_of}
use Rattle.quantum.specs.Starts.{IsWorldOf}
use Rattle.wt_report.specs.Report.{logs_of, trace_text}

-- what a node records of an event, where the event is for it
abbrev pub recorded_by : MachineParts → Key → Event Msg → NodeState → List Record
recorded_by machine key event node =
    if is_for (wind_tunnel machine) key node then record_of machine node event ∷ [] else []

-- what is recorded of an event of a world
abbrev pub recorded_of : MachineParts → World → Option (Key × Event Msg) → List Record
recorded_of machine world None = []
recorded_of machine world (Some event) = flat_map (recorded_by machine event.0 event.1) world.nodes

-- what is recorded of the next event of a world
abbrev pub handled_at : MachineParts → World → List Record
handled_at machine world = recorded_of machine world (least (events_in (wind_tunnel machine) world))

-- the records of so many events from a world on, in the order in which the serial simulation handles the events
unfoldable pub history : MachineParts → ℕ → World → List Record
history machine zero world = []
history machine (suc n) world =
    history machine n world ++ handled_at machine (serial (wind_tunnel machine) n world)

-- a world of nodes that are all traced, and have recorded nothing so far
pub record IsTracedStart (machine : MachineParts) (world : World) : Type 0 where
  pub is_world : IsWorldOf machine world
  pub traced : (node : NodeState) → IsIn node world.nodes → node.traced ≡ true
  pub unused : (node : NodeState) → IsIn node world.nodes → node.log ≡ []

-- the start of a traced run, the world in which it ends, and the records of all its events
abbrev pub traced_start : MachineParts → LoadedImages → World
traced_start machine loaded = start_of machine loaded true

abbrev pub traced_end : MachineParts → LoadedImages → World
traced_end machine loaded = final (wind_tunnel machine) (traced_start machine loaded)

abbrev pub whole_history : MachineParts → LoadedImages → List Record
whole_history machine loaded = history machine (machine.nodes * machine.event_limit) (traced_start machine loaded)

-- The merged logs of a traced run are its records in the order in which the serial simulation handles the events: after
-- any number of events from any world of traced nodes, and at the end of a run. So are the lines of its report.
pub record IsSerialTrace (machine : MachineParts) : Type 0 where
  pub any : (n : ℕ) (world : World) → IsTracedStart machine world →
      merge_of (logs_of (serial (wind_tunnel machine) n world).nodes) ≡ history machine n world
  pub whole : (loaded : LoadedImages) → IsFor machine loaded → AreLoaded loaded →
      merge_of (logs_of (traced_end machine loaded).nodes) ≡ whole_history machine loaded
  pub text : (loaded : LoadedImages) → IsFor machine loaded → AreLoaded loaded →
      trace_text machine (traced_end machine loaded).nodes ≡ flat_map (line_of machine) (whole_history machine loaded)

abbrev pub TraceIsSerial : Type 0
TraceIsSerial = (machine : MachineParts) → IsMachine machine → IsSerialTrace machine
