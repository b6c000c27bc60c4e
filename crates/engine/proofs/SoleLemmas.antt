-- An engine of one node, and what it has come to when this node has run to its end.
use Rattle.std.proofs.Common.{◌≡◌, ◌+◌, ◌<◌, List, [], ◌∷◌, length, get_or, false, Result, Ok, Err, IfOk, OnOk, refl, ap, sym, ◌∙◌, subst, inl, inr, arith}
use Rattle.std.proofs.Math.ListN.{set}
use Rattle.std.specs.FinMap.{get}
use Rattle.wt_params.specs.declared.memory.NoMemory.{NoMemory}
use Rattle.wt_proto.specs.declared.message.Msg.{Msg}
use Rattle.discrete_events.specs.Simulation.{Simulation}
use Rattle.discrete_events.specs.Round.{together}
use Rattle.discrete_events.specs.Serial.{final}
use Rattle.discrete_events.specs.Laws.{IsIn, IsNumbered, IsWorld, handled_in}
use Rattle.discrete_events.specs.Theorems.{IsFinal}
use Rattle.discrete_events.specs.World.{events_in}
use Rattle.discrete_events.proofs.Lists.{or_else_none}
use Rattle.discrete_events.proofs.Queues.{Queue, same_queue, get_together}
use Rattle.discrete_events.proofs.Whole.{from_world, serial_run_ends}
use Rattle.node.specs.declared.state.NodeState.{NodeState}
use Rattle.node.specs.React.{wind_tunnel}
use Rattle.node.specs.Sound.{IsNode}
use Rattle.node.specs.Laws.{Fits}
use Rattle.node.specs.State.{events_of}
use Rattle.std.specs.Prelude.{sum_by}
use Rattle.quantum.specs.declared.quanta.Quanta.{Quanta}
use Rattle.quantum.specs.Sole.{HasEnded, IsSole, sole_world}
use Rattle.quantum.specs.Stations.{StationModel, IsLive, IsUnbroken, machine_of}
use Rattle.engine.specs.Sole.{AreSole, HaveEnded, RanToTheEnd}
use Rattle.engine.specs.Engine.{EngineModel, IsRunning, IsStationOf, all_pending, events_so_far, nodes_of, world_of}
use Rattle.engine.proofs.Going.{few_quanta}
use Rattle.engine.proofs.Owned.{its, laws}

-- the messages of one station
together_one : (queue : Queue Msg) → together (queue ∷ []) ≡ queue
together_one queue = same_queue _ _ (λ q. get_together (queue ∷ []) q ∙ or_else_none (get queue q))

abbrev pub quanta_of : EngineModel → Quanta
quanta_of engine = record { kept_end = engine.kept_end; count = engine.quanta }

-- an engine of one station
abbrev pub with_one : EngineModel → StationModel → Quanta → EngineModel
with_one engine station quanta = record { machine = engine.machine; threaded = engine.threaded; passes = engine.passes; stations = station ∷ []; kept_end = quanta.kept_end; quanta = quanta.count; broken = false }

one_world : (engine : EngineModel) (station : StationModel) (quanta : Quanta) → world_of (with_one engine station quanta) ≡ sole_world station quanta
one_world engine station quanta = λ i. record { nodes = station.node.state ∷ []; pending = together_one station.pending i; kept_end = quanta.kept_end; quanta = quanta.count }

module _ (engine : EngineModel) (running : IsRunning engine) (station : StationModel) (only : engine.stations ≡ station ∷ []) where
  member : IsIn station engine.stations
  member = subst (IsIn station) (sym only) (inl refl)

  pub world_is : world_of engine ≡ sole_world station (quanta_of engine)
  world_is = (λ i. record { nodes = nodes_of (only i); pending = all_pending (only i); kept_end = engine.kept_end; quanta = engine.quanta }) ∙ one_world engine station (quanta_of engine)

  one_node : engine.machine.nodes ≡ 1
  one_node = let n = subst (λ ss. IsNumbered (wind_tunnel engine.machine) 0 (nodes_of ss)) only running.world.numbered in let e : 1 ≡ engine.machine.nodes = n.1 in omega (arith, e)

  pub is_alone : IsSole station (quanta_of engine)
  is_alone =
      let same = (its engine running station member).machine_is in
      record {
        one = ap (λ m. m.nodes) same ∙ one_node;
        world = subst (λ m. IsWorld (wind_tunnel m) (IsNode m) (Fits m) (sole_world station (quanta_of engine))) (sym same) (subst (IsWorld (wind_tunnel engine.machine) (IsNode engine.machine) (Fits engine.machine)) world_is running.world);
        until = (its engine running station member).ran;
        few = let few = few_quanta engine running in omega arith;
      }

  module _ (after : StationModel) (quanta : Quanta) (ran : RanToTheEnd station after (quanta_of engine) quanta) where
    abbrev ended_engine : EngineModel
    ended_engine = with_one engine after quanta

    abbrev sim : Simulation NodeState Msg
    sim = wind_tunnel engine.machine

    same_machine : machine_of station ≡ engine.machine
    same_machine = (its engine running station member).machine_is

    pub alone_end : world_of ended_engine ≡ final sim (world_of engine)
    alone_end =
        one_world engine after quanta
        ∙ subst (λ m. sole_world after quanta ≡ final (wind_tunnel m) (sole_world station (quanta_of engine))) same_machine ran.ended.end
        ∙ ap (final sim) (sym world_is)

    ends : IsFinal sim (world_of engine)
    ends = serial_run_ends sim (IsNode engine.machine) (Fits engine.machine) (laws engine running) (world_of engine) running.world

    world_then : IsWorld sim (IsNode engine.machine) (Fits engine.machine) (world_of ended_engine)
    world_then = subst (IsWorld sim (IsNode engine.machine) (Fits engine.machine)) (sym alone_end)
        (from_world sim (IsNode engine.machine) (Fits engine.machine) (laws engine running) (world_of engine) (final sim (world_of engine)) running.world ends.counted)

    events_before : events_so_far engine ≡ 0 + events_of station.node.state
    events_before = ap (λ (ss : List StationModel). sum_by events_of (nodes_of ss)) only

    pub alone_running : IsRunning ended_engine
    alone_running = record {
      numbers = running.numbers;
      stations = λ s is. each s is;
      world = world_then;
      between = λ key event is. absurd (ends.none_left key event (subst (λ w. IsIn (key, event) (events_in sim w)) alone_end is));
      counted = let c = running.counted in let n = ran.ended.counted in let e = events_before in omega (arith, c, n, e);
      threads = let t = running.threads in let c = ends.counted.counted in let e = ap (handled_in sim) alone_end in omega (arith, t, c, e);
    }
      where
        each : (s : StationModel) → IsIn s (after ∷ []) → IsStationOf engine.machine quanta.kept_end s
        each s (inl is) = subst (IsStationOf engine.machine quanta.kept_end) (sym is) (record { whole = ran.good.whole; machine_is = ran.machine_is ∙ same_machine; live = ran.good.live; ran = ran.ended.until })
        each s (inr none) = absurd none

-- ---- by the list of stations

pub are_alone : (engine : EngineModel) → IsRunning engine → (stations : List StationModel) → engine.stations ≡ stations → length stations ≡ 1 → AreSole stations (quanta_of engine)
are_alone engine running [] only long = absurd (omega arith)
are_alone engine running (station ∷ []) only long = is_alone engine running station only
are_alone engine running (station ∷ other ∷ rest) only long = absurd (omega arith)

pub at_first_place : (stations : List StationModel) (quanta : Quanta) (d : StationModel) → AreSole stations quanta → (0 < length stations) × IsSole (get_or stations 0 d) quanta
at_first_place [] quanta d alone = absurd alone
at_first_place (station ∷ []) quanta d alone = (omega arith, alone)
at_first_place (station ∷ other ∷ rest) quanta d alone = absurd alone

pub have_ended : (stations : List StationModel) (old new : Quanta) (d after : StationModel) → AreSole stations old → RanToTheEnd (get_or stations 0 d) after old new → HaveEnded stations (set stations 0 after) old new
have_ended [] old new d after alone ran = absurd alone
have_ended (station ∷ []) old new d after alone ran = ran
have_ended (station ∷ other ∷ rest) old new d after alone ran = absurd alone

-- what an engine of one station has come to
pub record Ended (before after : EngineModel) : Type 0 where
  pub running : IsRunning after
  pub end : world_of after ≡ final (wind_tunnel before.machine) (world_of before)

pub ended_alone : (engine : EngineModel) (running : IsRunning engine) (stations new : List StationModel) → engine.stations ≡ stations → (quanta : Quanta) → HaveEnded stations new (quanta_of engine) quanta →
    Ended engine (record { machine = engine.machine; threaded = engine.threaded; passes = engine.passes; stations = new; kept_end = quanta.kept_end; quanta = quanta.count; broken = false })
ended_alone engine running (station ∷ []) (after ∷ []) only quanta ended = record { running = alone_running engine running station only after quanta ended; end = alone_end engine running station only after quanta ended }
ended_alone engine running [] new only quanta ended = absurd ended
ended_alone engine running (station ∷ []) [] only quanta ended = absurd ended
ended_alone engine running (station ∷ []) (after ∷ other ∷ rest) only quanta ended = absurd ended
ended_alone engine running (station ∷ other ∷ rest) new only quanta ended = absurd ended

pub ended_on : (view now : EngineModel) → view ≡ now → IsRunning view → (given new written_to : List StationModel) → given ≡ view.stations → written_to ≡ new → (quanta : Quanta) → HaveEnded given new (quanta_of view) quanta →
    Ended now (record { machine = view.machine; threaded = view.threaded; passes = view.passes; stations = written_to; kept_end = quanta.kept_end; quanta = quanta.count; broken = false })
ended_on view now same running given new written_to is written_is quanta ended =
    subst (λ e. Ended e (record { machine = view.machine; threaded = view.threaded; passes = view.passes; stations = written_to; kept_end = quanta.kept_end; quanta = quanta.count; broken = false })) same
    (subst (λ ss. Ended view (record { machine = view.machine; threaded = view.threaded; passes = view.passes; stations = ss; kept_end = quanta.kept_end; quanta = quanta.count; broken = false })) (sym written_is)
    (ended_alone view running given new (sym is) quanta ended))

pub ran_alone : (stations : List StationModel) (old : Quanta) (d after : StationModel) → AreSole stations old → (result : Result Quanta NoMemory) → IfOk result (HasEnded (get_or stations 0 d) after old) →
    OnOk result (IsUnbroken (get_or stations 0 d) × IsUnbroken after × IsLive after) → machine_of after ≡ machine_of (get_or stations 0 d) → IfOk result (HaveEnded stations (set stations 0 after) old)
ran_alone stations old d after alone (Ok new) ended live same = have_ended stations old new d after alone (record { ended = ended; good = record { whole = live.1; live = live.2 }; machine_is = same })
ran_alone stations old d after alone (Err refused) ended live same = tt
