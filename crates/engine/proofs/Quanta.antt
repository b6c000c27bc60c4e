-- A quantum of an engine is a round of its world, and so the serial run; and the engine goes on as it was.
use Rattle.std.proofs.Common.{◌≡◌, ℕ, zero, suc, ◌+◌, ◌*◌, ◌<◌, ◌≤◌, List, false, Option, Some, None, refl, ap, sym, ◌∙◌, subst, arith}
use Rattle.std.specs.Option.{option_map}
use Rattle.std.specs.List.{All}
use Rattle.wt_proto.specs.declared.key.Key.{Key}
use Rattle.wt_proto.specs.declared.message.Msg.{Msg}
use Rattle.discrete_events.specs.Simulation.{Simulation, Event}
use Rattle.discrete_events.specs.World.{events_in, least}
use Rattle.discrete_events.specs.Serial.{serial, final}
use Rattle.discrete_events.specs.Laws.{IsIn, IsWorld, IsSerialFrom}
use Rattle.discrete_events.specs.Theorems.{IsFinal, IsSerialRound}
use Rattle.discrete_events.proofs.Events.{least_in}
use Rattle.discrete_events.proofs.SerialRun.{serial-zero, handled_bound}
use Rattle.discrete_events.proofs.Whole.{round_is_serial, serial_run_ends, from_world, joined}
use Rattle.node.specs.declared.state.NodeState.{NodeState}
use Rattle.node.specs.React.{wind_tunnel}
use Rattle.node.specs.Sound.{IsNode}
use Rattle.node.specs.Laws.{Fits}
use Rattle.quantum.specs.Stations.{StationModel, HasNoPast}
use Rattle.quantum.specs.World.{World}
use Rattle.engine.specs.Engine.{EngineModel, IsRunning, events_so_far, world_of}
use Rattle.engine.specs.Rounds.{IsOneQuantum, next_time}
use Rattle.engine.specs.Quantum.{HaveAdvanced, IsGood, earliest_of}
use Rattle.engine.proofs.Places.{all_by, in_all}
use Rattle.engine.proofs.Owned.{earliest_is, its, laws, wind}
use Rattle.engine.proofs.Letters.{below, until}
use Rattle.engine.proofs.Merges.{have_run, world_is}

-- ---- what holds of any engine that isn't broken

module _ (engine : EngineModel) (running : IsRunning engine) where
  pub events_bound : events_so_far engine ≤ engine.machine.nodes * engine.machine.event_limit
  events_bound = handled_bound (wind_tunnel engine.machine) (IsNode engine.machine) (Fits engine.machine) (laws engine running) (world_of engine) running.world

  pub no_past : All HasNoPast engine.stations
  no_past = all_by HasNoPast engine.stations (λ s member q v there. (its engine running s member).live.sound.no_past q v there ((its engine running s member).live.own q v there))

  -- Where no event is left, the world is the final one.
  pub is_final : next_time engine ≡ None → world_of engine ≡ final (wind_tunnel engine.machine) (world_of engine)
  is_final none = by (least (events_in (wind_tunnel engine.machine) (world_of engine))) refl none
    where
      by : (o : Option (Key × Event Msg)) → least (events_in (wind_tunnel engine.machine) (world_of engine)) ≡ o → option_map (λ event. event.0.time) o ≡ None → world_of engine ≡ final (wind_tunnel engine.machine) (world_of engine)
      by (Some e) is f = absurd (let n : Some e.0.time ≡ None = f in cc)
      by None is f = sym ((serial_run_ends (wind_tunnel engine.machine) (IsNode engine.machine) (Fits engine.machine) (laws engine running) (world_of engine) running.world).reached (world_of engine) (record { steps = 0; run = sym (serial-zero (wind_tunnel engine.machine) (world_of engine)); counted = omega arith }) is)

  -- the event at the least time
  pub event_at : (time : ℕ) → earliest_of engine.stations ≡ Some time → (key : Key) × (event : Event Msg) × (least (events_in (wind_tunnel engine.machine) (world_of engine)) ≡ Some (key, event)) × (key.time ≡ time)
  event_at time first = by (least (events_in (wind_tunnel engine.machine) (world_of engine))) refl (sym (earliest_is engine running) ∙ first)
    where
      by : (o : Option (Key × Event Msg)) → least (events_in (wind_tunnel engine.machine) (world_of engine)) ≡ o → option_map (λ event. event.0.time) o ≡ Some time → (key : Key) × (event : Event Msg) × (least (events_in (wind_tunnel engine.machine) (world_of engine)) ≡ Some (key, event)) × (key.time ≡ time)
      by None is f = absurd (let n : None ≡ Some time = f in cc)
      by (Some e) is f = (e.0, e.1, is, let n : Some e.0.time ≡ Some time = f in cc)

-- what a quantum that begins at a time comes to
pub record Done (before : EngineModel) (time : ℕ) (after : EngineModel) : Type 0 where
  pub running : IsRunning after
  pub serial : IsSerialFrom (wind_tunnel before.machine) (world_of before) (world_of after)
  pub quantum : IsOneQuantum before after
  pub same_end : final (wind_tunnel before.machine) (world_of after) ≡ final (wind_tunnel before.machine) (world_of before)

module _ (engine : EngineModel) (running : IsRunning engine) (key : Key) (event : Event Msg) (is : least (events_in (wind_tunnel engine.machine) (world_of engine)) ≡ Some (key, event)) where
  abbrev sim : Simulation NodeState Msg
  sim = wind_tunnel engine.machine

  abbrev end : ℕ
  end = until engine running key event is

  module _ (stations : List StationModel) (have : HaveAdvanced end engine.stations stations) where
    abbrev after : EngineModel
    after = record { machine = engine.machine; threaded = engine.threaded; passes = engine.passes; stations = stations; kept_end = end; quanta = engine.quanta + 1; broken = false }

    serial_round : IsSerialRound sim (world_of engine) (world_of after)
    serial_round = subst (IsSerialRound sim (world_of engine)) (sym (world_is engine running key event is stations have))
        (round_is_serial sim (IsNode engine.machine) (Fits engine.machine) (laws engine running) (wind engine running).quanta (world_of engine) key event running.world running.between is)

    world_after : IsWorld sim (IsNode engine.machine) (Fits engine.machine) (world_of after)
    world_after = from_world sim (IsNode engine.machine) (Fits engine.machine) (laws engine running) (world_of engine) (world_of after) running.world serial_round.serial

    -- A quantum handles an event.
    grows : events_so_far engine < events_so_far after
    grows = by serial_round.serial.steps refl
      where
        stays : serial_round.serial.steps ≡ 0 → world_of after ≡ world_of engine
        stays e = serial_round.serial.run ∙ ap (λ n. serial sim n (world_of engine)) e ∙ serial-zero sim (world_of engine)

        by : (n : ℕ) → serial_round.serial.steps ≡ n → events_so_far engine < events_so_far after
        by zero e =
            let none = serial_round.none_left key event (subst (λ (w : World). IsIn (key, event) (events_in sim w)) (sym (stays e)) (least_in _ (key, event) is)) in
            let b = below engine running key event is in
            absurd (omega arith)
        by (suc n) e = let c = serial_round.serial.counted in omega arith

    running_after : IsRunning after
    running_after = record {
      numbers = running.numbers;
      stations = λ s member.
          let good = in_all IsGood stations have.good s member in
          let ran = have_run engine running key event is stations have s member in
          record { whole = good.whole; machine_is = ran.machine_is; live = good.live; ran = ran.ran };
      world = world_after;
      between = serial_round.none_left;
      counted = let c = running.counted in let g = grows in omega arith;
      threads = let t = running.threads in let g = grows in omega arith;
    }

    pub done : Done engine key.time after
    done = record {
      running = running_after;
      serial = serial_round.serial;
      quantum = record { time = key.time; next = ap (option_map (λ event. event.0.time)) is; kept_end = refl; quanta = refl; none_left = serial_round.none_left; grows = grows };
      same_end = sym (ends.reached (final sim (world_of after)) (joined sim (IsNode engine.machine) (Fits engine.machine) (laws engine running) (world_of engine) (world_of after) (final sim (world_of after)) serial_round.serial ends_after.counted) no_event);
    }
      where
        ends : IsFinal sim (world_of engine)
        ends = serial_run_ends sim (IsNode engine.machine) (Fits engine.machine) (laws engine running) (world_of engine) running.world

        ends_after : IsFinal sim (world_of after)
        ends_after = serial_run_ends sim (IsNode engine.machine) (Fits engine.machine) (laws engine running) (world_of after) world_after

        no_event : least (events_in sim (final sim (world_of after))) ≡ None
        no_event = by (least (events_in sim (final sim (world_of after)))) refl
          where
            by : (o : Option (Key × Event Msg)) → least (events_in sim (final sim (world_of after))) ≡ o → o ≡ None
            by None e = refl
            by (Some f) e = absurd (ends_after.none_left f.0 f.1 (least_in _ (f.0, f.1) e))
