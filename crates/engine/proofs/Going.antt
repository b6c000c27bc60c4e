-- What the code of a round needs: that its stations may run and exchange, and what it then comes to.
use Rattle.std.proofs.Common.{◌≡◌, ℕ, ◌+◌, ◌*◌, ◌^◌, ◌<◌, ◌≤◌, List, ◌++◌, length, take, false, Some, None, Ok, refl, ap, sym, ◌∙◌, subst, arith}
use Rattle.std.proofs.Math.Seq.{take-append_seam}
use Rattle.std.specs.List.{All}
use Rattle.wt_proto.specs.declared.key.Key.{Key}
use Rattle.wt_proto.specs.declared.message.Msg.{Msg}
use Rattle.discrete_events.specs.Simulation.{Event}
use Rattle.discrete_events.specs.World.{events_in, least}
use Rattle.discrete_events.specs.Round.{quantum_end}
use Rattle.discrete_events.specs.Laws.{IsSerialFrom}
use Rattle.discrete_events.proofs.SerialRun.{serial-zero}
use Rattle.node.specs.React.{wind_tunnel}
use Rattle.quantum.specs.Stations.{StationModel, IsUnbroken as IsWholeStation, machine_of}
use Rattle.engine.specs.Engine.{EngineModel, IsRunning, IsUnbroken, world_of}
use Rattle.engine.specs.declared.engine.Round.TheVariants.{Ended, More}
use Rattle.inbox.specs.Passes.{PassModel}
use Rattle.engine.specs.Rounds.{GoesRound, IsInterleaved, IsOver}
use Rattle.engine.specs.Quantum.{HaveAdvanced, HaveExchanged, MayExchange, MayRun, earliest_of}
use Rattle.engine.specs.Inboxes.{HaveMet, MayMeet}
use Rattle.engine.proofs.Places.{all_by}
use Rattle.engine.proofs.Owned.{earliest_is, its}
use Rattle.engine.proofs.Letters.{early, exchanges, forward}
use Rattle.engine.proofs.Merges.{have_advanced, numbered_length}
use Rattle.engine.proofs.Taking.{have_met, interleaved, may_meet as may_meet_at}
use Rattle.engine.proofs.Quanta.{Done, done, event_at, events_bound, is_final, no_past}

-- an engine after a quantum that was run by threads
abbrev pub by_inboxes : EngineModel → ℕ → List PassModel → List StationModel → ℕ → EngineModel
by_inboxes engine threaded passes stations until = record {
  machine = engine.machine;
  threaded = threaded;
  passes = passes;
  stations = stations;
  kept_end = until;
  quanta = engine.quanta + 1;
  broken = false;
}

module _ (engine : EngineModel) (running : IsRunning engine) where
  pub all_whole : All IsWholeStation engine.stations
  all_whole = all_by IsWholeStation engine.stations (λ s member. (its engine running s member).whole)

  pub stays : IsSerialFrom (wind_tunnel engine.machine) (world_of engine) (world_of engine)
  stays = record { steps = 0; run = sym (serial-zero (wind_tunnel engine.machine) (world_of engine)); counted = omega arith }

  -- without an event
  pub over : earliest_of engine.stations ≡ None → IsOver engine engine
  over none = let e = sym (earliest_is engine running) ∙ none in record { none = e; unchanged = refl; last = is_final engine running e }

  -- the sum of the events of all nodes is no large number
  pub few_times : (nodes limit : ℕ) → nodes ≤ 256 → limit ≤ 2 ^ 40 → nodes * limit ≤ 2 ^ 48
  few_times nodes limit few most = grind arith

  pub few_quanta : engine.quanta ≤ 2 ^ 48
  few_quanta =
      let bound = events_bound engine running in
      let counted = running.counted in
      let few = few_times engine.machine.nodes engine.machine.event_limit running.numbers.nodes.at_most running.numbers.event_limit.at_most in
      omega arith

  pub few_stations : length engine.stations < 2 ^ 32
  few_stations =
      let count = numbered_length engine.machine 0 engine.stations running.world.numbered in
      let few = running.numbers.nodes.at_most in
      omega arith

  module _ (time : ℕ) (first : earliest_of engine.stations ≡ Some time) where
    -- what the least event brings, at its time
    at_time : (P : ℕ → Type 0) → ((key : Key) (event : Event Msg) → least (events_in (wind_tunnel engine.machine) (world_of engine)) ≡ Some (key, event) → P key.time) → P time
    at_time P each = let e = event_at engine running time first in subst P e.3 (each e.0 e.1 e.2)

    pub before_budget : time < engine.machine.budget
    before_budget = at_time (λ t. t < engine.machine.budget) (λ key event is. early engine running key event is)

    pub may_run : MayRun (quantum_end (wind_tunnel engine.machine) time) engine.stations
    may_run = record {
      few = few_stations;
      budget = all_by (λ (s : StationModel). quantum_end (wind_tunnel engine.machine) time ≤ (machine_of s).budget) engine.stations
          (λ s member. subst (λ m. quantum_end (wind_tunnel engine.machine) time ≤ m.budget) (sym (its engine running s member).machine_is) (omega arith));
      forward = all_by (λ (s : StationModel). s.until ≤ quantum_end (wind_tunnel engine.machine) time) engine.stations
          (λ s member. at_time (λ t. s.until ≤ quantum_end (wind_tunnel engine.machine) t) (λ key event is. forward engine running key event is s member));
    }

    pub may_exchange : MayExchange (quantum_end (wind_tunnel engine.machine) time) engine.stations
    may_exchange = at_time (λ t. MayExchange (quantum_end (wind_tunnel engine.machine) t) engine.stations) (λ key event is letters handed. (exchanges engine running key event is letters handed).may)

    abbrev after : ℕ → List StationModel → EngineModel
    after until stations = record { machine = engine.machine; threaded = engine.threaded; passes = engine.passes; stations = stations; kept_end = until; quanta = engine.quanta + 1; broken = false }

    pub advanced : (stations : List StationModel) → HaveAdvanced (quantum_end (wind_tunnel engine.machine) time) engine.stations stations → Done engine time (after (quantum_end (wind_tunnel engine.machine) time) stations)
    advanced stations = at_time (λ t. HaveAdvanced (quantum_end (wind_tunnel engine.machine) t) engine.stations stations → Done engine t (after (quantum_end (wind_tunnel engine.machine) t) stations)) each
      where
        each : (key : Key) (event : Event Msg) → least (events_in (wind_tunnel engine.machine) (world_of engine)) ≡ Some (key, event) → HaveAdvanced (quantum_end (wind_tunnel engine.machine) key.time) engine.stations stations → Done engine key.time (after (quantum_end (wind_tunnel engine.machine) key.time) stations)
        each key event is have =
            done engine running key event is stations have

    -- An exchange in the order of the stations is by merges.
    pub exchanged : (stations : List StationModel) → HaveExchanged (quantum_end (wind_tunnel engine.machine) time) engine.stations stations → HaveAdvanced (quantum_end (wind_tunnel engine.machine) time) engine.stations stations
    exchanged stations = at_time (λ t. HaveExchanged (quantum_end (wind_tunnel engine.machine) t) engine.stations stations → HaveAdvanced (quantum_end (wind_tunnel engine.machine) t) engine.stations stations)
        (λ key event is have. have_advanced engine running key event is stations have)

    -- Stations may meet by shared inboxes, and what they come to is by merges; it is one of the interleavings of the core.
    pub may_meet : MayMeet (quantum_end (wind_tunnel engine.machine) time) engine.stations
    may_meet = at_time (λ t. MayMeet (quantum_end (wind_tunnel engine.machine) t) engine.stations) (λ key event is. may_meet_at engine running key event is)

    pub met : (passes : List PassModel) (stations : List StationModel) → HaveMet (quantum_end (wind_tunnel engine.machine) time) engine.stations stations passes → HaveAdvanced (quantum_end (wind_tunnel engine.machine) time) engine.stations stations
    met passes stations = at_time (λ t. HaveMet (quantum_end (wind_tunnel engine.machine) t) engine.stations stations passes → HaveAdvanced (quantum_end (wind_tunnel engine.machine) t) engine.stations stations)
        (λ key event is have. have_met engine running key event is passes stations have)

    pub went_by_inboxes : (threaded : ℕ) (passes : List PassModel) (stations : List StationModel) → HaveMet (quantum_end (wind_tunnel engine.machine) time) engine.stations stations passes →
        IsInterleaved engine (by_inboxes engine threaded passes stations (quantum_end (wind_tunnel engine.machine) time))
    went_by_inboxes threaded passes stations = at_time (λ t. HaveMet (quantum_end (wind_tunnel engine.machine) t) engine.stations stations passes → IsInterleaved engine (by_inboxes engine threaded passes stations (quantum_end (wind_tunnel engine.machine) t)))
        (λ key event is have. interleaved engine running key event is passes stations have threaded)

-- all of a list is written
pub written : (n : ℕ) (xs ys : List StationModel) → length xs ≡ n → take n (xs ++ ys) ≡ xs
written n xs ys e = ap (λ k. take k (xs ++ ys)) (sym e) ∙ take-append_seam xs ys

-- An engine that counts the quantum as run by threads, and keeps the passes, goes on as well.
by_threads : (engine : EngineModel) → IsRunning engine → (time until : ℕ) (stations : List StationModel) (passes : List PassModel) → Done engine time (by_inboxes engine engine.threaded engine.passes stations until) → Done engine time (by_inboxes engine (engine.threaded + 1) passes stations until)
by_threads engine running time until stations passes is = record {
  running = record {
    numbers = is.running.numbers;
    stations = is.running.stations;
    world = is.running.world;
    between = is.running.between;
    counted = is.running.counted;
    threads = let t = running.threads in let g = is.quantum.grows in omega (arith, t, g);
  };
  serial = is.serial;
  quantum = record { time = is.quantum.time; next = is.quantum.next; kept_end = is.quantum.kept_end; quanta = is.quantum.quanta; none_left = is.quantum.none_left; grows = is.quantum.grows };
  same_end = is.same_end;
}

-- what the code of a round has come to: the stations it was given were written back, up to the end of the quantum
module _ (view now : EngineModel) (same : view ≡ now) (running : IsRunning view) (time until : ℕ) (first : earliest_of view.stations ≡ Some time) (end : until ≡ quantum_end (wind_tunnel view.machine) time) (new written_to : List StationModel) (is : written_to ≡ new) where
  -- the same of the engine that the code has
  as_written : (P : EngineModel → ℕ → List StationModel → Type 0) → P view (quantum_end (wind_tunnel view.machine) time) new → P now until written_to
  as_written P p = subst (λ e. P e until written_to) same (subst (P view until) (sym is) (subst (λ u. P view u new) (sym end) p))

  pub gone_on : HaveExchanged until view.stations new → Done now time (record { machine = view.machine; threaded = view.threaded; passes = view.passes; stations = written_to; kept_end = until; quanta = view.quanta + 1; broken = false })
  gone_on have = as_written (λ e u ss. Done e time (record { machine = view.machine; threaded = view.threaded; passes = view.passes; stations = ss; kept_end = u; quanta = view.quanta + 1; broken = false }))
      (advanced view running time first new (exchanged view running time first new (subst (λ u. HaveExchanged u view.stations new) end have)))

  module _ (passes : List PassModel) (have : HaveMet until view.stations new passes) where
    had : HaveMet (quantum_end (wind_tunnel view.machine) time) view.stations new passes
    had = subst (λ u. HaveMet u view.stations new passes) end have

    pub gone_by_inboxes : Done now time (by_inboxes view (view.threaded + 1) passes written_to until)
    gone_by_inboxes = as_written (λ e u ss. Done e time (by_inboxes view (view.threaded + 1) passes ss u))
        (by_threads view running time (quantum_end (wind_tunnel view.machine) time) new passes (advanced view running time first new (met view running time first passes new had)))

    pub was_interleaved : IsInterleaved now (by_inboxes view (view.threaded + 1) passes written_to until)
    was_interleaved = as_written (λ e u ss. IsInterleaved e (by_inboxes view (view.threaded + 1) passes ss u)) (went_by_inboxes view running time first (view.threaded + 1) passes new had)

-- ---- what a call for a round has come to

pub ended : (view now : EngineModel) → view ≡ now → IsRunning view → IsUnbroken view → earliest_of view.stations ≡ None → GoesRound now now (Ok Ended)
ended view now same running whole none = subst (λ (e : EngineModel). GoesRound e e (Ok Ended)) same (record {
  serial = stays view running;
  round = over view running none;
  end = refl;
  bound = events_bound view running;
  no_past = no_past view running;
  unbroken = (whole, whole);
  machine = refl;
  broken = tt;
})

pub went : (now after : EngineModel) (time : ℕ) → Done now time after → IsUnbroken now → IsUnbroken after → after.machine ≡ now.machine → GoesRound now after (Ok More)
went now after time is whole still machine = record {
  serial = is.serial;
  round = is.quantum;
  end = is.same_end;
  bound = events_bound after is.running;
  no_past = no_past after is.running;
  unbroken = (whole, still);
  machine = machine;
  broken = tt;
}

-- An engine counts few rounds of threads.
pub few_threads : (engine : EngineModel) → IsRunning engine → engine.threaded ≤ 2 ^ 48
few_threads engine running =
    let bound = events_bound engine running in
    let threads = running.threads in
    let few = few_times engine running engine.machine.nodes engine.machine.event_limit running.numbers.nodes.at_most running.numbers.event_limit.at_most in
    omega arith
