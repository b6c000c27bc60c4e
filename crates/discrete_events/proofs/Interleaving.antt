-- Every interleaving of quanta, deposits and turns comes to the serial run.
use Rattle.std.proofs.Common.{◌≡◌, ◌≢◌, ℕ, ◌-◌, ◌<◌, ◌≤◌, ◌⊎◌, List, [], ◌∷◌, map, Bool, true, false, cond, Option, Some, None, refl, ap, sym, ◌∙◌, subst, inl, inr, arith}
use Rattle.std.specs.Option.{option_map}
use Rattle.wt_proto.specs.declared.key.Key.{Key}
use Rattle.discrete_events.specs.Simulation.{Simulation, Event, Message}
use Rattle.discrete_events.specs.World.{World, events_in, events_below, least}
use Rattle.discrete_events.specs.Serial.{serial, final}
use Rattle.discrete_events.specs.Round.{FreeRun, to_node, round, quantum_end}
use Rattle.discrete_events.specs.Core.{Station, Core, opening, station_in, core_of, IsAtRest, CoreStep, Quantum, Deposit, Turn, IsEnabled, within_quantum, while_open, core_step, core_run, AreEnabled}
use Rattle.discrete_events.specs.Laws.{IsIn, IsAfter, IsSimulation, IsStation, IsWorld, IsConservative, IsBetweenQuanta, IsSerialFrom}
use Rattle.discrete_events.specs.Theorems.{picked, IsUnderWay, IsAmidQuantum, IsAmid, EveryInterleaving, IsSerialRound}
use Rattle.discrete_events.proofs.Inside.{IsInside, run, station, outs, in_outs, outs_source, out_is, inside_quantum, inside_deposit, turns_to}
use Rattle.discrete_events.proofs.Held.{inbox_is, inbox_new, ran, sent_fits, sent_away, sent_new}
use Rattle.discrete_events.proofs.Lists.{from_map, map_alike, map_map}
use Rattle.discrete_events.proofs.FreeRuns.{outs_late, last_below}
use Rattle.discrete_events.specs.KeyTimes.{earlier_less}
use Rattle.discrete_events.proofs.Keys.{upto_time}
use Rattle.discrete_events.proofs.Events.{least_in, least_upto, event_is, counts_time, IsEventBelow}
use Rattle.discrete_events.proofs.Peel.{after_less, own_in_world, narrowed}
use Rattle.discrete_events.proofs.Whole.{round_is_serial, serial_run_ends, from_world, joined, nothing_done}

same_some : {A : Type 0} {a b : A} → Some a ≡ Some b → a ≡ b
same_some e = cc

module _ {S X : Type 0} (sim : Simulation S X) (IsSound : S → Type 0) (Fits : Message X → Type 0) (laws : IsSimulation sim IsSound Fits) where
  -- ---- the states of a core, whatever its steps

  pub below_budget : (time : ℕ) → quantum_end sim time ≤ sim.budget
  below_budget time = omega arith

  pub record Opened (world : World S X) (ok : IsWorld sim IsSound Fits world) (core : Core S X) : Type 0 where
    pub key : Key
    pub event : Event X
    pub is_least : least (events_in sim world) ≡ Some (key, event)
    pub inside : IsInside sim IsSound Fits laws world ok (quantum_end sim key.time) (below_budget key.time) core

  record State (start : World S X) (core : Core S X) : Type 0 where
    begun : World S X
    ok : IsWorld sim IsSound Fits begun
    serial : IsSerialFrom sim start begun
    between : IsBetweenQuanta sim begun
    now : ((least (events_in sim begun) ≡ None) × (core ≡ core_of sim begun)) ⊎ Opened begun ok core

  at_rest : (start begun : World S X) → IsWorld sim IsSound Fits begun → IsSerialFrom sim start begun → IsBetweenQuanta sim begun → State start (core_of sim begun)
  at_rest start begun ok serial between = record { begun = begun; ok = ok; serial = serial; between = between; now = by (least (events_in sim begun)) refl }
    where
      by : (o : Option (Key × Event X)) → least (events_in sim begun) ≡ o → ((least (events_in sim begun) ≡ None) × (core_of sim begun ≡ core_of sim begun)) ⊎ Opened begun ok (core_of sim begun)
      by None is = inl (is, refl)
      by (Some (key, event)) is = inr (record {
        key = key;
        event = event;
        is_least = is;
        inside = record {
          kept_end = refl;
          quanta = refl;
          until_is = ap (option_map (λ (e : Key × Event X). quantum_end sim e.0.time)) is;
          stations = refl;
          parts = λ from to. refl;
          to_it = λ to m h. absurd h;
        };
      })

  module _ (conservative : IsConservative sim) where
    open_step : (start : World S X) (core : Core S X) (begun : World S X) (ok : IsWorld sim IsSound Fits begun) → IsSerialFrom sim start begun → IsBetweenQuanta sim begun → (opened : Opened begun ok core) → (step : CoreStep) → IsEnabled sim core step → State start (within_quantum sim (quantum_end sim opened.key.time) step core)
    open_step start core begun ok serial between opened (Quantum node) enabled = record {
      begun = begun;
      ok = ok;
      serial = serial;
      between = between;
      now = inr (record { key = opened.key; event = opened.event; is_least = opened.is_least; inside = inside_quantum sim IsSound Fits laws begun ok (quantum_end sim opened.key.time) (below_budget opened.key.time) core opened.inside node enabled.2 });
    }
    open_step start core begun ok serial between opened (Deposit from to) enabled = record {
      begun = begun;
      ok = ok;
      serial = serial;
      between = between;
      now = inr (record { key = opened.key; event = opened.event; is_least = opened.is_least; inside = inside_deposit sim IsSound Fits laws begun ok (quantum_end sim opened.key.time) (below_budget opened.key.time) core opened.inside from to });
    }
    open_step start core begun ok serial between opened Turn enabled =
        subst (State start) (sym (turns_to sim IsSound Fits laws begun ok (quantum_end sim opened.key.time) (below_budget opened.key.time) core opened.inside enabled.1 enabled.2 is_world))
        (at_rest start after_it is_world (joined sim IsSound Fits laws start begun after_it serial r.serial) r.none_left)
      where
        after_it : World S X
        after_it = round sim (quantum_end sim opened.key.time) begun

        r : IsSerialRound sim begun after_it
        r = round_is_serial sim IsSound Fits laws conservative begun opened.key opened.event ok between opened.is_least

        is_world : IsWorld sim IsSound Fits after_it
        is_world = from_world sim IsSound Fits laws begun after_it ok r.serial

    next_state : (start : World S X) (core : Core S X) (step : CoreStep) → State start core → IsEnabled sim core step → State start (core_step sim step core)
    next_state start core step state enabled = by state.now
      where
        is_open : (s : CoreStep) → IsEnabled sim core s → core.until ≢ None
        is_open (Quantum node) e = e.0
        is_open (Deposit from to) e = e.0
        is_open Turn e = e.0

        by : ((least (events_in sim state.begun) ≡ None) × (core ≡ core_of sim state.begun)) ⊎ Opened state.begun state.ok core → State start (core_step sim step core)
        by (inl closed) = absurd (is_open step enabled (ap (λ (c : Core S X). c.until) closed.1 ∙ ap (option_map (λ (e : Key × Event X). quantum_end sim e.0.time)) closed.0))
        by (inr opened) = subst (State start) (ap (λ until. while_open sim until step core) (sym opened.inside.until_is)) (open_step start core state.begun state.ok state.serial state.between opened step enabled)

    states : (start : World S X) (steps : List CoreStep) (core : Core S X) → State start core → AreEnabled sim core steps → State start (core_run sim steps core)
    states start [] core state enabled = state
    states start (step ∷ steps) core state enabled = states start steps (core_step sim step core) (next_state start core step state enabled.0) enabled.1

    -- ---- what a state says of its core

    module _ (start : World S X) (core : Core S X) (begun : World S X) (ok : IsWorld sim IsSound Fits begun) (between : IsBetweenQuanta sim begun) (opened : Opened begun ok core) where
      abbrev until : ℕ
      until = quantum_end sim opened.key.time

      abbrev inside : IsInside sim IsSound Fits laws begun ok until (below_budget opened.key.time) core
      inside = opened.inside

      abbrev run_there : S → FreeRun S X
      run_there = run sim IsSound Fits laws begun ok until (below_budget opened.key.time)

      abbrev station_there : (ℕ → Bool) → S → Station S X
      station_there = station sim IsSound Fits laws begun ok until (below_budget opened.key.time)

      abbrev outs_there : ℕ → List (Message X)
      outs_there = outs sim IsSound Fits laws begun ok until (below_budget opened.key.time)

      rest : IsAtRest core → core ≡ core_of sim begun
      rest r = λ i. record {
        stations = (inside.stations ∙ map_alike (station_there core.done) (station_in sim begun) begun.nodes
            (λ node member. ap (λ (b : Bool). cond b (record { node = (run_there node).node; pending = (run_there node).pending; until = until }) (station_in sim begun node)) (r.done (sim.number node)))) i;
        kept_end = inside.kept_end i;
        quanta = inside.quanta i;
        until = (inside.until_is ∙ sym (ap (option_map (λ (e : Key × Event X). quantum_end sim e.0.time)) opened.is_least)) i;
        done = λ node. r.done node i;
        out = λ from to. r.out from to i;
        inbox = λ to. r.inbox to i;
      }

      picks : (nodes : List S) → map (λ node. (station_there core.done node).node) nodes ≡ picked sim core.done nodes (map (λ node. (run_there node).node) nodes)
      picks [] = refl
      picks (n ∷ ns) = λ i. by (core.done (sim.number n)) i ∷ picks ns i
        where
          by : (b : Bool) → (cond b (record { node = (run_there n).node; pending = (run_there n).pending; until = until }) (station_in sim begun n)).node ≡ cond b (run_there n).node n
          by true = refl
          by false = refl

      nodes_are : map (λ (s : Station S X). s.node) core.stations ≡ picked sim core.done begun.nodes (round sim until begun).nodes
      nodes_are =
          ap (map (λ (s : Station S X). s.node)) inside.stations ∙ map_map (λ (s : Station S X). s.node) (station_there core.done) begun.nodes
          ∙ picks begun.nodes ∙ ap (picked sim core.done begun.nodes) (sym (map_map (λ (r : FreeRun S X). r.node) run_there begun.nodes))

      -- the node's own part of the world, from which it ran
      own_ok : (node : S) → IsIn node begun.nodes → IsStation sim IsSound Fits node (to_node begun.pending (sim.number node))
      own_ok node member = narrowed sim IsSound Fits laws node begun.pending (sim.number node) (ok.stations node member)

      first_of_all : (node : S) → IsIn node begun.nodes → (k : Key) (e : Event X) → IsIn (k, e) (events_below sim until (node ∷ []) (to_node begun.pending (sim.number node))) → opened.key.time ≤ k.time
      first_of_all node member k e m = upto_time opened.key k (least_upto _ (opened.key, opened.event) (k, e) opened.is_least (own_in_world sim IsSound Fits laws until (below_budget opened.key.time) begun.nodes begun.pending node member k e m))

      late : (from : ℕ) (m : Message X) → IsIn m (outs_there from) → until ≤ m.0.time
      late from m h = by (in_outs sim IsSound Fits laws begun ok until (below_budget opened.key.time) from m h)
        where
          by : (node : S) × IsIn node begun.nodes × (sim.number node ≡ from) × IsIn m (run_there node).outs → until ≤ m.0.time
          by r =
              let out = outs_late sim IsSound Fits laws until (below_budget opened.key.time) (sim.event_limit - sim.handled r.0) opened.key.time r.0 (to_node begun.pending (sim.number r.0)) (own_ok r.0 r.1) (first_of_all r.0 r.1) m r.3 in
              let q = conservative.no_longer in
              omega arith

      is_below : opened.key.time < until
      is_below = by (event_is sim sim.budget begun.nodes begun.pending opened.key opened.event (least_in _ (opened.key, opened.event) opened.is_least))
        where
          by : IsEventBelow sim sim.budget begun.nodes begun.pending opened.key opened.event → opened.key.time < until
          by at = let t = counts_time sim sim.budget at.node opened.key.time at.counts in let p = conservative.positive in omega arith

      after_all : (m : Message X) → until ≤ m.0.time → (node : S) → IsIn node begun.nodes → IsAfter (sim.last node) m.0
      after_all m h node member =
          after_less (sim.last node) opened.key m.0 (ok.rising node opened.key opened.event member (least_in _ (opened.key, opened.event) opened.is_least)) (earlier_less opened.key m.0 (let b = is_below in omega arith))

      past : (m : Message X) (s : Station S X) → until ≤ m.0.time → IsIn s core.stations → IsAfter (sim.last s.node) m.0
      past m s comes member = of (from_map (station_there core.done) s begun.nodes (subst (λ ss. IsIn s ss) inside.stations member))
        where
          of : (node : S) × IsIn node begun.nodes × (s ≡ station_there core.done node) → IsAfter (sim.last s.node) m.0
          of r = subst (λ (t : Station S X). IsAfter (sim.last t.node) m.0) (sym r.2) (by (core.done (sim.number r.0)))
            where
              by : (b : Bool) → IsAfter (sim.last (cond b (record { node = (run_there r.0).node; pending = (run_there r.0).pending; until = until }) (station_in sim begun r.0)).node) m.0
              by true = last_below sim IsSound Fits laws until (below_budget opened.key.time) (sim.event_limit - sim.handled r.0) r.0 (to_node begun.pending (sim.number r.0)) (own_ok r.0 r.1) m.0 comes (after_all m comes r.0 r.1)
              by false = after_all m comes r.0 r.1

      under_way : (from to : ℕ) (m : Message X) → IsIn m (outs_there from) × (m.0.to ≡ to) → IsUnderWay sim Fits until core to m
      under_way from to m h = record {
        fits = sent_fits sim IsSound Fits laws begun ok until (below_budget opened.key.time) core inside from m h.0;
        names = h.1;
        away = λ same. sent_away sim IsSound Fits laws begun ok until (below_budget opened.key.time) core inside from m h.0 (same ∙ sym h.1);
        late = late from m h.0;
        no_past = λ s member number. past m s (late from m h.0) member;
        new = λ s member number. sent_new sim IsSound Fits laws begun ok until (below_budget opened.key.time) core inside from m h.0 s member;
      }

      pub amid : IsAmidQuantum sim Fits begun until core
      amid = record {
        ended = round sim until begun;
        serial = r.serial;
        ends = refl;
        none_left = r.none_left;
        nodes = nodes_are;
        ran = ran sim IsSound Fits laws begun ok until (below_budget opened.key.time) core inside
            (let first = between opened.key opened.event (least_in _ (opened.key, opened.event) opened.is_least) in let b = is_below in omega arith);
        outs = λ from to m h. under_way from to m (out_is sim IsSound Fits laws begun ok until (below_budget opened.key.time) core inside from to m h);
        sources = λ from to m h. outs_source sim IsSound Fits laws begun ok until (below_budget opened.key.time) from m (out_is sim IsSound Fits laws begun ok until (below_budget opened.key.time) core inside from to m h).0;
        inboxes = λ to m h. under_way m.0.from to m (inbox_is sim IsSound Fits laws begun ok until (below_budget opened.key.time) core inside to m h);
        new = inbox_new sim IsSound Fits laws begun ok until (below_budget opened.key.time) core inside;
        parts = inside.parts;
      }
        where
          r : IsSerialRound sim begun (round sim until begun)
          r = round_is_serial sim IsSound Fits laws conservative begun opened.key opened.event ok between opened.is_least

    amid_of : (start : World S X) → IsWorld sim IsSound Fits start → (core : Core S X) → State start core → IsAmid sim Fits start core
    amid_of start start_ok core state = by state.now
      where
        ends : core.until ≡ opening sim state.begun → core.until ≡ None → state.begun ≡ final sim start
        ends opens none = sym ((serial_run_ends sim IsSound Fits laws start start_ok).reached state.begun state.serial (nothing (least (events_in sim state.begun)) (sym opens ∙ none)))
          where
            nothing : (o : Option (Key × Event X)) → option_map (λ (e : Key × Event X). quantum_end sim e.0.time) o ≡ None → o ≡ None
            nothing None e = refl
            nothing (Some f) e = cc

        by : ((least (events_in sim state.begun) ≡ None) × (core ≡ core_of sim state.begun)) ⊎ Opened state.begun state.ok core → IsAmid sim Fits start core
        by (inl closed) = record {
          begun = state.begun;
          serial = state.serial;
          none_left = state.between;
          kept_end = sym (ap (λ (c : Core S X). c.kept_end) closed.1);
          until = ap (λ (c : Core S X). c.until) closed.1;
          rest = λ r. closed.1;
          ends = ends (ap (λ (c : Core S X). c.until) closed.1);
          amid = λ until is. cc (is, ap (λ (c : Core S X). c.until) closed.1, ap (option_map (λ (e : Key × Event X). quantum_end sim e.0.time)) closed.0);
        }
        by (inr opened) = record {
          begun = state.begun;
          serial = state.serial;
          none_left = state.between;
          kept_end = sym opened.inside.kept_end;
          until = opened.inside.until_is ∙ sym (ap (option_map (λ (e : Key × Event X). quantum_end sim e.0.time)) opened.is_least);
          rest = rest start core state.begun state.ok state.between opened;
          ends = ends (opened.inside.until_is ∙ sym (ap (option_map (λ (e : Key × Event X). quantum_end sim e.0.time)) opened.is_least));
          amid = λ until is. let same : quantum_end sim opened.key.time ≡ until = same_some (sym opened.inside.until_is ∙ is) in
              subst (λ u. IsAmidQuantum sim Fits state.begun u core) same (amid start core state.begun state.ok state.between opened);
        }

  pub every_interleaving : EveryInterleaving sim IsSound Fits
  every_interleaving conservative world steps ok between enabled =
      amid_of conservative world ok (core_run sim steps (core_of sim world))
      (states conservative world steps (core_of sim world) (at_rest world world ok (nothing_done sim IsSound Fits laws world) between) enabled)
