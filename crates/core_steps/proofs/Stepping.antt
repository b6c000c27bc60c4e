-- Each step of the code is the step of the simulation's core, and keeps what every core keeps.
use Rattle.std.proofs.Common.{◌≡◌, ◌≢◌, ℕ, zero, suc, ◌+◌, ◌^◌, ◌<◌, ◌≤◌, ◌⊎◌, List, [], ◌∷◌, ◌++◌, length, get_or, set, map, take, drop, replicate, Bool, true, false, cond, Option, Some, None, refl, ap, sym, ◌∙◌, subst, inl, inr, ◌==◌, arith, eqb-true}
use Rattle.std.specs.Prelude.{◌&&◌, ◌||◌, IfSome, flat_map}
use Rattle.std.specs.List.{All}
use Rattle.std.specs.Option.{option_map}
use Rattle.std.proofs.Math.ListN.{length-set}
use Rattle.std.proofs.lemmas.Bool.{cases_lt}
use Rattle.std.proofs.lemmas.List.{length-replicate}
use Rattle.std.proofs.lemmas.List.Elements.{All-set}
use Rattle.wt_params.specs.declared.parts.MachineParts.{MachineParts}
use Rattle.wt_proto.specs.declared.message.Msg.{Msg}
use Rattle.wt_proto.specs.declared.message.Stamped.{Stamped}
use Rattle.wt_proto.specs.Messages.{StampedFits}
use Rattle.discrete_events.specs.Simulation.{Simulation, Message}
use Rattle.discrete_events.specs.Round.{quantum_end}
use Rattle.discrete_events.specs.Core.{Station, Core, CoreStep, Quantum, Deposit, Turn, IsAtRest, IsEnabled, after_turn, core_step, part_to, run_to, while_open, within_quantum}
use Rattle.discrete_events.specs.Laws.{IsIn}
use Rattle.discrete_events.specs.Theorems.{AreNew, IsAmidQuantum, IsUnderWay}
use Rattle.discrete_events.proofs.Lists.{in_map}
use Rattle.node.specs.declared.state.NodeState.{NodeState}
use Rattle.node.specs.Laws.{Fits}
use Rattle.node.specs.React.{message_under_key, wind_tunnel}
use Rattle.quantum.specs.FreeRuns.{run_to_of}
use Rattle.quantum.specs.Stations.{StationModel, MayAccept, accept_of, machine_of, station_of}
use Rattle.engine.specs.Quantum.{IsGood, MayBeGiven, earliest_of, given}
use Rattle.engine.proofs.Places.{in_all}
use Rattle.core_steps.specs.declared.interleaved.Core.TheInside.{Inside}
use Rattle.core_steps.specs.declared.step.Step.{Step}
use Rattle.core_steps.specs.Cores.{CoreModel, IsCore, IsReached, IsStationOf, IsUnbroken, seen, sent_to, sim_of, under_keys}
use Rattle.core_steps.specs.Steps.{HasStepped, IsEnabledStep, step_of}
use Rattle.core_steps.specs.Deliveries.{HaveBeenGiven, MayAllBeGiven}
use Rattle.core_steps.specs.Sent.{IsMoved}
use Rattle.engine.proofs.Going.{few_quanta}
use Rattle.core_steps.proofs.AtRest.{early, opens, running}
use Rattle.core_steps.proofs.Changed.{AreNumbered, changed_map, chosen, given_map, number_at, place_in, set_at}
use Rattle.core_steps.proofs.Reached.{amid, amid_then, laws, numbered, reached_more, within}

-- the step of the simulation was done
pub record Went (before : CoreModel) (step : CoreStep) (after : CoreModel) : Type 0 where
  pub stepped : seen after ≡ core_step (sim_of before) step (seen before)
  pub is_core : IsCore after

or_is : (b x : Bool) → cond b true x ≡ (b || x)
or_is true x = refl
or_is false x = refl

module _ (before : CoreModel) (is : IsCore before) (until : ℕ) (open_until : before.until ≡ Some until) where
  abbrev sim : Simulation NodeState Msg
  sim = sim_of before

  step_is : (step : CoreStep) → core_step sim step (seen before) ≡ within_quantum sim until step (seen before)
  step_is step = ap (λ (o : Option ℕ). while_open sim o step (seen before)) open_until

  are_numbered : AreNumbered before.machine 0 before.stations
  are_numbered = numbered before.machine is.numbers (seen before) is.reached until open_until

  amid_now : IsAmidQuantum sim (Fits before.machine) (amid before.machine is.numbers (seen before) is.reached).begun until (seen before)
  amid_now = amid_then before.machine is.numbers (seen before) is.reached until open_until

  in_seen : (s : StationModel) → IsIn s before.stations → IsIn (station_of s) (seen before).stations
  in_seen s member = in_map station_of s before.stations member

  -- ---- a station may run

  pub may_run : (s : StationModel) → IsIn s before.stations → until ≤ (machine_of s).budget
  may_run s member =
      let one = in_all (IsStationOf before.machine) before.stations is.live s member in
      subst (λ (m : MachineParts). until ≤ m.budget) (sym one.machine_is) (within before.machine is.numbers (seen before) is.reached until open_until)

  pub may_go_on : (s : StationModel) → IsIn s before.stations → s.until ≤ until
  may_go_on s member = amid_now.ran (station_of s) (in_seen s member)

  -- ---- a quantum

  module _ (node : ℕ) (enabled : IsEnabled sim (seen before) (Quantum node)) (new d : StationModel) (outs : List Stamped)
      (ran : station_of new ≡ (run_to_of until (get_or before.stations node d)).0) (handed : under_keys outs ≡ (run_to_of until (get_or before.stations node d)).1) (good : IsStationOf before.machine new) where
    there : node < length before.stations
    there = let n = is.stations in let e = enabled.1 in omega arith

    abbrev after_run : CoreModel
    after_run = record before { stations = set before.stations node new; done = set before.done node true; outs = set before.outs node outs; broken = false }

    old_machine : machine_of (get_or before.stations node d) ≡ before.machine
    old_machine = (is.live node d there).machine_is

    run_of : run_to_of until (get_or before.stations node d) ≡ run_to sim until (station_of (get_or before.stations node d))
    run_of = ap (λ (m : MachineParts). run_to (wind_tunnel m) until (station_of (get_or before.stations node d))) old_machine

    run_stations : map station_of after_run.stations ≡ map (λ (t : Station NodeState Msg). cond (t.node.number == node) (run_to sim until t).0 t) (map station_of before.stations)
    run_stations = changed_map before.machine (λ (t : Station NodeState Msg). (run_to sim until t).0) node 0 node before.stations new d (omega arith) are_numbered there
        (ran ∙ ap (λ (r : Station NodeState Msg × List (Message Msg)). r.0) run_of)

    run_outs : (from to : ℕ) → sent_to to (get_or after_run.outs from []) ≡ cond (from == node) (part_to to (flat_map (λ (t : Station NodeState Msg). cond (t.node.number == node) (run_to sim until t).1 []) (map station_of before.stations))) (sent_to to (get_or before.outs from []))
    run_outs from to =
        ap (sent_to to) (set_at before.outs node from outs [] (let n = is.outs in let e = enabled.1 in omega arith))
        ∙ by (from == node)
      where
        sent : under_keys outs ≡ flat_map (λ (t : Station NodeState Msg). cond (t.node.number == node) (run_to sim until t).1 []) (map station_of before.stations)
        sent = handed ∙ ap (λ (r : Station NodeState Msg × List (Message Msg)). r.1) run_of
            ∙ sym (chosen before.machine (λ (t : Station NodeState Msg). (run_to sim until t).1) node 0 node before.stations d (omega arith) are_numbered there)

        by : (b : Bool) → sent_to to (cond b outs (get_or before.outs from [])) ≡ cond b (part_to to (flat_map (λ (t : Station NodeState Msg). cond (t.node.number == node) (run_to sim until t).1 []) (map station_of before.stations))) (sent_to to (get_or before.outs from []))
        by true = ap (part_to to) sent
        by false = refl

    run_stepped : seen after_run ≡ core_step sim (Quantum node) (seen before)
    run_stepped = (λ i. record {
      stations = run_stations i;
      kept_end = before.kept_end;
      quanta = before.quanta;
      until = before.until;
      done = λ other. (set_at before.done node other true false (let n = is.done in let e = enabled.1 in omega arith) ∙ or_is (other == node) (get_or before.done other false)) i;
      out = λ from to. run_outs from to i;
      inbox = λ to. under_keys (get_or before.inboxes to []);
    }) ∙ sym (step_is (Quantum node))

    pub went_run : Went before (Quantum node) after_run
    went_run = record {
      stepped = run_stepped;
      is_core = record {
        numbers = is.numbers;
        stations = length-set before.stations node new ∙ is.stations;
        done = length-set before.done node true ∙ is.done;
        outs = length-set before.outs node outs ∙ is.outs;
        inboxes = is.inboxes;
        live = All-set (IsStationOf before.machine) before.stations node new good is.live;
        reached = subst (IsReached before.machine) (sym run_stepped) (reached_more before.machine is.numbers (seen before) (Quantum node) is.reached enabled);
      };
    }

  -- ---- a deposit

  module _ (from to : ℕ) (enabled : IsEnabled sim (seen before) (Deposit from to)) (outs inbox : List Stamped) (moved : IsMoved to (get_or before.outs from []) (get_or before.inboxes to []) outs inbox) where
    abbrev after_move : CoreModel
    after_move = record before { outs = set before.outs from outs; inboxes = set before.inboxes to inbox; broken = false }

    abbrev first : List (Message Msg)
    first = sent_to to (get_or before.outs from [])

    move_outs : (one other : ℕ) → sent_to other (get_or after_move.outs one []) ≡ cond ((one == from) && (other == to)) (drop 1 first) (sent_to other (get_or before.outs one []))
    move_outs one other =
        ap (sent_to other) (set_at before.outs from one outs [] (let n = is.outs in let e = enabled.1 in omega arith))
        ∙ by (one == from) refl
      where
        by : (b : Bool) → (one == from) ≡ b → sent_to other (cond b outs (get_or before.outs one [])) ≡ cond (b && (other == to)) (drop 1 first) (sent_to other (get_or before.outs one []))
        by true e = moved.left other ∙ ap (λ (k : ℕ). cond (other == to) (drop 1 first) (sent_to other (get_or before.outs k []))) (sym (eqb-true one from e))
        by false e = refl

    move_inbox : (other : ℕ) → under_keys (get_or after_move.inboxes other []) ≡ cond (other == to) (under_keys (get_or before.inboxes other []) ++ take 1 first) (under_keys (get_or before.inboxes other []))
    move_inbox other =
        ap under_keys (set_at before.inboxes to other inbox [] (let n = is.inboxes in let e = enabled.2 in omega arith))
        ∙ by (other == to) refl
      where
        by : (b : Bool) → (other == to) ≡ b → under_keys (cond b inbox (get_or before.inboxes other [])) ≡ cond b (under_keys (get_or before.inboxes other []) ++ take 1 first) (under_keys (get_or before.inboxes other []))
        by true e = moved.inbox ∙ ap (λ (k : ℕ). under_keys (get_or before.inboxes k []) ++ take 1 first) (sym (eqb-true other to e))
        by false e = refl

    move_stepped : seen after_move ≡ core_step sim (Deposit from to) (seen before)
    move_stepped = (λ i. record {
      stations = map station_of before.stations;
      kept_end = before.kept_end;
      quanta = before.quanta;
      until = before.until;
      done = λ other. get_or before.done other false;
      out = λ one other. move_outs one other i;
      inbox = λ other. move_inbox other i;
    }) ∙ sym (step_is (Deposit from to))

    pub went_move : Went before (Deposit from to) after_move
    went_move = record {
      stepped = move_stepped;
      is_core = record {
        numbers = is.numbers;
        stations = is.stations;
        done = is.done;
        outs = length-set before.outs from outs ∙ is.outs;
        inboxes = length-set before.inboxes to inbox ∙ is.inboxes;
        live = is.live;
        reached = subst (IsReached before.machine) (sym move_stepped) (reached_more before.machine is.numbers (seen before) (Deposit from to) is.reached enabled);
      };
    }

  -- ---- a turn

  may_of : (n : ℕ) (ls : List Stamped) (t : StationModel) → machine_of t ≡ before.machine → t.until ≤ until → t.node.state.number ≡ n → AreNew t.pending (under_keys ls) →
      ((m : Message Msg) → IsIn m (under_keys ls) → IsUnderWay sim (Fits before.machine) until (seen before) n m) → MayBeGiven ls t
  may_of n [] t machine_is ran number new each = tt
  may_of n (l ∷ ls) t machine_is ran number new each = (may, may_of n ls (accept_of l t) machine_is ran number new.1 (λ m h. each m (inr h)))
    where
      way : IsUnderWay sim (Fits before.machine) until (seen before) n (message_under_key l)
      way = each (message_under_key l) (inl refl)

      may : MayAccept t l
      may = record {
        fits = subst (λ (m : MachineParts). StampedFits m l) (sym machine_is) way.fits;
        to = way.names ∙ sym number;
        away = λ e. way.away (e ∙ number);
        late = let late = way.late in omega arith;
        new = new.0;
      }

  pub may_all : MayAllBeGiven before.inboxes before.stations
  may_all place d h =
      let s = get_or before.stations place d in
      let member = place_in before.stations place d h in
      let number : (get_or before.stations place d).node.state.number ≡ place = number_at before.machine 0 place before.stations d are_numbered h ∙ omega arith in
      may_of place (get_or before.inboxes place []) (get_or before.stations place d) (is.live place d h).machine_is (may_go_on (get_or before.stations place d) member) number
      (subst (λ (k : ℕ). AreNew (get_or before.stations place d).pending (under_keys (get_or before.inboxes k []))) number (amid_now.new (station_of (get_or before.stations place d)) (in_seen (get_or before.stations place d) member)))
      (amid_now.inboxes place)

  pub all_good : All IsGood before.stations
  all_good k d h = record { whole = (is.live k d h).whole; live = (is.live k d h).live }

  module _ (enabled : IsEnabled sim (seen before) Turn) (inboxes : List (List Stamped)) (stations : List StationModel) (given_all : HaveBeenGiven before.inboxes before.stations inboxes stations) where
    abbrev turned : Core NodeState Msg
    turned = after_turn sim until (seen before)

    turned_reached : IsReached before.machine turned
    turned_reached = subst (IsReached before.machine) (step_is Turn) (reached_more before.machine is.numbers (seen before) Turn is.reached enabled)

    given_machine : (ls : List Stamped) (t : StationModel) → machine_of (given ls t) ≡ machine_of t
    given_machine [] t = refl
    given_machine (l ∷ ls) t = given_machine ls (accept_of l t)

    pub turned_live : All (IsStationOf before.machine) stations
    turned_live k d h =
        let old : k < length before.stations = let c = given_all.count in omega arith in
        record {
          whole = (given_all.good k d h).whole;
          machine_is = ap machine_of (given_all.each k d old) ∙ given_machine (get_or before.inboxes k []) (get_or before.stations k d) ∙ (is.live k d old).machine_is;
          live = (given_all.good k d h).live;
        }

    turned_stations : map station_of stations ≡ turned.stations
    turned_stations = given_map before.machine before.inboxes 0 before.stations stations are_numbered given_all.count
        (λ k d h. given_all.each k d h ∙ (let e : k ≡ 0 + k = omega arith in ap (λ (n : ℕ). given (get_or before.inboxes n []) (get_or before.stations k d)) e))

    empty_part : (ms : List (Message Msg)) → ((m : Message Msg) → IsIn m ms → ⊥) → ms ≡ []
    empty_part [] never = refl
    empty_part (m ∷ ms) never = absurd (never m (inl refl))

    beyond : (from to : ℕ) → before.machine.nodes ≤ from ⊎ before.machine.nodes ≤ to → (seen before).out from to ≡ []
    beyond from to far = empty_part ((seen before).out from to) (λ m h.
        let way = amid_now.outs from to m h in
        let source = amid_now.sources from to m h in
        let dest = (laws before.machine is.numbers).addressed m way.fits in
        let origin = (laws before.machine is.numbers).sourced m way.fits in
        let names = way.names in
        absurd (omega arith))

    no_out : (from to : ℕ) → (seen before).out from to ≡ []
    no_out from to = elim (cases_lt from before.machine.nodes) [
      | inl low ↦ elim (cases_lt to before.machine.nodes) [
        | inl under ↦ enabled.2 from to low under
        | inr over ↦ beyond from to (inr over)
      ]
      | inr high ↦ beyond from to (inl high)
    ]

    turned_rests : IsAtRest turned
    turned_rests = record { done = λ node. refl; out = no_out; inbox = λ to. refl }

    pub turn_early : IfSome (earliest_of stations) (λ time. time < 2 ^ 40)
    turn_early = early before.machine is.numbers turned turned_reached turned_rests stations turned_live turned_stations

    pub turn_opens : option_map (quantum_end sim) (earliest_of stations) ≡ turned.until
    turn_opens = opens before.machine is.numbers turned turned_reached turned_rests stations turned_live turned_stations

    pub turn_few : before.quanta + 1 ≤ 2 ^ 48
    turn_few = few_quanta _ (running before.machine is.numbers turned turned_reached turned_rests stations turned_live turned_stations)

    none_marked : (n k : ℕ) → get_or (replicate n false) k false ≡ false
    none_marked zero k = refl
    none_marked (suc n) zero = refl
    none_marked (suc n) (suc k) = none_marked n k

    module _ (done : List Bool) (count : ℕ) (cleared : done ≡ replicate count false) (all : count ≡ length before.done) (next : Option ℕ) (next_is : next ≡ option_map (quantum_end sim) (earliest_of stations)) where
      abbrev after_all : CoreModel
      after_all = record before { stations = stations; done = done; inboxes = inboxes; kept_end = until; quanta = before.quanta + 1; until = next; broken = false }

      turn_stepped : seen after_all ≡ core_step sim Turn (seen before)
      turn_stepped = (λ i. record {
        stations = turned_stations i;
        kept_end = until;
        quanta = before.quanta + 1;
        until = (next_is ∙ turn_opens) i;
        done = λ node. (ap (λ (marks : List Bool). get_or marks node false) cleared ∙ none_marked count node) i;
        out = λ from to. sent_to to (get_or before.outs from []);
        inbox = λ to. under_keys (given_all.none_left to i);
      }) ∙ sym (step_is Turn)

      pub went_turn : Went before Turn after_all
      went_turn = record {
        stepped = turn_stepped;
        is_core = record {
          numbers = is.numbers;
          stations = given_all.count ∙ is.stations;
          done = ap length cleared ∙ length-replicate count false ∙ all ∙ is.done;
          outs = is.outs;
          inboxes = given_all.inboxes_count ∙ is.inboxes;
          live = turned_live;
          reached = subst (IsReached before.machine) (sym turn_stepped) (reached_more before.machine is.numbers (seen before) Turn is.reached enabled);
        };
      }

-- ---- what the code has come to, by its view

pub finished : (view now : CoreModel) → view ≡ now → (step : Step) (after : CoreModel) → Went view (step_of step) after → IsEnabledStep now step → IsUnbroken now → after.machine ≡ view.machine → IsUnbroken after → HasStepped now step after
finished view now same step after went enabled whole machine unbroken = record {
  enabled = enabled;
  stepped = subst (λ (core : CoreModel). seen after ≡ core_step (sim_of core) (step_of step) (seen core)) same went.stepped;
  machine = machine ∙ ap (λ (core : CoreModel). core.machine) same;
  unbroken = (whole, unbroken);
}

pub opened : (until : Option ℕ) → until ≢ None → (time : ℕ) × (until ≡ Some time)
opened None open_it = absurd (open_it refl)
opened (Some time) open_it = (time, refl)

-- the view of a core by its fields
abbrev pub view : Inside → CoreModel
view core = record {
  machine = core.machine;
  stations = core.stations.items;
  done = core.done.items;
  outs = core.outs.items;
  inboxes = core.inboxes.items;
  kept_end = core.kept_end;
  quanta = core.quanta;
  until = core.until;
  broken = core.broken;
}
