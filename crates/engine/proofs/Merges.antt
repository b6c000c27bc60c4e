-- Stations that have run, and were each given a merge of what the others sent it, are those of the world after the round.
use Rattle.std.proofs.Common.{◌≡◌, ◌≢◌, ℕ, zero, suc, ◌+◌, ◌<◌, List, [], ◌∷◌, length, map, Bool, false, cond, Some, refl, ap, sym, ◌∙◌, subst, inl, inr, ◌==◌, arith, eq-eqb}
use Rattle.std.specs.Prelude.{flat_map, if◌then◌else◌}
use Rattle.std.specs.List.{filter}
use Rattle.wt_params.specs.declared.parts.MachineParts.{MachineParts}
use Rattle.wt_proto.specs.declared.key.Key.{Key}
use Rattle.wt_proto.specs.declared.message.Msg.{Msg}
use Rattle.wt_proto.specs.declared.message.Stamped.{Stamped}
use Rattle.wt_proto.specs.Messages.{StampedFits}
use Rattle.discrete_events.specs.Simulation.{Simulation, Event, Message}
use Rattle.discrete_events.specs.World.{events_in, least}
use Rattle.discrete_events.specs.Round.{local, together, round}
use Rattle.discrete_events.specs.Core.{Station, Core, run_to as run_of_station, station_in, with_messages, core_of, part_to, quantum_outs, sent_to, core_run}
use Rattle.discrete_events.specs.Laws.{IsIn, IsNumbered, IsWorld}
use Rattle.discrete_events.specs.Theorems.{AreNew, IsUnderWay}
use Rattle.discrete_events.specs.Merges.{IsMerge, IsRoundOf, core_at_turn, round_steps, station_ran}
use Rattle.discrete_events.proofs.Lists.{in_map, from_map, map_alike, map_map, flat_map_alike, flat_map_map, filter_map}
use Rattle.discrete_events.proofs.Queues.{Queue}
use Rattle.discrete_events.proofs.Numbered.{numbered_from, numbered_below}
use Rattle.discrete_events.proofs.Peel.{tested}
use Rattle.discrete_events.proofs.Whole.{round_is_serial, from_world}
use Rattle.discrete_events.proofs.Inside.{stands_for}
use Rattle.discrete_events.proofs.Merged.{in_order, merges_are_rounds}
use Rattle.node.specs.declared.state.NodeState.{NodeState}
use Rattle.node.specs.React.{message_under_key, wind_tunnel}
use Rattle.node.specs.Sound.{IsNode}
use Rattle.node.specs.Laws.{Fits}
use Rattle.quantum.specs.FreeRuns.{run_to_of}
use Rattle.quantum.specs.Stations.{StationModel, MayAccept, accept_of, station_of}
use Rattle.quantum.specs.World.{World}
use Rattle.engine.specs.Engine.{EngineModel, IsRunning, nodes_of, world_of}
use Rattle.engine.specs.Quantum.{AreHandedOut, HaveAdvanced, HaveExchanged, MayBeGiven, changed_at, delivered, given, handed_to, ran_to}
use Rattle.engine.proofs.Places.{nodes_changed}
use Rattle.engine.proofs.Deliveries.{HasRun}
use Rattle.engine.proofs.Owned.{its, laws, member_node, part, wind}
use Rattle.engine.proofs.Letters.{messages, number_kept, ran, ran_by, ran_numbered, run, until, within}

-- ---- a station that is given messages

pub given_station : (ls : List Stamped) (t : StationModel) → station_of (given ls t) ≡ with_messages (map message_under_key ls) (station_of t)
given_station [] t = refl
given_station (l ∷ ls) t = given_station ls (accept_of l t)

given_run : (machine : MachineParts) (time : ℕ) (ls : List Stamped) (t : StationModel) → HasRun machine time t → HasRun machine time (given ls t)
given_run machine time [] t ran = ran
given_run machine time (l ∷ ls) t ran = given_run machine time ls (accept_of l t) (record { machine_is = ran.machine_is; ran = ran.ran })

-- ---- messages in any order, by the stations that they name

abbrev letters_to : ℕ → List Stamped → List Stamped
letters_to to letters = filter (λ letter. letter.to == to) letters

-- a station with those to it among some
abbrev given_its : List Stamped → StationModel → StationModel
given_its letters station = given (letters_to station.node.state.number letters) station

map_same : {A : Type 0} (xs : List A) → map (λ (x : A). x) xs ≡ xs
map_same [] = refl
map_same (x ∷ xs) = ap (λ ys. x ∷ ys) (map_same xs)

module _ (machine : MachineParts) where
  given_first : (letter : Stamped) (letters : List Stamped) (x : StationModel) → letter.to ≡ x.node.state.number → given_its letters (accept_of letter x) ≡ given_its (letter ∷ letters) x
  given_first letter letters x e =
      ap (λ (b : Bool). given (cond b (letter ∷ letters_to x.node.state.number letters) (letters_to x.node.state.number letters)) x) (sym (eq-eqb letter.to x.node.state.number e))

  given_others : (letter : Stamped) (letters : List Stamped) (x : StationModel) → (letter.to ≢ x.node.state.number) → given_its letters x ≡ given_its (letter ∷ letters) x
  given_others letter letters x n =
      ap (λ (b : Bool). given (cond b (letter ∷ letters_to x.node.state.number letters) (letters_to x.node.state.number letters)) x) (sym (tested letter.to x.node.state.number n))

  one_given : (letter : Stamped) (letters : List Stamped) (place from : ℕ) (xs : List StationModel) → IsNumbered (wind_tunnel machine) from (nodes_of xs) → letter.to ≡ from + place →
      map (given_its letters) (changed_at place (accept_of letter) xs) ≡ map (given_its (letter ∷ letters)) xs
  one_given letter letters place from [] numbered to = refl
  one_given letter letters zero from (x ∷ xs) numbered to = λ i. given_first letter letters x (let n = numbered.0 in omega arith) i ∷ rest i
    where
      rest : map (given_its letters) xs ≡ map (given_its (letter ∷ letters)) xs
      rest = map_alike (given_its letters) (given_its (letter ∷ letters)) xs (λ t member. given_others letter letters t
          (let more = numbered_from (wind_tunnel machine) (suc from) (nodes_of xs) t.node.state numbered.1 (in_map (λ (s : StationModel). s.node.state) t xs member) in omega arith))
  one_given letter letters (suc n) from (x ∷ xs) numbered to =
      λ i. given_others letter letters x (let k = numbered.0 in omega arith) i ∷ one_given letter letters n (suc from) xs numbered.1 (omega arith) i

  delivered_given : (letters : List Stamped) (xs : List StationModel) → IsNumbered (wind_tunnel machine) 0 (nodes_of xs) → delivered letters xs ≡ map (given_its letters) xs
  delivered_given [] xs numbered = sym (map_same xs)
  delivered_given (letter ∷ letters) xs numbered =
      delivered_given letters (changed_at letter.to (accept_of letter) xs) (subst (IsNumbered (wind_tunnel machine) 0) (sym (nodes_changed letter.to letter xs)) numbered)
      ∙ one_given letter letters letter.to 0 xs numbered (omega arith)

  pub numbered_length : (from : ℕ) (xs : List StationModel) → IsNumbered (wind_tunnel machine) from (nodes_of xs) → from + length xs ≡ machine.nodes
  numbered_length from [] numbered = omega (arith, numbered)
  numbered_length from (x ∷ xs) numbered = let rest = numbered_length (suc from) xs numbered.1 in omega arith

module _ (engine : EngineModel) (running : IsRunning engine) (key : Key) (event : Event Msg) (is : least (events_in (wind_tunnel engine.machine) (world_of engine)) ≡ Some (key, event)) where
  abbrev sim : Simulation NodeState Msg
  sim = wind_tunnel engine.machine

  abbrev end : ℕ
  end = until engine running key event is

  count : length engine.stations ≡ engine.machine.nodes
  count = let e = numbered_length engine.machine 0 engine.stations running.world.numbered in omega arith

  -- ---- the runs are those of the simulation

  ran_station : (s : StationModel) → IsIn s engine.stations → station_of (ran_to end s) ≡ station_ran sim end (world_of engine) s.node.state
  ran_station s member =
      ap (λ (r : Station NodeState Msg × List (Message Msg)). r.0) (ran_by engine running key event is s member)
      ∙ ap (λ (queue : Queue Msg). (run_of_station sim end (record { node = s.node.state; pending = queue; until = s.until })).0) (part engine running s member)

  outs_are : (s : StationModel) → IsIn s engine.stations → (run engine running key event is s).outs ≡ quantum_outs sim end (world_of engine) s.node.state
  outs_are s member = ap (λ (queue : Queue Msg). (local sim end s.node.state queue).outs) (part engine running s member)

  handed_is : (from to : ℕ) → handed_to end engine.stations from to ≡ sent_to sim end (world_of engine) from to
  handed_is from to = ap (part_to to)
      (flat_map_alike (λ (s : StationModel). if s.node.state.number == from then (run_to_of end s).1 else []) (λ (s : StationModel). if s.node.state.number == from then quantum_outs sim end (world_of engine) s.node.state else []) engine.stations
      (λ s member. ap (λ ms. cond (s.node.state.number == from) ms []) (ap (λ (r : Station NodeState Msg × List (Message Msg)). r.1) (ran_by engine running key event is s member) ∙ outs_are s member))
      ∙ sym (flat_map_map (λ (node : NodeState). if node.number == from then quantum_outs sim end (world_of engine) node else []) (λ (s : StationModel). s.node.state) engine.stations))

  -- ---- a round by merges

  module _ (letters : ℕ → List Stamped) (merges : (to : ℕ) → to < length engine.stations → IsMerge (length engine.stations) (λ from. handed_to end engine.stations from to) (map message_under_key (letters to))) where
    abbrev merged : ℕ → List (Message Msg)
    merged to = map message_under_key (letters to)

    merges_there : (to : ℕ) → to < sim.nodes → IsMerge sim.nodes (λ from. sent_to sim end (world_of engine) from to) (merged to)
    merges_there to h =
        let c = count in
        let m = merges to (omega arith) in
        record { sources = λ message k. (let below = m.sources message k in omega arith); parts = λ from k. m.parts from (omega arith) ∙ handed_is from to }

    pub is_round : IsRoundOf sim (Fits engine.machine) end (world_of engine) merged
    is_round = merges_are_rounds sim (IsNode engine.machine) (Fits engine.machine) (laws engine running) (wind engine running).quanta (world_of engine) key event merged running.world running.between is merges_there

    -- ---- each may be given its messages

    abbrev core : Core NodeState Msg
    core = core_at_turn sim merged (world_of engine)

    may_of : (n : ℕ) (ls : List Stamped) (t : StationModel) → HasRun engine.machine end t → t.node.state.number ≡ n → AreNew t.pending (map message_under_key ls) → ((m : Message Msg) → IsIn m (map message_under_key ls) → IsUnderWay sim (Fits engine.machine) end core n m) → MayBeGiven ls t
    may_of n [] t ran number new each = tt
    may_of n (l ∷ ls) t ran number new each = (may, may_of n ls (accept_of l t) (record { machine_is = ran.machine_is; ran = ran.ran }) number new.1 (λ m h. each m (inr h)))
      where
        way : IsUnderWay sim (Fits engine.machine) end core n (message_under_key l)
        way = each (message_under_key l) (inl refl)

        may : MayAccept t l
        may = record {
          fits = subst (λ m. StampedFits m l) (sym ran.machine_is) way.fits;
          to = way.names ∙ sym number;
          away = λ e. way.away (e ∙ number);
          late = let late = way.late in let r = ran.ran in omega arith;
          new = new.0;
        }

    has_run : (s : StationModel) → IsIn s engine.stations → HasRun engine.machine end (ran_to end s)
    has_run s member = record {
      machine_is = (its engine running s member).machine_is;
      ran = ap (λ (r : Station NodeState Msg × List (Message Msg)). r.0.until) (ran_by engine running key event is s member);
    }

    pub may_be_given : (s : StationModel) → IsIn s engine.stations → MayBeGiven (letters s.node.state.number) (ran_to end s)
    may_be_given s member = may_of number (letters number) (ran_to end s) (has_run s member) (number_kept engine running key event is s member)
        (subst (λ (t : Station NodeState Msg). AreNew t.pending (merged number)) (sym (ran_station s member)) new)
        (λ m h. is_round.amid.inboxes number m (subst (λ ms. IsIn m ms) (sym delivered_there) h))
      where
        number : ℕ
        number = s.node.state.number

        delivered_there : core.inbox number ≡ merged number
        delivered_there = is_round.delivered number (numbered_below sim 0 (nodes_of engine.stations) s.node.state running.world.numbered (member_node engine running s member))

        same_number : (station_ran sim end (world_of engine) s.node.state).node.number ≡ number
        same_number = ap (λ (t : Station NodeState Msg). t.node.number) (sym (ran_station s member)) ∙ number_kept engine running key event is s member

        new : AreNew (station_ran sim end (world_of engine) s.node.state).pending (merged number)
        new = subst (AreNew (station_ran sim end (world_of engine) s.node.state).pending) (ap core.inbox same_number ∙ delivered_there)
            (is_round.amid.new (station_ran sim end (world_of engine) s.node.state)
            (subst (λ ts. IsIn (station_ran sim end (world_of engine) s.node.state) ts) (sym is_round.ran) (in_map (station_ran sim end (world_of engine)) s.node.state (nodes_of engine.stations) (member_node engine running s member))))

  -- ---- the stations before it, and after it

  -- the stations are those of the core of the world
  pub stations_begin : map station_of engine.stations ≡ (core_of sim (world_of engine)).stations
  stations_begin =
      map_alike station_of (λ (s : StationModel). station_in sim (world_of engine) s.node.state) engine.stations
      (λ s member i. record { node = s.node.state; pending = part engine running s member i; until = (its engine running s member).ran i })
      ∙ sym (map_map (station_in sim (world_of engine)) (λ (s : StationModel). s.node.state) engine.stations)

  module _ (stations : List StationModel) (have : HaveAdvanced end engine.stations stations) where
    abbrev after : World
    after = round sim end (world_of engine)

    abbrev its_given : StationModel → StationModel
    its_given s = given (have.letters s.node.state.number) (ran_to end s)

    abbrev node_given : NodeState → Station NodeState Msg
    node_given node = with_messages (map message_under_key (have.letters node.number)) (station_ran sim end (world_of engine) node)

    stations_are : map station_of stations ≡ (core_of sim after).stations
    stations_are =
        ap (map station_of) have.delivery
        ∙ map_map station_of its_given engine.stations
        ∙ map_alike (λ (s : StationModel). station_of (its_given s)) (λ (s : StationModel). node_given s.node.state) engine.stations
        (λ s member. given_station (have.letters s.node.state.number) (ran_to end s) ∙ ap (with_messages (map message_under_key (have.letters s.node.state.number))) (ran_station s member))
        ∙ sym (map_map node_given (λ (s : StationModel). s.node.state) engine.stations)
        ∙ (is_round have.letters have.merges).given

    -- They went there by the steps of the round.
    pub stations_went : map station_of stations ≡ (core_run sim (round_steps sim (λ to. map message_under_key (have.letters to))) (core_of sim (world_of engine))).stations
    stations_went = stations_are ∙ ap (λ (c : Core NodeState Msg). c.stations) (sym (is_round have.letters have.merges).comes_to)

    is_world : IsWorld sim (IsNode engine.machine) (Fits engine.machine) after
    is_world = from_world sim (IsNode engine.machine) (Fits engine.machine) (laws engine running) (world_of engine) after running.world
        (round_is_serial sim (IsNode engine.machine) (Fits engine.machine) (laws engine running) (wind engine running).quanta (world_of engine) key event running.world running.between is).serial

    pub world_is : world_of (record { machine = engine.machine; threaded = engine.threaded; passes = engine.passes; stations = stations; kept_end = end; quanta = engine.quanta + 1; broken = false }) ≡ after
    world_is =
        (λ i. record {
          nodes = (sym (map_map (λ (t : Station NodeState Msg). t.node) station_of stations) ∙ ap (map (λ (t : Station NodeState Msg). t.node)) stations_are) i;
          pending = together ((sym (map_map (λ (t : Station NodeState Msg). t.pending) station_of stations) ∙ ap (map (λ (t : Station NodeState Msg). t.pending)) stations_are) i);
          kept_end = end;
          quanta = engine.quanta + 1;
        })
        ∙ (stands_for sim (IsNode engine.machine) (Fits engine.machine) (laws engine running)).world after is_world

    pub have_run : (s : StationModel) → IsIn s stations → HasRun engine.machine end s
    have_run s member = by (from_map its_given s engine.stations (subst (λ ss. IsIn s ss) have.delivery member))
      where
        by : (t : StationModel) × IsIn t engine.stations × (s ≡ its_given t) → HasRun engine.machine end s
        by (t, there, e) = subst (HasRun engine.machine end) (sym e) (given_run engine.machine end (have.letters t.node.state.number) (ran_to end t) (has_run have.letters have.merges t there))

  -- ---- an exchange in the order of the stations

  module _ (letters : List Stamped) (handed : AreHandedOut end engine.stations letters) where
    in_order_of : (to : ℕ) → map message_under_key (letters_to to letters) ≡ part_to to (flat_map (quantum_outs sim end (world_of engine)) (nodes_of engine.stations))
    in_order_of to =
        sym (filter_map (λ (m : Message Msg). m.0.to == to) message_under_key letters)
        ∙ ap (part_to to) (messages engine running key event is letters handed engine.stations letters (λ s h. h) handed
        ∙ flat_map_alike (λ s. (run engine running key event is s).outs) (λ s. quantum_outs sim end (world_of engine) s.node.state) engine.stations outs_are
        ∙ sym (flat_map_map (quantum_outs sim end (world_of engine)) (λ (s : StationModel). s.node.state) engine.stations))

    pub merge_in_order : (to : ℕ) → to < length engine.stations → IsMerge (length engine.stations) (λ from. handed_to end engine.stations from to) (map message_under_key (letters_to to letters))
    merge_in_order to h =
        let c = count in
        let m = subst (IsMerge sim.nodes (λ from. sent_to sim end (world_of engine) from to)) (sym (in_order_of to)) (in_order sim (IsNode engine.machine) (Fits engine.machine) (laws engine running) (world_of engine) running.world end (within engine running key event is) to) in
        record { sources = λ message k. (let below = m.sources message k in omega arith); parts = λ from k. m.parts from (omega arith) ∙ sym (handed_is from to) }

    given_in_order : delivered letters (ran engine running key event is) ≡ map (λ (s : StationModel). given (letters_to s.node.state.number letters) (ran_to end s)) engine.stations
    given_in_order =
        delivered_given engine.machine letters (ran engine running key event is) (ran_numbered engine running key event is 0 engine.stations (λ s h. h) running.world.numbered)
        ∙ map_map (given_its letters) (ran_to end) engine.stations
        ∙ map_alike (λ (s : StationModel). given_its letters (ran_to end s)) (λ (s : StationModel). given (letters_to s.node.state.number letters) (ran_to end s)) engine.stations
        (λ s member. ap (λ n. given (letters_to n letters) (ran_to end s)) (number_kept engine running key event is s member))

  pub have_advanced : (stations : List StationModel) → HaveExchanged end engine.stations stations → HaveAdvanced end engine.stations stations
  have_advanced stations have = record {
    letters = λ to. letters_to to have.letters;
    merges = merge_in_order have.letters have.handed_out;
    delivery = have.delivery ∙ given_in_order have.letters have.handed_out;
    good = have.good;
  }
