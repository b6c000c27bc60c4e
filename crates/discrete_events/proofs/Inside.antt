-- A core inside the quantum that a world opens: what its quanta, deposits and its turn keep.
use Rattle.std.proofs.Common.{◌≡◌, ◌≢◌, ℕ, suc, ◌+◌, ◌-◌, ◌<◌, ◌≤◌, ◌⊎◌, List, [], ◌∷◌, ◌++◌, map, take, drop, Bool, true, false, cond, Option, Some, None, refl, ap, sym, ◌∙◌, subst, inl, inr, ◌==◌, arith, eqb-true, eq-eqb, append-nil, append_assoc}
use Rattle.std.specs.Prelude.{flat_map, ◌&&◌, ◌||◌, if◌then◌else◌}
use Rattle.std.specs.FinMap.{get}
use Rattle.wt_proto.specs.declared.key.Key.{Key}
use Rattle.discrete_events.specs.Simulation.{Simulation, Message}
use Rattle.discrete_events.specs.World.{World}
use Rattle.discrete_events.specs.Serial.{placed}
use Rattle.discrete_events.specs.Round.{FreeRun, local, to_node, together, round}
use Rattle.discrete_events.specs.Core.{Station, run_to, Core, world_of_core, opening, station_in, core_of, part_from, part_to, is_at, after_quantum, after_deposit, with_inbox, after_turn}
use Rattle.discrete_events.specs.Laws.{IsIn, IsSimulation, IsNumbered, IsWorld}
use Rattle.discrete_events.specs.Theorems.{IsResting, StandsFor}
use Rattle.discrete_events.proofs.Lists.{filter_append, filter_all, filter_none, or_else, in_append, in_right, from_filter, from_flat_map, map_alike, flat_map_alike, map_map, flat_map_map}
use Rattle.discrete_events.proofs.Queues.{Queue, same_queue, get_placed, get_to_node, get_together, last_of, last_of_filter, last_where}
use Rattle.discrete_events.proofs.Stations.{lt_or_le}
use Rattle.discrete_events.proofs.FreeRuns.{IsRunOf, run_of, outs_fit as run_outs_fit}
use Rattle.discrete_events.proofs.Numbered.{numbered_below, single_first, last_alike}
use Rattle.discrete_events.proofs.Peel.{tested, to_node_is, get_exchanged, narrowed}
use Rattle.discrete_events.proofs.RoundIsSerial.{queues_together}

no_left : {A : Type 0} (xs ys : List A) → xs ++ ys ≡ [] → xs ≡ []
no_left [] ys e = refl
no_left (x ∷ xs) ys e = cc

no_right : {A : Type 0} (xs ys : List A) → xs ++ ys ≡ [] → ys ≡ []
no_right [] ys e = e
no_right (x ∷ xs) ys e = cc

first_and_rest : {A : Type 0} (xs : List A) → take 1 xs ++ drop 1 xs ≡ xs
first_and_rest [] = refl
first_and_rest (x ∷ xs) = refl

in_first : {A : Type 0} (x : A) (xs : List A) → IsIn x (take 1 xs) → IsIn x xs
in_first x [] is = is
in_first x (y ∷ ys) (inl e) = inl e
in_first x (y ∷ ys) (inr is) = absurd is

pub and_false : (b : Bool) → (b && false) ≡ false
and_false true = refl
and_false false = refl

module _ {S X : Type 0} (sim : Simulation S X) (IsSound : S → Type 0) (Fits : Message X → Type 0) (laws : IsSimulation sim IsSound Fits) where
  -- ---- the core of a world stands for it

  core_stands_for : (world : World S X) → IsWorld sim IsSound Fits world → world_of_core (core_of sim world) ≡ world
  core_stands_for world ok = λ i. record {
    nodes = (map_map (λ (s : Station S X). s.node) (station_in sim world) world.nodes ∙ map_same world.nodes) i;
    pending = (ap together (map_map (λ (s : Station S X). s.pending) (station_in sim world) world.nodes) ∙ queues_together sim IsSound Fits laws world ok) i;
    kept_end = world.kept_end;
    quanta = world.quanta;
  }
    where
      map_same : (nodes : List S) → map (λ (n : S). n) nodes ≡ nodes
      map_same [] = refl
      map_same (x ∷ xs) = ap (λ ys. x ∷ ys) (map_same xs)

  -- ---- a core at rest is the core of its world

  -- stations, numbered as their nodes are
  abbrev of_stations : Simulation (Station S X) X
  of_stations = record {
    nodes = sim.nodes;
    event_limit = sim.event_limit;
    budget = sim.budget;
    quantum = sim.quantum;
    lookahead = sim.lookahead;
    number = λ station. sim.number station.node;
    handled = λ station. sim.handled station.node;
    last = λ station. sim.last station.node;
    sent = λ station. sim.sent station.node;
    next = λ station. sim.next station.node;
    react = λ station event. (station, []);
  }

  stations_numbered : (from : ℕ) (stations : List (Station S X)) → IsNumbered sim from (map (λ (s : Station S X). s.node) stations) → IsNumbered of_stations from stations
  stations_numbered from [] is = is
  stations_numbered from (s ∷ ss) is = (is.0, stations_numbered (suc from) ss is.1)

  map_itself : (stations : List (Station S X)) (f : Station S X → Station S X) → ((s : Station S X) → IsIn s stations → s ≡ f s) → stations ≡ map f stations
  map_itself [] f is = refl
  map_itself (s ∷ ss) f is = λ i. is s (inl refl) i ∷ map_itself ss f (λ t h. is t (inr h)) i

  core_is : (core : Core S X) → IsResting sim core → core ≡ core_of sim (world_of_core core)
  core_is core resting = λ i. record {
    stations = stations i;
    kept_end = core.kept_end;
    quanta = core.quanta;
    until = resting.until i;
    done = λ node. resting.rest.done node i;
    out = λ from to. resting.rest.out from to i;
    inbox = λ to. resting.rest.inbox to i;
  }
    where
      queues : Queue X
      queues = together (map (λ (s : Station S X). s.pending) core.stations)

      not_its : (s : Station S X) → IsIn s core.stations → (q : Key) → (q.to ≢ sim.number s.node) → get s.pending q ≡ None
      not_its s member q n = by (get s.pending q) refl
        where
          by : (o : Option X) → get s.pending q ≡ o → o ≡ None
          by None e = refl
          by (Some v) e = absurd (n (resting.own s q v member e))

      part : (s : Station S X) → IsIn s core.stations → s.pending ≡ to_node queues (sim.number s.node)
      part s member = same_queue _ _ (λ q. by q (q.to == sim.number s.node) refl ∙ sym (get_to_node queues (sim.number s.node) q))
        where
          by : (q : Key) (b : Bool) → (q.to == sim.number s.node) ≡ b → get s.pending q ≡ cond b (get queues q) None
          by q true e =
              sym (get_together (map (λ (t : Station S X). t.pending) core.stations) q
              ∙ single_first of_stations q (λ (t : Station S X). t.pending) 0 core.stations s (stations_numbered 0 core.stations resting.numbered) member (λ other h n. not_its other h q (λ same. n (sym same ∙ eqb-true _ _ e))))
          by q false e = not_its s member q (λ same. cc (e, eq-eqb q.to (sim.number s.node) same))

      stations : core.stations ≡ map (station_in sim (world_of_core core)) (map (λ (s : Station S X). s.node) core.stations)
      stations =
          map_itself core.stations (λ s. station_in sim (world_of_core core) s.node) (λ s member i. record { node = s.node; pending = part s member i; until = resting.ran s member i })
          ∙ sym (map_map (station_in sim (world_of_core core)) (λ (s : Station S X). s.node) core.stations)

  pub stands_for : StandsFor sim IsSound Fits
  stands_for = record { world = core_stands_for; core = core_is }

  -- ---- a core inside the quantum that a world opens

  module _ (world : World S X) (ok : IsWorld sim IsSound Fits world) (until : ℕ) (within : until ≤ sim.budget) where
    abbrev pub run : S → FreeRun S X
    run node = local sim until node (to_node world.pending (sim.number node))

    pub run_is : (node : S) → IsIn node world.nodes → IsRunOf sim node (run node)
    run_is node member = run_of sim IsSound Fits laws until within (sim.event_limit - sim.handled node) node (to_node world.pending (sim.number node))
        (narrowed sim IsSound Fits laws node world.pending (sim.number node) (ok.stations node member)) (λ q v e. (to_node_is world.pending (sim.number node) q v e).1)

    pub outs_fit : (node : S) → IsIn node world.nodes → (m : Message X) → IsIn m (run node).outs → Fits m
    outs_fit node member = run_outs_fit sim IsSound Fits laws until within (sim.event_limit - sim.handled node) node (to_node world.pending (sim.number node))
        (narrowed sim IsSound Fits laws node world.pending (sim.number node) (ok.stations node member))

    abbrev pub station : (ℕ → Bool) → S → Station S X
    station done node = if done (sim.number node) then record { node = (run node).node; pending = (run node).pending; until = until } else station_in sim world node

    abbrev pub outs : ℕ → List (Message X)
    outs from = flat_map (λ node. if sim.number node == from then (run node).outs else []) world.nodes

    pub record IsInside (core : Core S X) : Type 0 where
      pub kept_end : core.kept_end ≡ world.kept_end
      pub quanta : core.quanta ≡ world.quanta
      pub until_is : core.until ≡ Some until
      pub stations : core.stations ≡ map (station core.done) world.nodes
      pub parts : (from to : ℕ) → part_from from (core.inbox to) ++ core.out from to ≡ (if core.done from then part_to to (outs from) else [])
      pub to_it : (to : ℕ) (m : Message X) → IsIn m (core.inbox to) → m.0.to ≡ to

    -- what is in the outs of a number is sent by its node
    pub in_outs : (from : ℕ) (m : Message X) → IsIn m (outs from) → (node : S) × IsIn node world.nodes × (sim.number node ≡ from) × IsIn m (run node).outs
    in_outs from m h = of (from_flat_map (λ node. if sim.number node == from then (run node).outs else []) m world.nodes h)
      where
        of : (node : S) × IsIn node world.nodes × IsIn m (cond (sim.number node == from) (run node).outs []) → (node : S) × IsIn node world.nodes × (sim.number node ≡ from) × IsIn m (run node).outs
        of (node, member, it) = by (sim.number node == from) refl it
          where
            by : (b : Bool) → (sim.number node == from) ≡ b → IsIn m (cond b (run node).outs []) → (n : S) × IsIn n world.nodes × (sim.number n ≡ from) × IsIn m (run n).outs
            by true e k = (node, member, eqb-true _ _ e, k)
            by false e k = absurd k

    pub outs_source : (from : ℕ) (m : Message X) → IsIn m (outs from) → m.0.from ≡ from
    outs_source from m h = let r = in_outs from m h in (run_is r.0 r.1).source m r.3 ∙ r.2

    module _ (core : Core S X) (inside : IsInside core) where
      -- what a node hasn't deposited is what it sent
      pub out_is : (from to : ℕ) (m : Message X) → IsIn m (core.out from to) → IsIn m (outs from) × (m.0.to ≡ to)
      out_is from to m h = by (core.done from) (subst (λ ms. IsIn m ms) (inside.parts from to) (in_right m (part_from from (core.inbox to)) (core.out from to) h))
        where
          by : (b : Bool) → IsIn m (cond b (part_to to (outs from)) []) → IsIn m (outs from) × (m.0.to ≡ to)
          by true k = let r = from_filter (λ (n : Message X). n.0.to == to) m (outs from) k in (r.0, eqb-true _ _ r.1)
          by false k = absurd k

      station_number : (node : S) → IsIn node world.nodes → sim.number (station core.done node).node ≡ sim.number node
      station_number node member = by (core.done (sim.number node))
        where
          by : (b : Bool) → sim.number (cond b (record { node = (run node).node; pending = (run node).pending; until = until }) (station_in sim world node)).node ≡ sim.number node
          by true = (run_is node member).number
          by false = refl

      -- ---- a quantum

      module _ (at : ℕ) (not_done : core.done at ≡ false) where
        fresh_there : (node : S) → (sim.number node == at) ≡ true → station core.done node ≡ station_in sim world node
        fresh_there node e = ap (λ (b : Bool). cond b (record { node = (run node).node; pending = (run node).pending; until = until }) (station_in sim world node)) (ap core.done (eqb-true _ _ e) ∙ not_done)

        abbrev moved : Station S X → Station S X
        moved s = if is_at sim at s then (run_to sim until s).0 else s

        abbrev marked : ℕ → Bool
        marked other = (other == at) || core.done other

        moved_station : (node : S) → IsIn node world.nodes → moved (station core.done node) ≡ station marked node
        moved_station node member = by (sim.number node == at) refl
          where
            by : (b : Bool) → (sim.number node == at) ≡ b → moved (station core.done node) ≡ station marked node
            by true e =
                ap moved (fresh_there node e) ∙ ap (λ (b : Bool). cond b (run_to sim until (station_in sim world node)).0 (station_in sim world node)) e
                ∙ ap (λ (b : Bool). cond (b || core.done (sim.number node)) (record { node = (run node).node; pending = (run node).pending; until = until }) (station_in sim world node)) (sym e)
            by false e =
                ap (λ (n : ℕ). cond (n == at) (run_to sim until (station core.done node)).0 (station core.done node)) (station_number node member)
                ∙ ap (λ (b : Bool). cond b (run_to sim until (station core.done node)).0 (station core.done node)) e
                ∙ ap (λ (b : Bool). cond (b || core.done (sim.number node)) (record { node = (run node).node; pending = (run node).pending; until = until }) (station_in sim world node)) (sym e)

        abbrev its_outs : Station S X → List (Message X)
        its_outs s = if is_at sim at s then (run_to sim until s).1 else []

        outs_there : flat_map its_outs core.stations ≡ outs at
        outs_there = ap (flat_map its_outs) inside.stations ∙ flat_map_map its_outs (station core.done) world.nodes
            ∙ flat_map_alike (λ node. its_outs (station core.done node)) (λ node. if sim.number node == at then (run node).outs else []) world.nodes (λ node member. by node member (sim.number node == at) refl)
          where
            by : (node : S) → IsIn node world.nodes → (b : Bool) → (sim.number node == at) ≡ b → its_outs (station core.done node) ≡ cond (sim.number node == at) (run node).outs []
            by node member true e = ap its_outs (fresh_there node e)
            by node member false e =
                ap (λ (n : ℕ). cond (n == at) (run_to sim until (station core.done node)).1 []) (station_number node member)
                ∙ ap (λ (b : Bool). cond b (run_to sim until (station core.done node)).1 []) e ∙ ap (λ (b : Bool). cond b (run node).outs []) (sym e)

        after_quantum_parts : (from to : ℕ) → part_from from (core.inbox to) ++ (if from == at then part_to to (flat_map its_outs core.stations) else core.out from to) ≡ (if marked from then part_to to (outs from) else [])
        after_quantum_parts from to = by (from == at) refl
          where
            by : (b : Bool) → (from == at) ≡ b → part_from from (core.inbox to) ++ cond b (part_to to (flat_map its_outs core.stations)) (core.out from to) ≡ cond (b || core.done from) (part_to to (outs from)) []
            by true e =
                let same : from ≡ at = eqb-true _ _ e in
                let none = no_left (part_from from (core.inbox to)) (core.out from to) (inside.parts from to ∙ ap (λ (b : Bool). cond b (part_to to (outs from)) []) (ap core.done same ∙ not_done)) in
                (λ i. none i ++ part_to to ((outs_there ∙ ap outs (sym same)) i))
            by false e = inside.parts from to

        pub inside_quantum : IsInside (after_quantum sim until at core)
        inside_quantum = record {
          kept_end = inside.kept_end;
          quanta = inside.quanta;
          until_is = inside.until_is;
          stations = ap (map moved) inside.stations ∙ map_map moved (station core.done) world.nodes ∙ map_alike (λ node. moved (station core.done node)) (station marked) world.nodes moved_station;
          parts = after_quantum_parts;
          to_it = inside.to_it;
        }

      -- ---- a deposit

      module _ (at dest : ℕ) where
        abbrev first : List (Message X)
        first = take 1 (core.out at dest)

        first_from : (m : Message X) → IsIn m first → m.0.from ≡ at
        first_from m h = outs_source at m (out_is at dest m (in_first m (core.out at dest) h)).0

        after_deposit_parts : (from to : ℕ) → part_from from (if to == dest then core.inbox to ++ first else core.inbox to) ++ (if (from == at) && (to == dest) then drop 1 (core.out at dest) else core.out from to) ≡ (if core.done from then part_to to (outs from) else [])
        after_deposit_parts from to = by (to == dest) refl
          where
            here : (b : Bool) → (from == at) ≡ b → to ≡ dest → part_from from (core.inbox to ++ first) ++ cond (b && true) (drop 1 (core.out at dest)) (core.out from to) ≡ part_from from (core.inbox to) ++ core.out from to
            here true e same =
                ap (λ ms. ms ++ drop 1 (core.out at dest)) (filter_append (λ (m : Message X). m.0.from == from) (core.inbox to) first ∙ ap (λ ms. part_from from (core.inbox to) ++ ms) (filter_all (λ (m : Message X). m.0.from == from) first (λ m h. eq-eqb _ _ (first_from m h ∙ sym (eqb-true _ _ e)))))
                ∙ append_assoc (part_from from (core.inbox to)) first (drop 1 (core.out at dest))
                ∙ ap (λ ms. part_from from (core.inbox to) ++ ms) (first_and_rest (core.out at dest) ∙ (λ i. core.out (sym (eqb-true _ _ e) i) (sym same i)))
            here false e same =
                ap (λ ms. ms ++ core.out from to) (filter_append (λ (m : Message X). m.0.from == from) (core.inbox to) first
                ∙ ap (λ ms. part_from from (core.inbox to) ++ ms) (filter_none (λ (m : Message X). m.0.from == from) first (λ m h. tested m.0.from from (λ (is : m.0.from ≡ from). cc (e, eq-eqb from at (sym is ∙ first_from m h)))))
                ∙ append-nil (part_from from (core.inbox to)))

            by : (b : Bool) → (to == dest) ≡ b → part_from from (cond b (core.inbox to ++ first) (core.inbox to)) ++ cond ((from == at) && b) (drop 1 (core.out at dest)) (core.out from to) ≡ cond (core.done from) (part_to to (outs from)) []
            by true e = here (from == at) refl (eqb-true _ _ e) ∙ inside.parts from to
            by false e = ap (λ (b : Bool). part_from from (core.inbox to) ++ cond b (drop 1 (core.out at dest)) (core.out from to)) (and_false (from == at)) ∙ inside.parts from to

        after_deposit_to : (to : ℕ) (m : Message X) → IsIn m (if to == dest then core.inbox to ++ first else core.inbox to) → m.0.to ≡ to
        after_deposit_to to m h = by (to == dest) refl h
          where
            either : to ≡ dest → IsIn m (core.inbox to) ⊎ IsIn m first → m.0.to ≡ to
            either same (inl k) = inside.to_it to m k
            either same (inr k) = (out_is at dest m (in_first m (core.out at dest) k)).1 ∙ sym same

            by : (b : Bool) → (to == dest) ≡ b → IsIn m (cond b (core.inbox to ++ first) (core.inbox to)) → m.0.to ≡ to
            by true e k = either (eqb-true _ _ e) (in_append m (core.inbox to) first k)
            by false e k = inside.to_it to m k

        pub inside_deposit : IsInside (after_deposit at dest core)
        inside_deposit = record {
          kept_end = inside.kept_end;
          quanta = inside.quanta;
          until_is = inside.until_is;
          stations = inside.stations;
          parts = after_deposit_parts;
          to_it = after_deposit_to;
        }

      -- ---- a turn

      module _ (all_done : (node : ℕ) → node < sim.nodes → core.done node ≡ true) (all_out : (from to : ℕ) → from < sim.nodes → to < sim.nodes → core.out from to ≡ []) where
        pub outs_of_none : (from : ℕ) → sim.nodes ≤ from → outs from ≡ []
        outs_of_none from high = flat_map_alike (λ node. if sim.number node == from then (run node).outs else []) (λ node. []) world.nodes (λ node member. ap (λ (b : Bool). cond b (run node).outs []) (tested (sim.number node) from (let low = numbered_below sim 0 world.nodes node ok.numbered member in omega arith))) ∙ none_of world.nodes
          where
            none_of : (nodes : List S) → flat_map {A = Message X} (λ (n : S). []) nodes ≡ []
            none_of [] = refl
            none_of (n ∷ ns) = none_of ns

        -- what was deposited is all that was sent
        deposited : (from to : ℕ) → to < sim.nodes → part_from from (core.inbox to) ≡ part_to to (outs from)
        deposited from to there = by (lt_or_le from sim.nodes)
          where
            by : (from < sim.nodes) ⊎ (sim.nodes ≤ from) → part_from from (core.inbox to) ≡ part_to to (outs from)
            by (inl low) =
                sym (append-nil (part_from from (core.inbox to))) ∙ ap (λ ms. part_from from (core.inbox to) ++ ms) (sym (all_out from to low there))
                ∙ inside.parts from to ∙ ap (λ (b : Bool). cond b (part_to to (outs from)) []) (all_done from low)
            by (inr high) =
                no_left (part_from from (core.inbox to)) (core.out from to) (inside.parts from to ∙ ap (λ ms. cond (core.done from) (part_to to ms) []) (outs_of_none from high) ∙ same (core.done from))
                ∙ ap (part_to to) (sym (outs_of_none from high))
              where
                same : (b : Bool) → ◌≡◌ {A = List (Message X)} (cond b [] []) []
                same true = refl
                same false = refl

        abbrev after : World S X
        after = round sim until world

        last_deposited : (to : ℕ) (q : Key) → to < sim.nodes → q.to ≡ to → last_of q (core.inbox to) ≡ last_of q (flat_map (λ node. (run node).outs) world.nodes)
        last_deposited to q there same =
            sym (last_of_filter (λ k. k.from == q.from) q (core.inbox to) ∙ ap (λ (b : Bool). cond b (last_of q (core.inbox to)) None) (eq-eqb q.from q.from refl))
            ∙ ap (last_of q) (deposited q.from to there)
            ∙ last_of_filter (λ k. k.to == to) q (outs q.from) ∙ ap (λ (b : Bool). cond b (last_of q (outs q.from)) None) (eq-eqb q.to to same)
            ∙ last_alike sim q (λ node. if sim.number node == q.from then (run node).outs else []) (λ node. (run node).outs) world.nodes (λ node member. by node member (sim.number node == q.from) refl)
          where
            by : (node : S) → IsIn node world.nodes → (b : Bool) → (sim.number node == q.from) ≡ b → last_of q (cond (sim.number node == q.from) (run node).outs []) ≡ last_of q (run node).outs
            by node member true e = ap (λ (b : Bool). last_of q (cond b (run node).outs [])) e
            by node member false e = ap (λ (b : Bool). last_of q (cond b (run node).outs [])) e ∙ sym (none (last_where (λ k. k.from ≡ sim.number node) q (run node).outs (run_is node member).source))
              where
                none : (last_of q (run node).outs ≡ None) ⊎ (q.from ≡ sim.number node) → last_of q (run node).outs ≡ None
                none (inl n) = n
                none (inr f) = cc (e, eq-eqb (sim.number node) q.from (sym f))

        not_kept : (node : S) → IsIn node world.nodes → (q : Key) → (q.to ≢ sim.number node) → get (run node).pending q ≡ None
        not_kept node member q n = by (get (run node).pending q) refl
          where
            by : (o : Option X) → get (run node).pending q ≡ o → o ≡ None
            by None e = refl
            by (Some v) e = absurd (n ((run_is node member).kept q v e))

        -- with its inbox, a node has its part of what is pending after the round
        pub queue_after : (node : S) → IsIn node world.nodes → placed (run node).pending (core.inbox (sim.number node)) ≡ to_node after.pending (sim.number node)
        queue_after node member = same_queue _ _ (λ q. get_placed (run node).pending (core.inbox (sim.number node)) q ∙ by q (q.to == sim.number node) refl ∙ sym (get_to_node after.pending (sim.number node) q))
          where
            there : sim.number node < sim.nodes
            there = numbered_below sim 0 world.nodes node ok.numbered member

            none : (q : Key) → (q.to ≢ sim.number node) → (last_of q (core.inbox (sim.number node)) ≡ None) ⊎ (q.to ≡ sim.number node) → last_of q (core.inbox (sim.number node)) ≡ None
            none q n (inl h) = h
            none q n (inr e) = absurd (n e)

            by : (q : Key) (b : Bool) → (q.to == sim.number node) ≡ b → or_else (last_of q (core.inbox (sim.number node))) (get (run node).pending q) ≡ cond b (get after.pending q) None
            by q true e =
                (λ i. or_else (last_deposited (sim.number node) q there (eqb-true _ _ e) i)
                (sym (single_first sim q (λ n. (run n).pending) 0 world.nodes node ok.numbered member (λ other h n. not_kept other h q (λ same. n (sym same ∙ eqb-true _ _ e)))) i))
                ∙ sym (get_exchanged run world.nodes q)
            by q false e =
                let away : q.to ≢ sim.number node = λ same. cc (e, eq-eqb q.to (sim.number node) same) in
                (λ i. or_else (none q away (last_where (λ k. k.to ≡ sim.number node) q (core.inbox (sim.number node)) (inside.to_it (sim.number node))) i) (not_kept node member q away i))

        abbrev turned : Core S X
        turned = record core { stations = map (with_inbox sim core.inbox) core.stations; kept_end = until; quanta = core.quanta + 1; done = λ node. false; inbox = λ to. [] }

        station_after : (node : S) → IsIn node world.nodes → with_inbox sim core.inbox (station core.done node) ≡ station_in sim after (run node).node
        station_after node member =
            ap (λ (b : Bool). with_inbox sim core.inbox (cond b (record { node = (run node).node; pending = (run node).pending; until = until }) (station_in sim world node))) (all_done (sim.number node) (numbered_below sim 0 world.nodes node ok.numbered member))
            ∙ (λ i. record { node = (run node).node; pending = queue i; until = until })
          where
            queue : placed (run node).pending (core.inbox (sim.number (run node).node)) ≡ to_node after.pending (sim.number (run node).node)
            queue = ap (λ n. placed (run node).pending (core.inbox n)) (run_is node member).number ∙ queue_after node member ∙ ap (to_node after.pending) (sym (run_is node member).number)

        stations_after : turned.stations ≡ map (station_in sim after) after.nodes
        stations_after =
            ap (map (with_inbox sim core.inbox)) inside.stations ∙ map_map (with_inbox sim core.inbox) (station core.done) world.nodes
            ∙ map_alike (λ node. with_inbox sim core.inbox (station core.done node)) (λ node. station_in sim after (run node).node) world.nodes station_after
            ∙ sym (map_map (station_in sim after) (λ node. (run node).node) world.nodes)
            ∙ ap (map (station_in sim after)) (sym (map_map (λ (r : FreeRun S X). r.node) run world.nodes))

        no_out : (from to : ℕ) → core.out from to ≡ []
        no_out from to = by (lt_or_le from sim.nodes) (lt_or_le to sim.nodes)
          where
            empty_part : (ms : List (Message X)) → ((m : Message X) → IsIn m ms → ⊥) → ms ≡ []
            empty_part [] none = refl
            empty_part (m ∷ ms) none = absurd (none m (inl refl))

            by : (from < sim.nodes) ⊎ (sim.nodes ≤ from) → (to < sim.nodes) ⊎ (sim.nodes ≤ to) → core.out from to ≡ []
            by (inl a) (inl b) = all_out from to a b
            by (inr a) h = empty_part (core.out from to) (λ m k. subst (λ ms. IsIn m ms) (outs_of_none from a) (out_is from to m k).0)
            by (inl a) (inr b) = empty_part (core.out from to) (λ m k. sent m (in_outs from m (out_is from to m k).0) (out_is from to m k).1)
              where
                sent : (m : Message X) → (node : S) × IsIn node world.nodes × (sim.number node ≡ from) × IsIn m (run node).outs → m.0.to ≡ to → ⊥
                sent m r same = let f = laws.addressed m (outs_fit r.0 r.1 m r.3) in omega arith

        pub turns_to : IsWorld sim IsSound Fits after → after_turn sim until core ≡ core_of sim after
        turns_to is_world = λ i. record {
          stations = stations_after i;
          kept_end = until;
          quanta = inside.quanta i + 1;
          until = opens i;
          done = λ node. false;
          out = λ from to. no_out from to i;
          inbox = λ to. [];
        }
          where
            stands : world_of_core turned ≡ after
            stands = (λ i. record {
              nodes = map (λ (s : Station S X). s.node) (stations_after i);
              pending = together (map (λ (s : Station S X). s.pending) (stations_after i));
              kept_end = until;
              quanta = inside.quanta i + 1;
            }) ∙ core_stands_for after is_world

            opens : opening sim (world_of_core turned) ≡ opening sim after
            opens = ap (opening sim) stands
