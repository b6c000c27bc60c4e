-- A round of conservative quanta is the serial run.
use Rattle.std.proofs.Common.{◌≡◌, ℕ, zero, suc, ◌+◌, ◌-◌, ◌*◌, ◌<◌, ◌≤◌, ◌⊎◌, List, [], ◌∷◌, map, Bool, true, false, cond, Option, Some, None, refl, ap, sym, ◌∙◌, subst, inl, inr, ◌==◌, arith}
use Rattle.std.specs.FinMap.{get}
use Rattle.wt_proto.specs.declared.key.Key.{Key}
use Rattle.discrete_events.specs.Simulation.{Simulation, Event, Message}
use Rattle.discrete_events.specs.World.{World, events_in, least}
use Rattle.discrete_events.specs.Serial.{serial_step, serial}
use Rattle.discrete_events.specs.Round.{FreeRun, local, to_node, runs_to, together, exchanged, round, quantum_end}
use Rattle.discrete_events.specs.Laws.{IsIn, IsSimulation, IsWorld, IsConservative, IsBetweenQuanta, IsSerialFrom, handled_in}
use Rattle.discrete_events.proofs.Lists.{or_else, map_alike, map_map}
use Rattle.discrete_events.proofs.Keys.{upto_time, less_time}
use Rattle.discrete_events.proofs.Queues.{same_queue, first_of, get_to_node, get_together}
use Rattle.discrete_events.proofs.Events.{least_in, least_none, least_upto, event_is, counts_time, IsEventBelow}
use Rattle.discrete_events.proofs.Stations.{lt_or_le}
use Rattle.discrete_events.proofs.FreeRuns.{rests}
use Rattle.discrete_events.proofs.Numbered.{none_last, none_first, single_first, numbered_find}
use Rattle.discrete_events.proofs.Peel.{get_exchanged, is_to_node, not_to_node, none_own, peel_nodes, peel_pending}
use Rattle.discrete_events.proofs.SerialRun.{serial-zero, serial_first, moved, step_of_least, inside, opened, world_moved, world_stepped, moved_rises, moved_handled, stepped_handled, handled_bound}

module _ {S X : Type 0} (sim : Simulation S X) (IsSound : S → Type 0) (Fits : Message X → Type 0) (laws : IsSimulation sim IsSound Fits) where
  -- the world when all nodes have run and exchanged their messages, but for its quanta
  abbrev ran : ℕ → World S X → World S X
  ran until world = record world {
    nodes = map (λ (run : FreeRun S X). run.node) (runs_to sim until world.nodes world.pending);
    pending = exchanged (runs_to sim until world.nodes world.pending);
  }

  -- the messages of all nodes together are those that are pending
  module _ (world : World S X) (ok : IsWorld sim IsSound Fits world) where
    pub first_of_nodes : (q : Key) → first_of q (map (λ n. to_node world.pending (sim.number n)) world.nodes) ≡ get world.pending q
    first_of_nodes q = by (get world.pending q) refl
      where
        nothing : (n : S) → get world.pending q ≡ None → get (to_node world.pending (sim.number n)) q ≡ None
        nothing n e = get_to_node world.pending (sim.number n) q ∙ at (q.to == sim.number n)
          where
            at : (b : Bool) → cond b (get world.pending q) None ≡ None
            at true = e
            at false = refl

        found : (d : S) × IsIn d world.nodes × (sim.number d ≡ q.to) → first_of q (map (λ n. to_node world.pending (sim.number n)) world.nodes) ≡ get world.pending q
        found d =
            single_first sim q (λ n. to_node world.pending (sim.number n)) 0 world.nodes d.0 ok.numbered d.1 (λ other member n. not_to_node world.pending (sim.number other) q (λ e. n (sym e ∙ sym d.2)))
            ∙ is_to_node world.pending (sim.number d.0) q (sym d.2)

        by : (o : Option X) → get world.pending q ≡ o → first_of q (map (λ n. to_node world.pending (sim.number n)) world.nodes) ≡ get world.pending q
        by None e = none_first sim q (λ n. to_node world.pending (sim.number n)) world.nodes (λ n m. nothing n e) ∙ sym e
        by (Some v) e = found (numbered_find sim 0 world.nodes q.to ok.numbered (omega arith) (laws.addressed (q, v) (ok.fitting q v e)))

    pub queues_together : together (map (λ n. to_node world.pending (sim.number n)) world.nodes) ≡ world.pending
    queues_together = same_queue _ _ (λ q. get_together (map (λ n. to_node world.pending (sim.number n)) world.nodes) q ∙ first_of_nodes q)

  -- where no event is below the time, nothing happens
  module _ (until : ℕ) (within : until ≤ sim.budget) (world : World S X) (ok : IsWorld sim IsSound Fits world) (none : (key : Key) (event : Event X) → IsIn (key, event) (events_in sim world) → until ≤ key.time) where
    abbrev idle : S → FreeRun S X
    idle node = record { node = node; pending = to_node world.pending (sim.number node); outs = [] }

    runs_idle : runs_to sim until world.nodes world.pending ≡ map idle world.nodes
    runs_idle = map_alike (λ node. local sim until node (to_node world.pending (sim.number node))) idle world.nodes
        (λ node member. rests sim until (sim.event_limit - sim.handled node) node (to_node world.pending (sim.number node)) (none_own sim IsSound Fits laws until within world.nodes world.pending ok.numbered ok.fitting ok.stations node member none))

    map_same : (nodes : List S) → map (λ (node : S). node) nodes ≡ nodes
    map_same [] = refl
    map_same (x ∷ xs) = ap (λ ys. x ∷ ys) (map_same xs)

    idle_nodes : map (λ (run : FreeRun S X). run.node) (runs_to sim until world.nodes world.pending) ≡ world.nodes
    idle_nodes = ap (map (λ (run : FreeRun S X). run.node)) runs_idle ∙ map_map (λ (run : FreeRun S X). run.node) idle world.nodes ∙ map_same world.nodes

    idle_pending : exchanged (runs_to sim until world.nodes world.pending) ≡ world.pending
    idle_pending = ap exchanged runs_idle ∙ same_queue _ _ (λ q. get_exchanged idle world.nodes q
        ∙ (λ i. or_else (none_last sim q (λ n. (idle n).outs) world.nodes (λ n m. refl) i) (first_of_nodes world ok q i)))

    nothing_happens : ran until world ≡ world
    nothing_happens = λ i. record { nodes = idle_nodes i; pending = idle_pending i; kept_end = world.kept_end; quanta = world.quanta }

  -- ---- a round comes to the serial run

  -- what has been shown of a world and a time
  record Comes (until : ℕ) (before after : World S X) : Type 0 where
    from : IsSerialFrom sim before after
    none : (key : Key) (event : Event X) → IsIn (key, event) (events_in sim after) → until ≤ key.time

  module _ (until : ℕ) (within : until ≤ sim.budget) where
    abbrev AfterLeast : World S X → Type 0
    AfterLeast world = (key : Key) (event : Event X) → least (events_in sim world) ≡ Some (key, event) → until ≤ key.time + sim.lookahead

    -- the least event taken off, by the law that messages to other nodes come late
    peeled : (world : World S X) (ok : IsWorld sim IsSound Fits world) (key : Key) (event : Event X) → least (events_in sim world) ≡ Some (key, event) → key.time < until → until ≤ key.time + sim.lookahead → ran until world ≡ ran until (moved sim key event world)
    peeled world ok key event is below late = λ i. record {
      nodes = peel_nodes sim IsSound Fits laws world.nodes world.pending ok.numbered ok.fitting ok.stations key event is until within below late i;
      pending = peel_pending sim IsSound Fits laws world.nodes world.pending ok.numbered ok.fitting ok.stations key event is until within below late i;
      kept_end = world.kept_end;
      quanta = world.quanta;
    }

    -- without an event below the time
    comes_idle : (world : World S X) → IsWorld sim IsSound Fits world → ((key : Key) (event : Event X) → IsIn (key, event) (events_in sim world) → until ≤ key.time) → Comes until world (ran until world)
    comes_idle world ok none = record {
      from = record { steps = 0; run = stays ∙ sym (serial-zero sim world); counted = ap (handled_in sim) stays ∙ omega arith };
      none = subst (λ w. (key : Key) (event : Event X) → IsIn (key, event) (events_in sim w) → until ≤ key.time) (sym stays) none;
    }
      where
        stays : ran until world ≡ world
        stays = nothing_happens until within world ok none

    -- with one more event in front
    comes_on : (world : World S X) (ok : IsWorld sim IsSound Fits world) (key : Key) (event : Event X) → least (events_in sim world) ≡ Some (key, event) → key.time < until → until ≤ key.time + sim.lookahead → world.kept_end ≡ until → Comes until (moved sim key event world) (ran until (moved sim key event world)) → Comes until world (ran until world)
    comes_on world ok key event is below late end rest = record {
      from = record {
        steps = suc rest.from.steps;
        run = peel ∙ rest.from.run ∙ ap (serial sim rest.from.steps) (sym stepped) ∙ serial_first sim rest.from.steps world;
        counted = let more = moved_handled sim IsSound Fits laws world ok key event is in let all = rest.from.counted in ap (handled_in sim) peel ∙ omega arith;
      };
      none = subst (λ w. (k : Key) (e : Event X) → IsIn (k, e) (events_in sim w) → until ≤ k.time) (sym peel) rest.none;
    }
      where
        peel : ran until world ≡ ran until (moved sim key event world)
        peel = peeled world ok key event is below late

        stepped : serial_step sim world ≡ moved sim key event world
        stepped = step_of_least sim world key event is ∙ inside sim (moved sim key event world) key.time (omega arith)

    -- what comes after the least event comes no earlier
    after_moved : (world : World S X) (ok : IsWorld sim IsSound Fits world) (key : Key) (event : Event X) → least (events_in sim world) ≡ Some (key, event) → until ≤ key.time + sim.lookahead → AfterLeast (moved sim key event world)
    after_moved world ok key event is late k e least_is =
        let t = less_time key k (moved_rises sim IsSound Fits laws world ok key event is k e (least_in _ (k, e) least_is)) in omega arith

    -- Once a quantum is open, a round is the serial run of its events.
    inside_quantum : (n : ℕ) (world : World S X) → IsWorld sim IsSound Fits world → world.kept_end ≡ until → AfterLeast world → sim.nodes * sim.event_limit ≤ handled_in sim world + n → Comes until world (ran until world)
    inside_quantum zero world ok end after fuel = by (least (events_in sim world)) refl
      where
        by : (o : Option (Key × Event X)) → least (events_in sim world) ≡ o → Comes until world (ran until world)
        by None is = comes_idle world ok (λ k e m. absurd (least_none _ (k, e) is m))
        by (Some (key, event)) is =
            let one = stepped_handled sim IsSound Fits laws world ok key event is in
            let most = handled_bound sim IsSound Fits laws (serial_step sim world) (world_stepped sim IsSound Fits laws world ok key event is) in
            absurd (omega arith)
    inside_quantum (suc n) world ok end after fuel = by (inside_quantum n) (least (events_in sim world)) refl
      where
        by : ((w : World S X) → IsWorld sim IsSound Fits w → w.kept_end ≡ until → AfterLeast w → sim.nodes * sim.event_limit ≤ handled_in sim w + n → Comes until w (ran until w)) → (o : Option (Key × Event X)) → least (events_in sim world) ≡ o → Comes until world (ran until world)
        by rest None is = comes_idle world ok (λ k e m. absurd (least_none _ (k, e) is m))
        by rest (Some (key, event)) is = either (lt_or_le key.time until)
          where
            either : (key.time < until) ⊎ (until ≤ key.time) → Comes until world (ran until world)
            either (inl below) =
                let more = moved_handled sim IsSound Fits laws world ok key event is in
                comes_on world ok key event is below (after key event is) end
                (rest (moved sim key event world) (world_moved sim IsSound Fits laws world ok key event is) end (after_moved world ok key event is (after key event is)) (omega arith))
            either (inr not_below) = comes_idle world ok (λ k e m. let t = upto_time key k (least_upto _ (key, event) (k, e) is m) in omega arith)

  -- A round up to the end of the quantum that the least event begins.
  module _ (quanta : IsConservative sim) (world : World S X) (ok : IsWorld sim IsSound Fits world) (between : IsBetweenQuanta sim world) (key : Key) (event : Event X) (is : least (events_in sim world) ≡ Some (key, event)) where
    abbrev until : ℕ
    until = quantum_end sim key.time

    early : key.time < sim.budget
    early = by (event_is sim sim.budget world.nodes world.pending key event (least_in _ (key, event) is))
      where
        by : IsEventBelow sim sim.budget world.nodes world.pending key event → key.time < sim.budget
        by at = counts_time sim sim.budget at.node key.time at.counts

    below : key.time < until
    below = let a = early in let b = quanta.positive in omega arith

    late : until ≤ key.time + sim.lookahead
    late = let b = quanta.no_longer in omega arith

    within : until ≤ sim.budget
    within = omega arith

    abbrev begun : World S X
    begun = record (moved sim key event world) { kept_end = until; quanta = world.quanta + 1 }

    stepped : serial_step sim world ≡ begun
    stepped = step_of_least sim world key event is ∙ opened sim (moved sim key event world) key.time (between key event (least_in _ (key, event) is))

    begun_world : IsWorld sim IsSound Fits begun
    begun_world = let m = world_moved sim IsSound Fits laws world ok key event is in record { numbered = m.numbered; fitting = m.fitting; stations = m.stations; rising = m.rising }

    rest : Comes until begun (ran until begun)
    rest = inside_quantum until within (sim.nodes * sim.event_limit) begun begun_world refl (after_moved until within world ok key event is late) (omega arith)

    peel : round sim until world ≡ ran until begun
    peel = ap (λ (w : World S X). record w { kept_end = until; quanta = world.quanta + 1 }) (peeled until within world ok key event is below late)

    pub round_is_serial : IsSerialFrom sim world (round sim until world)
    round_is_serial = record {
      steps = suc rest.from.steps;
      run = peel ∙ rest.from.run ∙ ap (serial sim rest.from.steps) (sym stepped) ∙ serial_first sim rest.from.steps world;
      counted = let more = moved_handled sim IsSound Fits laws world ok key event is in let all = rest.from.counted in ap (handled_in sim) peel ∙ omega arith;
    }

    pub round_leaves_none : IsBetweenQuanta sim (round sim until world)
    round_leaves_none = subst (λ w. (k : Key) (e : Event X) → IsIn (k, e) (events_in sim w) → until ≤ k.time) (sym peel) rest.none
