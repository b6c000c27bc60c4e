-- Each source numbers its sends, so what the nodes exchange is under keys that are not pending.
use Rattle.std.proofs.Common.{◌≡◌, ◌≢◌, ℕ, suc, ◌-◌, ◌≤◌, ◌⊎◌, List, [], ◌∷◌, map, Some, None, refl, ap, sym, ◌∙◌, subst, inl, inr, arith}
use Rattle.std.specs.Prelude.{flat_map}
use Rattle.std.specs.FinMap.{get}
use Rattle.wt_proto.specs.declared.key.Key.{Key}
use Rattle.discrete_events.specs.Simulation.{Simulation, Message}
use Rattle.discrete_events.specs.World.{World}
use Rattle.discrete_events.specs.Round.{FreeRun, local, to_node, runs_to, together}
use Rattle.discrete_events.specs.Laws.{IsIn, IsSimulation, IsStation, IsNumbered, IsWorld}
use Rattle.discrete_events.specs.Theorems.{AreNew, KeysAreNew}
use Rattle.discrete_events.proofs.Lists.{from_flat_map, map_map, flat_map_map}
use Rattle.discrete_events.proofs.Queues.{Pends, pends_not, get_together}
use Rattle.discrete_events.proofs.Sequences.{RiseBetween, AreApart, rise_within, rise_apart, apart_append, new_of_apart}
use Rattle.discrete_events.proofs.FreeRuns.{IsRunOf, run_of, outs_rise, from_before, own_new}
use Rattle.discrete_events.proofs.Numbered.{numbered_from, none_first}
use Rattle.discrete_events.proofs.Peel.{narrowed, to_node_is, sends_new}

module _ {S X : Type 0} (sim : Simulation S X) where
  -- messages of different sources have different keys
  pub apart_flat : (f : S → List (Message X)) (from : ℕ) (nodes : List S) → IsNumbered sim from nodes → ((n : S) → IsIn n nodes → AreApart (f n)) → ((n : S) (m : Message X) → IsIn n nodes → IsIn m (f n) → m.0.from ≡ sim.number n) → AreApart (flat_map f nodes)
  apart_flat f from [] numbered each source = tt
  apart_flat f from (x ∷ xs) numbered each source =
      apart_append (f x) (flat_map f xs) (each x (inl refl)) (apart_flat f (suc from) xs numbered.1 (λ n h. each n (inr h)) (λ n m h. source n m (inr h))) across
    where
      across : (a b : Message X) → IsIn a (f x) → IsIn b (flat_map f xs) → b.0 ≢ a.0
      across a b h k same = of (from_flat_map f b xs k)
        where
          of : (n : S) × IsIn n xs × IsIn b (f n) → ⊥
          of (n, member, it) =
              let one = source x a (inl refl) h in
              let other = source n b (inr member) it in
              let more = numbered_from sim (suc from) xs n numbered.1 member in
              let first = numbered.0 in
              let e : b.0.from ≡ a.0.from = ap (λ (k : Key). k.from) same in
              omega arith

module _ {S X : Type 0} (sim : Simulation S X) (IsSound : S → Type 0) (Fits : Message X → Type 0) (laws : IsSimulation sim IsSound Fits) where
  module _ (world : World S X) (ok : IsWorld sim IsSound Fits world) (until : ℕ) (within : until ≤ sim.budget) where
    abbrev run : S → FreeRun S X
    run node = local sim until node (to_node world.pending (sim.number node))

    own_part : (node : S) → IsIn node world.nodes → IsStation sim IsSound Fits node (to_node world.pending (sim.number node))
    own_part node member = narrowed sim IsSound Fits laws node world.pending (sim.number node) (ok.stations node member)

    run_is : (node : S) → IsIn node world.nodes → IsRunOf sim node (run node)
    run_is node member = run_of sim IsSound Fits laws until within (sim.event_limit - sim.handled node) node (to_node world.pending (sim.number node)) (own_part node member) (λ q v e. (to_node_is world.pending (sim.number node) q v e).1)

    pub sent_rise : (node : S) → IsIn node world.nodes → RiseBetween (sim.sent node) (sim.sent (run node).node) (run node).outs
    sent_rise node member = outs_rise sim IsSound Fits laws until within (sim.event_limit - sim.handled node) node (to_node world.pending (sim.number node)) (own_part node member)

    -- what a node sends to others was not pending before
    pub not_before : (source : S) → IsIn source world.nodes → (m : Message X) → IsIn m (run source).outs → get world.pending m.0 ≡ None
    not_before source member m is = pends_not world.pending m.0 no
      where
        no : Pends world.pending m.0 → ⊥
        no (v, e) =
            let before = (ok.stations source member).numbered m.0 v e ((run_is source member).source m is) in
            let low = (rise_within _ _ (run source).outs m (sent_rise source member) is).0 in
            omega arith

    -- nor is it pending at a node that has run
    pub not_after : (source other : S) → IsIn source world.nodes → IsIn other world.nodes → (m : Message X) → IsIn m (run source).outs → get (run other).pending m.0 ≡ None
    not_after source other member h m is = pends_not (run other).pending m.0 no
      where
        no : Pends (run other).pending m.0 → ⊥
        no there = by (from_before sim IsSound Fits laws until within (sim.event_limit - sim.handled other) other (to_node world.pending (sim.number other)) (own_part other h) m.0 there)
          where
            by : Pends (to_node world.pending (sim.number other)) m.0 ⊎ (m.0.from ≡ sim.number other) → ⊥
            by (inl (w, old)) = absurd (let e : Some w ≡ None = sym (to_node_is world.pending (sim.number other) m.0 w old).0 ∙ not_before source member m is in cc)
            by (inr from) =
                let to = (run_is other h).kept m.0 there.0 there.1 in
                (run_is source member).away m is (to ∙ sym from ∙ (run_is source member).source m is)

    outs_apart : AreApart (flat_map (λ node. (run node).outs) world.nodes)
    outs_apart = apart_flat sim (λ node. (run node).outs) 0 world.nodes ok.numbered (λ n h. rise_apart _ _ (run n).outs (sent_rise n h)) (λ n m h k. (run_is n h).source m k)

    exchange_new : AreNew (together (map (λ (r : FreeRun S X). r.pending) (runs_to sim until world.nodes world.pending))) (flat_map (λ (r : FreeRun S X). r.outs) (runs_to sim until world.nodes world.pending))
    exchange_new =
        subst (AreNew (together (map (λ (r : FreeRun S X). r.pending) (runs_to sim until world.nodes world.pending)))) (sym (flat_map_map (λ (r : FreeRun S X). r.outs) run world.nodes))
        (subst (λ queues. AreNew (together queues) (flat_map (λ node. (run node).outs) world.nodes)) (sym (map_map (λ (r : FreeRun S X). r.pending) run world.nodes))
        (new_of_apart (together (map (λ node. (run node).pending) world.nodes)) (flat_map (λ node. (run node).outs) world.nodes) outs_apart none))
      where
        none : (m : Message X) → IsIn m (flat_map (λ node. (run node).outs) world.nodes) → get (together (map (λ node. (run node).pending) world.nodes)) m.0 ≡ None
        none m is = of (from_flat_map (λ node. (run node).outs) m world.nodes is)
          where
            of : (n : S) × IsIn n world.nodes × IsIn m (run n).outs → get (together (map (λ node. (run node).pending) world.nodes)) m.0 ≡ None
            of (n, member, it) =
                get_together (map (λ node. (run node).pending) world.nodes) m.0
                ∙ none_first sim m.0 (λ node. (run node).pending) world.nodes (λ other h. not_after n other member h m it)

  pub keys_are_new : KeysAreNew sim IsSound Fits
  keys_are_new = record {
    events = λ world key event ok is. sends_new sim IsSound Fits laws world.nodes world.pending ok.numbered ok.fitting ok.stations key event is;
    runs = λ until node pending key event within st is. own_new sim IsSound Fits laws until within node pending key event is st;
    rounds = λ until world within ok. exchange_new world ok until within;
  }
