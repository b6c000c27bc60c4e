-- What a core holds inside a quantum: each message in an inbox or an out is one that its source sent, and new at its node.
use Rattle.std.proofs.Common.{◌≡◌, ◌≢◌, ℕ, ◌≤◌, List, [], Bool, true, false, cond, Some, None, refl, ap, sym, ◌∙◌, subst, ◌==◌, arith, eqb-true, eq-eqb}
use Rattle.std.specs.Prelude.{if◌then◌else◌}
use Rattle.std.specs.FinMap.{get}
use Rattle.discrete_events.specs.Simulation.{Simulation, Message}
use Rattle.discrete_events.specs.World.{World}
use Rattle.discrete_events.specs.Round.{FreeRun, to_node}
use Rattle.discrete_events.specs.Core.{Station, Core, station_in, part_from, part_to}
use Rattle.discrete_events.specs.Laws.{IsIn, IsSimulation, IsWorld}
use Rattle.discrete_events.specs.Theorems.{AreNew}
use Rattle.discrete_events.proofs.Lists.{in_left, in_filter, from_map, from_filter}
use Rattle.discrete_events.proofs.Queues.{Pends, pends_not}
use Rattle.discrete_events.proofs.Sequences.{AreApart, rise_apart, apart_left, apart_filter, apart_by_source, new_of_apart}
use Rattle.discrete_events.proofs.Peel.{to_node_is}
use Rattle.discrete_events.proofs.NewKeys.{apart_flat, sent_rise, not_before, not_after}
use Rattle.discrete_events.proofs.Inside.{IsInside, run, run_is, station, outs, in_outs, outs_fit}

module _ {S X : Type 0} (sim : Simulation S X) (IsSound : S → Type 0) (Fits : Message X → Type 0) (laws : IsSimulation sim IsSound Fits) (world : World S X) (ok : IsWorld sim IsSound Fits world) (until : ℕ) (within : until ≤ sim.budget) where
  abbrev run_there : S → FreeRun S X
  run_there = run sim IsSound Fits laws world ok until within

  abbrev station_there : (ℕ → Bool) → S → Station S X
  station_there = station sim IsSound Fits laws world ok until within

  abbrev outs_there : ℕ → List (Message X)
  outs_there = outs sim IsSound Fits laws world ok until within

  outs_apart : (from : ℕ) → AreApart (outs_there from)
  outs_apart from = apart_flat sim (λ node. if sim.number node == from then (run_there node).outs else []) 0 world.nodes ok.numbered
      (λ n h. each n h (sim.number n == from)) (λ n m h k. source n m h (sim.number n == from) k)
    where
      each : (n : S) → IsIn n world.nodes → (b : Bool) → AreApart (cond b (run_there n).outs [])
      each n h true = rise_apart _ _ (run_there n).outs (sent_rise sim IsSound Fits laws world ok until within n h)
      each n h false = tt

      source : (n : S) (m : Message X) → IsIn n world.nodes → (b : Bool) → IsIn m (cond b (run_there n).outs []) → m.0.from ≡ sim.number n
      source n m h true k = (run_is sim IsSound Fits laws world ok until within n h).source m k
      source n m h false k = absurd k

  module _ (core : Core S X) (inside : IsInside sim IsSound Fits laws world ok until within core) where
    -- what was deposited was sent by its source
    pub inbox_is : (to : ℕ) (m : Message X) → IsIn m (core.inbox to) → IsIn m (outs_there m.0.from) × (m.0.to ≡ to)
    inbox_is to m h = by (core.done m.0.from)
        (subst (λ ms. IsIn m ms) (inside.parts m.0.from to) (in_left m (part_from m.0.from (core.inbox to)) (core.out m.0.from to)
        (in_filter (λ (k : Message X). k.0.from == m.0.from) m (core.inbox to) h (eq-eqb m.0.from m.0.from refl))))
      where
        by : (b : Bool) → IsIn m (cond b (part_to to (outs_there m.0.from)) []) → IsIn m (outs_there m.0.from) × (m.0.to ≡ to)
        by true k = let r = from_filter (λ (n : Message X). n.0.to == to) m (outs_there m.0.from) k in (r.0, eqb-true _ _ r.1)
        by false k = absurd k

    inbox_apart : (to : ℕ) → AreApart (core.inbox to)
    inbox_apart to = apart_by_source (core.inbox to) (λ from. apart_left (part_from from (core.inbox to)) (core.out from to) (subst AreApart (sym (inside.parts from to)) (by from (core.done from))))
      where
        by : (from : ℕ) (b : Bool) → AreApart (cond b (part_to to (outs_there from)) [])
        by from true = apart_filter (λ (m : Message X). m.0.to == to) (outs_there from) (outs_apart from)
        by from false = tt

    module _ (from : ℕ) (m : Message X) (sent : IsIn m (outs_there from)) where
      whose : (node : S) × IsIn node world.nodes × (sim.number node ≡ from) × IsIn m (run_there node).outs
      whose = in_outs sim IsSound Fits laws world ok until within from m sent

      pub sent_fits : Fits m
      sent_fits = outs_fit sim IsSound Fits laws world ok until within whose.0 whose.1 m whose.3

      pub sent_away : m.0.from ≢ m.0.to
      sent_away same =
          let it = run_is sim IsSound Fits laws world ok until within whose.0 whose.1 in
          it.away m whose.3 (sym same ∙ it.source m whose.3)

      pub sent_new : (s : Station S X) → IsIn s core.stations → get s.pending m.0 ≡ None
      sent_new s member = of (from_map (station_there core.done) s world.nodes (subst (λ ss. IsIn s ss) inside.stations member))
        where
          of : (node : S) × IsIn node world.nodes × (s ≡ station_there core.done node) → get s.pending m.0 ≡ None
          of (node, h, e) = ap (λ (t : Station S X). get t.pending m.0) e ∙ by (core.done (sim.number node))
            where
              by : (b : Bool) → get (cond b (record { node = (run_there node).node; pending = (run_there node).pending; until = until }) (station_in sim world node)).pending m.0 ≡ None
              by true = not_after sim IsSound Fits laws world ok until within whose.0 node whose.1 h m whose.3
              by false = pends_not (to_node world.pending (sim.number node)) m.0 no
                where
                  no : Pends (to_node world.pending (sim.number node)) m.0 → ⊥
                  no (v, there) =
                      let none : Some v ≡ None = sym (to_node_is world.pending (sim.number node) m.0 v there).0 ∙ not_before sim IsSound Fits laws world ok until within whose.0 whose.1 m whose.3 in
                      cc

    -- each inbox could be placed at its node
    pub inbox_new : (s : Station S X) → IsIn s core.stations → AreNew s.pending (core.inbox (sim.number s.node))
    inbox_new s member = new_of_apart s.pending (core.inbox (sim.number s.node)) (inbox_apart (sim.number s.node))
        (λ m h. sent_new m.0.from m (inbox_is (sim.number s.node) m h).0 s member)

    pub ran : world.kept_end ≤ until → (s : Station S X) → IsIn s core.stations → s.until ≤ until
    ran no_later s member = of (from_map (station_there core.done) s world.nodes (subst (λ ss. IsIn s ss) inside.stations member))
      where
        of : (node : S) × IsIn node world.nodes × (s ≡ station_there core.done node) → s.until ≤ until
        of (node, h, e) = subst (λ (t : Station S X). t.until ≤ until) (sym e) (by (core.done (sim.number node)))
          where
            by : (b : Bool) → (cond b (record { node = (run_there node).node; pending = (run_there node).pending; until = until }) (station_in sim world node)).until ≤ until
            by true = omega arith
            by false = no_later
