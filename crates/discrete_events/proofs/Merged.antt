-- A round in which each node is given a merge of what the others sent it: its steps are enabled, and it is the round.
use Rattle.std.proofs.Common.{◌≡◌, ◌≢◌, ℕ, zero, suc, ◌+◌, ◌<◌, ◌≤◌, ◌⊎◌, List, [], ◌∷◌, ◌++◌, map, take, drop, Bool, true, false, cond, Some, None, refl, ap, sym, ◌∙◌, subst, inl, inr, ◌==◌, arith, eqb-true, eq-eqb, append-nil, append_assoc}
use Rattle.std.specs.Prelude.{flat_map, ◌&&◌, ◌||◌}
use Rattle.std.specs.List.{range_with_len}
use Rattle.std.specs.Option.{option_map}
use Rattle.wt_proto.specs.declared.key.Key.{Key}
use Rattle.discrete_events.specs.Simulation.{Simulation, Event, Message}
use Rattle.discrete_events.specs.World.{World}
use Rattle.discrete_events.specs.Round.{FreeRun, to_node, round, quantum_end}
use Rattle.discrete_events.specs.Serial.{placed}
use Rattle.discrete_events.specs.Core.{Core, CoreStep, Quantum, Deposit, Turn, station_in, with_messages, core_of, part_from, part_to, quantum_outs, sent_to, after_deposit, within_quantum, while_open, core_step, core_run, AreEnabled}
use Rattle.discrete_events.specs.Laws.{IsIn, IsSimulation, IsWorld}
use Rattle.discrete_events.specs.Merges.{IsMerge, all_quanta, deposits_to, all_deposits, station_ran, steps_to_turn, core_at_turn, MergesAreRounds}
use Rattle.discrete_events.proofs.Stations.{lt_or_le}
use Rattle.discrete_events.proofs.Peel.{tested}
use Rattle.discrete_events.proofs.Whole.{round_is_serial, from_world}
use Rattle.discrete_events.proofs.Numbered.{numbered_below}
use Rattle.discrete_events.proofs.Lists.{from_filter, from_flat_map, filter_all, filter_none, filter_swap, filter_flat, flat_map_alike, map_alike, map_map}
use Rattle.discrete_events.proofs.Inside.{IsInside, run, run_is, station, queue_after, and_false, inside_quantum, inside_deposit, turns_to}
use Rattle.discrete_events.proofs.Interleaving.{below_budget, amid}

-- ---- steps one after the other

module _ {S X : Type 0} (sim : Simulation S X) where
  run_append : (xs ys : List CoreStep) (core : Core S X) → core_run sim (xs ++ ys) core ≡ core_run sim ys (core_run sim xs core)
  run_append [] ys core = refl
  run_append (x ∷ xs) ys core = run_append xs ys (core_step sim x core)

  enabled_append : (xs ys : List CoreStep) (core : Core S X) → AreEnabled sim core xs → AreEnabled sim (core_run sim xs core) ys → AreEnabled sim core (xs ++ ys)
  enabled_append [] ys core one other = other
  enabled_append (x ∷ xs) ys core one other = (one.0, enabled_append xs ys (core_step sim x core) one.1 other)

module _ {S X : Type 0} (sim : Simulation S X) (IsSound : S → Type 0) (Fits : Message X → Type 0) (laws : IsSimulation sim IsSound Fits) (world : World S X) (ok : IsWorld sim IsSound Fits world) (until : ℕ) (within : until ≤ sim.budget) where
  abbrev Inside : Core S X → Type 0
  Inside core = IsInside sim IsSound Fits laws world ok until within core

  step_is : (core : Core S X) → Inside core → (step : CoreStep) → core_step sim step core ≡ within_quantum sim until step core
  step_is core inside step = ap (λ u. while_open sim u step core) inside.until_is

  is_open : (core : Core S X) → Inside core → core.until ≢ None
  is_open core inside none = let e : Some until ≡ None = sym inside.until_is ∙ none in cc

  -- ---- the quanta

  -- the nodes below a number are done, and nothing was deposited
  record Begun (at : ℕ) (core : Core S X) : Type 0 where
    inside : Inside core
    done : (n : ℕ) → n < at → core.done n ≡ true
    not_done : (n : ℕ) → at ≤ n → core.done n ≡ false
    inbox : (to : ℕ) → core.inbox to ≡ []

  one_quantum : (at : ℕ) (core : Core S X) → Begun at core → Begun (at + 1) (within_quantum sim until (Quantum at) core)
  one_quantum at core begun = record {
    inside = inside_quantum sim IsSound Fits laws world ok until within core begun.inside at (begun.not_done at (omega arith));
    done = λ n h. by n h (n == at) refl;
    not_done = λ n h. ap (λ (b : Bool). b || core.done n) (tested n at (omega arith)) ∙ begun.not_done n (omega arith);
    inbox = begun.inbox;
  }
    where
      by : (n : ℕ) → n < at + 1 → (b : Bool) → (n == at) ≡ b → (b || core.done n) ≡ true
      by n h true e = refl
      by n h false e = begun.done n (below (lt_or_le n at))
        where
          below : (n < at) ⊎ (at ≤ n) → n < at
          below (inl less) = less
          below (inr more) = absurd (let same : n ≡ at = omega arith in let t : (n == at) ≡ true = eq-eqb n at same in cc (e, t))

  quanta_run : (count at : ℕ) → at + count ≡ sim.nodes → (core : Core S X) → Begun at core →
      AreEnabled sim core (map Quantum (range_with_len at count)) × Begun sim.nodes (core_run sim (map Quantum (range_with_len at count)) core)
  quanta_run zero at sum core begun = (tt, subst (λ n. Begun n core) (omega arith) begun)
  quanta_run (suc count) at sum core begun =
      let rest = quanta_run count (at + 1) (omega arith) (core_step sim (Quantum at) core) then in
      ((enabled, rest.0), rest.1)
    where
      enabled : (core.until ≢ None) × (at < sim.nodes) × (core.done at ≡ false)
      enabled = (is_open core begun.inside, omega arith, begun.not_done at (omega arith))

      then : Begun (at + 1) (core_step sim (Quantum at) core)
      then = subst (Begun (at + 1)) (sym (step_is core begun.inside (Quantum at))) (one_quantum at core begun)

  -- ---- the deposits of one node

  abbrev AllDone : Core S X → Type 0
  AllDone core = (n : ℕ) → n < sim.nodes → core.done n ≡ true

  -- some messages were deposited for a node, and no more wait for it
  record Deposited (to : ℕ) (ms : List (Message X)) (core new : Core S X) : Type 0 where
    inside : Inside new
    done : AllDone new
    out_here : (from : ℕ) → from < sim.nodes → new.out from to ≡ []
    out_elsewhere : (from other : ℕ) → (other ≢ to) → new.out from other ≡ core.out from other
    inbox_here : new.inbox to ≡ core.inbox to ++ ms
    inbox_elsewhere : (other : ℕ) → (other ≢ to) → new.inbox other ≡ core.inbox other

  module _ (to : ℕ) (there : to < sim.nodes) where
    module _ (m : Message X) (ms : List (Message X)) (core : Core S X) (out : (from : ℕ) → from < sim.nodes → core.out from to ≡ part_from from (m ∷ ms)) (below : m.0.from < sim.nodes) where
      abbrev mid : Core S X
      mid = after_deposit m.0.from to core

      itself : (n : ℕ) → (n == n) ≡ true
      itself n = eq-eqb n n refl

      waits : core.out m.0.from to ≡ m ∷ part_from m.0.from ms
      waits = out m.0.from below ∙ ap (λ (b : Bool). cond b (m ∷ part_from m.0.from ms) (part_from m.0.from ms)) (itself m.0.from)

      out_then : (from : ℕ) → from < sim.nodes → mid.out from to ≡ part_from from ms
      out_then from h = ap (λ (b : Bool). cond ((from == m.0.from) && b) (drop 1 (core.out m.0.from to)) (core.out from to)) (itself to) ∙ by (from == m.0.from) refl
        where
          by : (b : Bool) → (from == m.0.from) ≡ b → cond (b && true) (drop 1 (core.out m.0.from to)) (core.out from to) ≡ part_from from ms
          by true e = ap (drop 1) waits ∙ ap (λ (n : ℕ). part_from n ms) (sym (eqb-true from m.0.from e))
          by false e = out from h ∙ ap (λ (b : Bool). cond b (m ∷ part_from from ms) (part_from from ms)) (tested m.0.from from (λ same. let t : (from == m.0.from) ≡ true = eq-eqb from m.0.from (sym same) in cc (e, t)))

      inbox_then : mid.inbox to ≡ core.inbox to ++ (m ∷ [])
      inbox_then =
          ap (λ (b : Bool). cond b (core.inbox to ++ take 1 (core.out m.0.from to)) (core.inbox to)) (itself to)
          ∙ ap (λ ns. core.inbox to ++ take 1 ns) waits

      out_away : (from other : ℕ) → (other ≢ to) → mid.out from other ≡ core.out from other
      out_away from other n =
          ap (λ (b : Bool). cond ((from == m.0.from) && b) (drop 1 (core.out m.0.from to)) (core.out from other)) (tested other to n)
          ∙ ap (λ (b : Bool). cond b (drop 1 (core.out m.0.from to)) (core.out from other)) (and_false (from == m.0.from))

      inbox_away : (other : ℕ) → (other ≢ to) → mid.inbox other ≡ core.inbox other
      inbox_away other n = ap (λ (b : Bool). cond b (core.inbox other ++ take 1 (core.out m.0.from to)) (core.inbox other)) (tested other to n)

      one_more : (new : Core S X) → Deposited to ms mid new → Deposited to (m ∷ ms) core new
      one_more new rest = record {
        inside = rest.inside;
        done = rest.done;
        out_here = rest.out_here;
        out_elsewhere = λ from other n. rest.out_elsewhere from other n ∙ out_away from other n;
        inbox_here = rest.inbox_here ∙ ap (λ ns. ns ++ ms) inbox_then ∙ append_assoc (core.inbox to) (m ∷ []) ms;
        inbox_elsewhere = λ other n. rest.inbox_elsewhere other n ∙ inbox_away other n;
      }

    deposits_run : (ms : List (Message X)) (core : Core S X) → Inside core → AllDone core → ((m : Message X) → IsIn m ms → m.0.from < sim.nodes) → ((from : ℕ) → from < sim.nodes → core.out from to ≡ part_from from ms) →
        AreEnabled sim core (deposits_to to ms) × Deposited to ms core (core_run sim (deposits_to to ms) core)
    deposits_run [] core inside done sources out = (
      tt,
      record {
        inside = inside;
        done = done;
        out_here = out;
        out_elsewhere = λ from other n. refl;
        inbox_here = sym (append-nil (core.inbox to));
        inbox_elsewhere = λ other n. refl;
      },
    )
    deposits_run (m ∷ ms) core inside done sources out =
        let after = rest (deposits_run ms (mid m ms core out below) inside_then done (λ n h. sources n (inr h)) (out_then m ms core out below)) in
        ((enabled, after.0), after.1)
      where
        below : m.0.from < sim.nodes
        below = sources m (inl refl)

        enabled : (core.until ≢ None) × (m.0.from < sim.nodes) × (to < sim.nodes) × (core.done m.0.from ≡ true) × (core.out m.0.from to ≢ [])
        enabled = (is_open core inside, below, there, done m.0.from below, λ none. let e : m ∷ part_from m.0.from ms ≡ [] = sym (waits m ms core out below) ∙ none in cc)

        inside_then : Inside (mid m ms core out below)
        inside_then = inside_deposit sim IsSound Fits laws world ok until within core inside m.0.from to

        rest : AreEnabled sim (mid m ms core out below) (deposits_to to ms) × Deposited to ms (mid m ms core out below) (core_run sim (deposits_to to ms) (mid m ms core out below)) →
            AreEnabled sim (core_step sim (Deposit m.0.from to) core) (deposits_to to ms) × Deposited to (m ∷ ms) core (core_run sim (deposits_to to ms) (core_step sim (Deposit m.0.from to) core))
        rest then = subst (λ (c : Core S X). AreEnabled sim c (deposits_to to ms) × Deposited to (m ∷ ms) core (core_run sim (deposits_to to ms) c)) (sym (step_is core inside (Deposit m.0.from to)))
            (then.0, one_more m ms core out below (core_run sim (deposits_to to ms) (mid m ms core out below)) then.1)

  -- ---- the deposits of all nodes

  -- What all nodes sent, in the order of the nodes, is such a merge for each.
  pub in_order : (to : ℕ) → IsMerge sim.nodes (λ from. sent_to sim until world from to) (part_to to (flat_map (quantum_outs sim until world) world.nodes))
  in_order to = record {
    sources = λ m h. below m (from_flat_map (quantum_outs sim until world) m world.nodes (from_filter (λ (k : Message X). k.0.to == to) m (flat_map (quantum_outs sim until world) world.nodes) h).0);
    parts = λ from h.
        filter_swap (λ (m : Message X). m.0.from == from) (λ (m : Message X). m.0.to == to) (flat_map (quantum_outs sim until world) world.nodes)
        ∙ ap (part_to to) (filter_flat (λ (m : Message X). m.0.from == from) (quantum_outs sim until world) world.nodes
        ∙ flat_map_alike (λ n. part_from from (quantum_outs sim until world n)) (λ n. cond (sim.number n == from) (quantum_outs sim until world n) []) world.nodes (λ n member. by from n member (sim.number n == from) refl));
  }
    where
      source : (n : S) → IsIn n world.nodes → (m : Message X) → IsIn m (quantum_outs sim until world n) → m.0.from ≡ sim.number n
      source n member = (run_is sim IsSound Fits laws world ok until within n member).source

      below : (m : Message X) → (n : S) × IsIn n world.nodes × IsIn m (quantum_outs sim until world n) → m.0.from < sim.nodes
      below m (n, member, h) = let e = source n member m h in let low = numbered_below sim 0 world.nodes n ok.numbered member in omega arith

      by : (from : ℕ) (n : S) → IsIn n world.nodes → (b : Bool) → (sim.number n == from) ≡ b → part_from from (quantum_outs sim until world n) ≡ cond b (quantum_outs sim until world n) []
      by from n member true e = filter_all (λ (m : Message X). m.0.from == from) (quantum_outs sim until world n) (λ m h. eq-eqb _ _ (source n member m h ∙ eqb-true _ _ e))
      by from n member false e = filter_none (λ (m : Message X). m.0.from == from) (quantum_outs sim until world n)
          (λ m h. tested m.0.from from (λ same. let t : (sim.number n == from) ≡ true = eq-eqb (sim.number n) from (sym (source n member m h) ∙ same) in cc (e, t)))

  module _ (merged : ℕ → List (Message X)) (merges : (to : ℕ) → to < sim.nodes → IsMerge sim.nodes (λ from. sent_to sim until world from to) (merged to)) where
    -- the nodes below a number have their lists, and the others have nothing yet
    record Given (at : ℕ) (core : Core S X) : Type 0 where
      inside : Inside core
      done : AllDone core
      out : (from to : ℕ) → from < sim.nodes → to < at → core.out from to ≡ []
      waits : (from to : ℕ) → from < sim.nodes → at ≤ to → to < sim.nodes → core.out from to ≡ part_from from (merged to)
      inbox : (to : ℕ) → to < at → core.inbox to ≡ merged to
      none : (to : ℕ) → at ≤ to → core.inbox to ≡ []

    one_given : (at : ℕ) (core new : Core S X) → Given at core → Deposited at (merged at) core new → Given (at + 1) new
    one_given at core new given new_is = record {
      inside = new_is.inside;
      done = new_is.done;
      out = λ from to h k. either to k (λ same. subst (λ n. new.out from n ≡ []) (sym same) (new_is.out_here from h)) (λ less. new_is.out_elsewhere from to (omega arith) ∙ given.out from to h less);
      waits = λ from to h k l. new_is.out_elsewhere from to (omega arith) ∙ given.waits from to h (omega arith) l;
      inbox = λ to k. either to k (λ same. subst (λ n. new.inbox n ≡ merged n) (sym same) here) (λ less. new_is.inbox_elsewhere to (omega arith) ∙ given.inbox to less);
      none = λ to k. new_is.inbox_elsewhere to (omega arith) ∙ given.none to (omega arith);
    }
      where
        here : new.inbox at ≡ merged at
        here = new_is.inbox_here ∙ ap (λ ms. ms ++ merged at) (given.none at (omega arith))

        either : {A : Type 0} (to : ℕ) → to < at + 1 → (to ≡ at → A) → (to < at → A) → A
        either {A} to k same less = by (lt_or_le to at)
          where
            by : (to < at) ⊎ (at ≤ to) → A
            by (inl h) = less h
            by (inr h) = same (omega arith)

    abbrev deposits_from : ℕ → ℕ → List CoreStep
    deposits_from at count = flat_map (λ to. deposits_to to (merged to)) (range_with_len at count)

    all_run : (count at : ℕ) → at + count ≡ sim.nodes → (core : Core S X) → Given at core →
        AreEnabled sim core (deposits_from at count) × Given sim.nodes (core_run sim (deposits_from at count) core)
    all_run zero at sum core given = (tt, subst (λ n. Given n core) (omega arith) given)
    all_run (suc count) at sum core given =
        let rest = all_run count (at + 1) (omega arith) (core_run sim (deposits_to at (merged at)) core) (one_given at core (core_run sim (deposits_to at (merged at)) core) given here.1) in (
          enabled_append sim (deposits_to at (merged at)) (deposits_from (at + 1) count) core here.0 rest.0,
          subst (Given sim.nodes) (sym (run_append sim (deposits_to at (merged at)) (deposits_from (at + 1) count) core)) rest.1,
        )
      where
        there : at < sim.nodes
        there = omega arith

        here : AreEnabled sim core (deposits_to at (merged at)) × Deposited at (merged at) core (core_run sim (deposits_to at (merged at)) core)
        here = deposits_run at there (merged at) core given.inside given.done (merges at there).sources (λ from h. given.waits from at h (omega arith) there)

    -- once all are done, what each sent to another waits to be deposited
    ready : (core : Core S X) → Begun sim.nodes core → Given 0 core
    ready core begun = record {
      inside = begun.inside;
      done = begun.done;
      out = λ from to h k. absurd (omega arith);
      waits = λ from to h k l.
          ap (λ ms. part_from from ms ++ core.out from to) (sym (begun.inbox to))
          ∙ begun.inside.parts from to
          ∙ ap (λ (b : Bool). cond b (sent_to sim until world from to) []) (begun.done from h)
          ∙ sym ((merges to l).parts from h);
      inbox = λ to k. absurd (omega arith);
      none = λ to k. begun.inbox to;
    }

    -- each has run, and is then given its list
    module _ (core : Core S X) (at : Given sim.nodes core) where
      all_done : (n : S) → IsIn n world.nodes → core.done (sim.number n) ≡ true
      all_done n member = at.done (sim.number n) (numbered_below sim 0 world.nodes n ok.numbered member)

      ran : core.stations ≡ map (station_ran sim until world) world.nodes
      ran = at.inside.stations ∙ map_alike (station sim IsSound Fits laws world ok until within core.done) (station_ran sim until world) world.nodes
          (λ n member. ap (λ (b : Bool). cond b (station_ran sim until world n) (station_in sim world n)) (all_done n member))

      given : map (λ node. with_messages (merged (sim.number node)) (station_ran sim until world node)) world.nodes ≡ (core_of sim (round sim until world)).stations
      given =
          map_alike (λ node. with_messages (merged (sim.number node)) (station_ran sim until world node)) (λ node. station_in sim (round sim until world) (station_ran sim until world node).node) world.nodes each
          ∙ sym (map_map (station_in sim (round sim until world)) (λ node. (station_ran sim until world node).node) world.nodes)
          ∙ ap (map (station_in sim (round sim until world))) (sym (map_map (λ (r : FreeRun S X). r.node) (run sim IsSound Fits laws world ok until within) world.nodes))
        where
          each : (n : S) → IsIn n world.nodes → with_messages (merged (sim.number n)) (station_ran sim until world n) ≡ station_in sim (round sim until world) (station_ran sim until world n).node
          each n member = λ i. record { node = (station_ran sim until world n).node; pending = queue i; until = until }
            where
              queue : placed (station_ran sim until world n).pending (merged (sim.number n)) ≡ to_node (round sim until world).pending (sim.number (station_ran sim until world n).node)
              queue =
                  ap (placed (station_ran sim until world n).pending) (sym (at.inbox (sim.number n) (numbered_below sim 0 world.nodes n ok.numbered member)))
                  ∙ queue_after sim IsSound Fits laws world ok until within core at.inside at.done (λ from to h k. at.out from to h k) n member
                  ∙ ap (to_node (round sim until world).pending) (sym (run_is sim IsSound Fits laws world ok until within n member).number)

    -- ---- the round

    at_turn : Inside (core_of sim world) → AreEnabled sim (core_of sim world) (steps_to_turn sim merged) × Given sim.nodes (core_at_turn sim merged world)
    at_turn inside = (
      enabled_append sim (all_quanta sim) (all_deposits sim merged) (core_of sim world) quanta.0 deposits.0,
      subst (Given sim.nodes) (sym (run_append sim (all_quanta sim) (all_deposits sim merged) (core_of sim world))) deposits.1,
    )
      where
        quanta : AreEnabled sim (core_of sim world) (all_quanta sim) × Begun sim.nodes (core_run sim (all_quanta sim) (core_of sim world))
        quanta = quanta_run sim.nodes 0 (omega arith) (core_of sim world) (record { inside = inside; done = λ n h. absurd (omega arith); not_done = λ n h. refl; inbox = λ to. refl })

        deposits : AreEnabled sim (core_run sim (all_quanta sim) (core_of sim world)) (all_deposits sim merged) × Given sim.nodes (core_run sim (all_deposits sim merged) (core_run sim (all_quanta sim) (core_of sim world)))
        deposits = all_run sim.nodes 0 (omega arith) (core_run sim (all_quanta sim) (core_of sim world)) (ready (core_run sim (all_quanta sim) (core_of sim world)) quanta.1)

    turn_enabled : (core : Core S X) → Given sim.nodes core → AreEnabled sim core (Turn ∷ [])
    turn_enabled core given = ((is_open core given.inside, given.done, λ from to h k. given.out from to h k), tt)

    turn_run : (core : Core S X) → Given sim.nodes core → IsWorld sim IsSound Fits (round sim until world) → core_run sim (Turn ∷ []) core ≡ core_of sim (round sim until world)
    turn_run core given is_world = step_is core given.inside Turn ∙ turns_to sim IsSound Fits laws world ok until within core given.inside given.done (λ from to h k. given.out from to h k) is_world

module _ {S X : Type 0} (sim : Simulation S X) (IsSound : S → Type 0) (Fits : Message X → Type 0) (laws : IsSimulation sim IsSound Fits) where
  pub merges_are_rounds : MergesAreRounds sim IsSound Fits
  merges_are_rounds conservative world key event merged ok between is merges = record {
    enabled = enabled_append sim (steps_to_turn sim merged) (Turn ∷ []) (core_of sim world) at.0 (turn_enabled sim IsSound Fits laws world ok (quantum_end sim key.time) within merged merges core at.1);
    amid = amid sim IsSound Fits laws conservative world core world ok between (record { key = key; event = event; is_least = is; inside = at.1.inside });
    ran = ran sim IsSound Fits laws world ok (quantum_end sim key.time) within merged merges core at.1;
    delivered = at.1.inbox;
    given = given sim IsSound Fits laws world ok (quantum_end sim key.time) within merged merges core at.1;
    comes_to = run_append sim (steps_to_turn sim merged) (Turn ∷ []) (core_of sim world) ∙ turn_run sim IsSound Fits laws world ok (quantum_end sim key.time) within merged merges core at.1 is_world;
  }
    where
      within : quantum_end sim key.time ≤ sim.budget
      within = below_budget sim IsSound Fits laws key.time

      core : Core S X
      core = core_at_turn sim merged world

      inside : Inside sim IsSound Fits laws world ok (quantum_end sim key.time) within (core_of sim world)
      inside = record {
        kept_end = refl;
        quanta = refl;
        until_is = ap (option_map (λ (e : Key × Event X). quantum_end sim e.0.time)) is;
        stations = refl;
        parts = λ from to. refl;
        to_it = λ to m h. absurd h;
      }

      at : AreEnabled sim (core_of sim world) (steps_to_turn sim merged) × Given sim IsSound Fits laws world ok (quantum_end sim key.time) within merged merges sim.nodes core
      at = at_turn sim IsSound Fits laws world ok (quantum_end sim key.time) within merged merges inside

      is_world : IsWorld sim IsSound Fits (round sim (quantum_end sim key.time) world)
      is_world = from_world sim IsSound Fits laws world (round sim (quantum_end sim key.time) world) ok (round_is_serial sim IsSound Fits laws conservative world key event ok between is).serial
