-- What a node does that runs on its own: what stays of its station, and that a late message passes through.
use Rattle.std.proofs.Common.{◌≡◌, ◌≢◌, ℕ, ◌+◌, zero, suc, ◌<◌, ◌≤◌, ◌⊎◌, List, [], ◌∷◌, ◌++◌, map, Bool, true, false, cond, not, Option, Some, None, refl, ap, sym, ◌∙◌, subst, inl, inr, ◌==◌, arith, eqb-true, eq-eqb}
use Rattle.std.specs.Prelude.{flat_map}
use Rattle.std.specs.FinMap.{get, entries, retain_keys}
use Rattle.wt_proto.specs.declared.key.Key.{Key}
use Rattle.discrete_events.specs.Simulation.{Simulation, Event, Step, Arrival, Message}
use Rattle.discrete_events.specs.World.{counts_below, steps_below, reaches_below, arrival, events_below, least}
use Rattle.discrete_events.specs.Serial.{placed, taken}
use Rattle.discrete_events.specs.Round.{FreeRun, to_itself, to_others, with_outs, after_own, free_run}
use Rattle.discrete_events.specs.Laws.{IsIn, IsAfter, IsSent, Reacts, IsSimulation, IsStation}
use Rattle.discrete_events.specs.Theorems.{AreNew}
use Rattle.discrete_events.proofs.Lists.{or_else, all_in, from_filter, in_append, from_any}
use Rattle.discrete_events.specs.KeyTimes.{earlier_less}
use Rattle.discrete_events.proofs.Keys.{less_time}
use Rattle.discrete_events.proofs.Queues.{Queue, Pends, pends_not, same_queue, get_kept, get_placed, last_of, last_where}
use Rattle.discrete_events.proofs.Sequences.{RiseBetween, numbered_rise, rise_within, rise_apart, rise_append, rise_filter, new_of_apart}
use Rattle.discrete_events.proofs.Events.{IsEventOf, IsEventBelow, both_true, counts_time, event_is, least_in}
use Rattle.discrete_events.proofs.Stations.{taken_alike, from_placed, left_over, left_alone, reacts, goes_on}

false_not : (b : Bool) → not b ≡ true → b ≡ false
false_not true e = cc
false_not false e = refl

unequal : (a b : ℕ) → (a == b) ≡ false → a ≢ b
unequal a b e same = cc (eq-eqb a b same)

-- what comes at a time or later, and not from the node itself
abbrev pub IsLate : {S X : Type 0} → Simulation S X → ℕ → S → Key → Type 0
IsLate sim until node key = (until ≤ key.time) × (key.from ≢ sim.number node)

-- a run with messages placed among what is left pending
abbrev pub with_late : {S X : Type 0} → List (Message X) → FreeRun S X → FreeRun S X
with_late ms run = record run { pending = placed run.pending ms }

-- what holds of a run of a node, wherever it ends
pub record IsRunOf {S X : Type 0} (sim : Simulation S X) (node : S) (run : FreeRun S X) : Type 0 where
  pub number : sim.number run.node ≡ sim.number node
  pub source : (m : Message X) → IsIn m run.outs → m.0.from ≡ sim.number node
  pub away : (m : Message X) → IsIn m run.outs → m.0.to ≢ sim.number node
  pub kept : (q : Key) (v : X) → get run.pending q ≡ Some v → q.to ≡ sim.number node

module _ {S X : Type 0} (sim : Simulation S X) where
  -- messages that are late for some nodes aren't among their events
  not_reached : (until : ℕ) (nodes : List S) (q : Key) → reaches_below sim until nodes q ≡ true → q.time < until
  not_reached until nodes q e =
      let who = from_any _ nodes e in counts_time sim until who.0 q.time (both_true (sim.number who.0 == q.to) (counts_below sim until who.0 q.time) who.2).1

  pub late_unseen : (until : ℕ) (nodes : List S) (pending : Queue X) (ms : List (Message X)) → ((m : Message X) → IsIn m ms → until ≤ m.0.time) → events_below sim until nodes (placed pending ms) ≡ events_below sim until nodes pending
  late_unseen until nodes pending ms late =
      ap (λ queue. flat_map (steps_below sim until) nodes ++ map arrival (entries queue)) (same_queue _ _ at)
    where
      at : (q : Key) → get (retain_keys (placed pending ms) (reaches_below sim until nodes)) q ≡ get (retain_keys pending (reaches_below sim until nodes)) q
      at q = get_kept (placed pending ms) _ q ∙ by (reaches_below sim until nodes q) refl ∙ sym (get_kept pending _ q)
        where
          there : q.time < until → (last_of q ms ≡ None) ⊎ (until ≤ q.time) → get (placed pending ms) q ≡ get pending q
          there h (inl none) = get_placed pending ms q ∙ ap (λ a. or_else a (get pending q)) none
          there h (inr k) = absurd (omega arith)

          by : (b : Bool) → reaches_below sim until nodes q ≡ b → cond b (get (placed pending ms) q) None ≡ cond b (get pending q) None
          by true e = there (not_reached until nodes q e) (last_where (λ k. until ≤ k.time) q ms late)
          by false e = refl

  -- the event of a node alone is its own
  pub counts_and_is : (until : ℕ) (node : S) (pending : Queue X) (key : Key) (event : Event X) → IsIn (key, event) (events_below sim until (node ∷ []) pending) → (counts_below sim until node key.time ≡ true) × IsEventOf sim pending node key event
  counts_and_is until node pending key event is = by (event_is sim until (node ∷ []) pending key event is)
    where
      by : IsEventBelow sim until (node ∷ []) pending key event → (counts_below sim until node key.time ≡ true) × IsEventOf sim pending node key event
      by at = here at.member
        where
          here : IsIn at.node (node ∷ []) → (counts_below sim until node key.time ≡ true) × IsEventOf sim pending node key event
          here (inl e) = (subst (λ (n : S). counts_below sim until n key.time ≡ true) e at.counts, subst (λ (n : S). IsEventOf sim pending n key event) e at.of_node)
          here (inr none) = absurd none

  abbrev pub own_event : (until : ℕ) (node : S) (pending : Queue X) (key : Key) (event : Event X) → least (events_below sim until (node ∷ []) pending) ≡ Some (key, event) → IsEventBelow sim until (node ∷ []) pending key event
  own_event until node pending key event is =
      let it = counts_and_is until node pending key event (least_in _ (key, event) is) in
      record { node = node; member = inl refl; counts = it.0; of_node = it.1 }

module _ {S X : Type 0} (sim : Simulation S X) (IsSound : S → Type 0) (Fits : Message X → Type 0) (laws : IsSimulation sim IsSound Fits) (until : ℕ) (within : until ≤ sim.budget) where
  module _ (node : S) (pending : Queue X) (key : Key) (event : Event X) (is_least : least (events_below sim until (node ∷ []) pending) ≡ Some (key, event)) (st : IsStation sim IsSound Fits node pending) where
    abbrev new_node : S
    new_node = (sim.react node event).0

    abbrev sends : List (Message X)
    sends = (sim.react node event).1

    abbrev own : List (Message X)
    own = to_itself sim node sends

    own_reacts : Reacts sim IsSound Fits node key new_node sends
    own_reacts = reacts sim IsSound Fits laws until (node ∷ []) pending key event is_least (own_event sim until node pending key event is_least) st within

    own_sent : (m : Message X) → IsIn m own → IsSent sim Fits node key m
    own_sent m is = all_in (IsSent sim Fits node key) m sends own_reacts.sent (from_filter _ m sends is).0

    others_sent : (m : Message X) → IsIn m (to_others sim node sends) → IsSent sim Fits node key m
    others_sent m is = all_in (IsSent sim Fits node key) m sends own_reacts.sent (from_filter _ m sends is).0

    pub own_station : IsStation sim IsSound Fits new_node (placed (taken event pending) own)
    own_station = goes_on sim IsSound Fits laws until (node ∷ []) pending key event is_least (own_event sim until node pending key event is_least) st within own (λ m is. (from_filter _ m sends is).0)

    sends_rise : RiseBetween (sim.sent node) (sim.sent new_node) sends
    sends_rise = numbered_rise _ _ _ own_reacts.numbered own_reacts.counted

    -- what it sends to itself is new
    pub own_new : AreNew (taken event pending) own
    own_new = new_of_apart (taken event pending) own (rise_apart _ _ own (rise_filter (λ (m : Message X). m.0.to == sim.number node) _ _ sends sends_rise))
        (λ m is. pends_not (taken event pending) m.0 (λ there. none m is there.0 there.1))
      where
        none : (m : Message X) → IsIn m own → (v : X) → get (taken event pending) m.0 ≡ Some v → ⊥
        none m is v e =
            let before = st.numbered m.0 v (left_over sim IsSound Fits laws pending node key event st.fitting (counts_and_is sim until node pending key event (least_in _ (key, event) is_least)).1 m.0 v e).0 (own_sent m is).source in
            let low = (rise_within _ _ sends m sends_rise (from_filter _ m sends is).0).0 in
            omega arith

    key_below : key.time < until
    key_below = counts_time sim until node key.time (counts_and_is sim until node pending key event (least_in _ (key, event) is_least)).0

    -- to take the event and to place late messages commute
    commutes : (ms : List (Message X)) → ((m : Message X) → IsIn m ms → IsLate sim until node m.0) → placed (taken event (placed pending ms)) own ≡ placed (placed (taken event pending) own) ms
    commutes ms late = same_queue _ _ at
      where
        at : (q : Key) → get (placed (taken event (placed pending ms)) own) q ≡ get (placed (placed (taken event pending) own) ms) q
        at q = get_placed (taken event (placed pending ms)) own q ∙ by (last_where (λ k. IsLate sim until node k) q ms late) ∙ sym (get_placed (placed (taken event pending) own) ms q)
          where
            by : (last_of q ms ≡ None) ⊎ IsLate sim until node q → or_else (last_of q own) (get (taken event (placed pending ms)) q) ≡ or_else (last_of q ms) (get (placed (taken event pending) own) q)
            by (inl none) =
                ap (or_else (last_of q own)) (taken_alike event (placed pending ms) pending q (get_placed pending ms q ∙ ap (λ a. or_else a (get pending q)) none))
                ∙ sym (get_placed (taken event pending) own q)
                ∙ ap (λ a. or_else a (get (placed (taken event pending) own) q)) (sym none)
            by (inr is) =
                ap (λ a. or_else a (get (taken event (placed pending ms)) q)) nothing_own
                ∙ left_alone sim IsSound Fits laws pending node key event of_node (placed pending ms) q apart
                ∙ get_placed pending ms q
                ∙ ap (or_else (last_of q ms)) (sym (get_placed (taken event pending) own q ∙ ap (λ a. or_else a (get (taken event pending) q)) nothing_own ∙ left_alone sim IsSound Fits laws pending node key event of_node pending q apart))
              where
                of_node : IsEventOf sim pending node key event
                of_node = (counts_and_is sim until node pending key event (least_in _ (key, event) is_least)).1

                apart : q ≢ key
                apart same = let e : q.time ≡ key.time = ap (λ (k : Key). k.time) same in let b = key_below in omega arith

                nothing_own : last_of q own ≡ None
                nothing_own = here (last_where (λ k. k.from ≡ sim.number node) q own (λ m h. (own_sent m h).source))
                  where
                    here : (last_of q own ≡ None) ⊎ (q.from ≡ sim.number node) → last_of q own ≡ None
                    here (inl none) = none
                    here (inr e) = absurd (is.1 e)

  -- A late message passes through: the run is the run without it, with the message put back.
  pub late_passes : (n : ℕ) (node : S) (pending : Queue X) (ms : List (Message X)) → IsStation sim IsSound Fits node pending → ((m : Message X) → IsIn m ms → IsLate sim until node m.0) → free_run sim until n node (placed pending ms) ≡ with_late ms (free_run sim until n node pending)
  unfolding free_run
  late_passes zero node pending ms st late = refl
  late_passes (suc n) node pending ms st late =
      ap (λ es. after_own sim (free_run sim until n) node (placed pending ms) (least es)) (late_unseen sim until (node ∷ []) pending ms (λ m is. (late m is).0))
      ∙ late_after n node pending ms st late (λ new queue. late_passes n new queue ms) (least (events_below sim until (node ∷ []) pending)) refl
    where
      late_after : (n : ℕ) (node : S) (pending : Queue X) (ms : List (Message X)) → IsStation sim IsSound Fits node pending → ((m : Message X) → IsIn m ms → IsLate sim until node m.0) →
          ((new : S) (queue : Queue X) → IsStation sim IsSound Fits new queue → ((m : Message X) → IsIn m ms → IsLate sim until new m.0) → free_run sim until n new (placed queue ms) ≡ with_late ms (free_run sim until n new queue)) →
          (o : Option (Key × Event X)) → least (events_below sim until (node ∷ []) pending) ≡ o →
          after_own sim (free_run sim until n) node (placed pending ms) o ≡ with_late ms (after_own sim (free_run sim until n) node pending o)
      late_after n node pending ms st late rest None is = refl
      late_after n node pending ms st late rest (Some e) is =
          ap (λ queue. with_outs (to_others sim node (sends node pending e.0 e.1 is st)) (free_run sim until n (new_node node pending e.0 e.1 is st) queue)) (commutes node pending e.0 e.1 is st ms late)
          ∙ ap (with_outs (to_others sim node (sends node pending e.0 e.1 is st))) (rest (new_node node pending e.0 e.1 is st) _ (own_station node pending e.0 e.1 is st)
          (λ m h. ((late m h).0, λ same. (late m h).1 (same ∙ (own_reacts node pending e.0 e.1 is st).number))))

  -- ---- what holds of a run of a node, wherever it ends

  run_after : (n : ℕ) (node : S) (pending : Queue X) → IsStation sim IsSound Fits node pending → ((q : Key) (v : X) → get pending q ≡ Some v → q.to ≡ sim.number node) →
      ((new : S) (queue : Queue X) → IsStation sim IsSound Fits new queue → ((q : Key) (v : X) → get queue q ≡ Some v → q.to ≡ sim.number new) → IsRunOf sim new (free_run sim until n new queue)) →
      (o : Option (Key × Event X)) → least (events_below sim until (node ∷ []) pending) ≡ o →
      IsRunOf sim node (after_own sim (free_run sim until n) node pending o)
  run_after n node pending st kept rest None is = record { number = refl; source = λ m h. absurd h; away = λ m h. absurd h; kept = kept }
  run_after n node pending st kept rest (Some e) is = record {
    number = r.number ∙ same;
    source = λ m h. source m (in_append m outs (later_run).outs h);
    away = λ m h. away m (in_append m outs (later_run).outs h);
    kept = λ q v h. r.kept q v h ∙ same;
  }
    where
      outs : List (Message X)
      outs = to_others sim node (sends node pending e.0 e.1 is st)

      new : S
      new = new_node node pending e.0 e.1 is st

      later_run : FreeRun S X
      later_run = free_run sim until n new (placed (taken e.1 pending) (own node pending e.0 e.1 is st))

      same : sim.number new ≡ sim.number node
      same = (own_reacts node pending e.0 e.1 is st).number

      old : (q : Key) (v : X) → IsIn (q, v) (own node pending e.0 e.1 is st) ⊎ (get (taken e.1 pending) q ≡ Some v) → q.to ≡ sim.number node
      old q v (inl h) = eqb-true _ _ (from_filter (λ (m : Message X). m.0.to == sim.number node) (q, v) (sends node pending e.0 e.1 is st) h).1
      old q v (inr h) = kept q v (left_over sim IsSound Fits laws pending node e.0 e.1 st.fitting (counts_and_is sim until node pending e.0 e.1 (least_in _ (e.0, e.1) is)).1 q v h).0

      r : IsRunOf sim new later_run
      r = rest new _ (own_station node pending e.0 e.1 is st) (λ q v h. old q v (from_placed (taken e.1 pending) (own node pending e.0 e.1 is st) q v h) ∙ sym same)

      source : (m : Message X) → IsIn m outs ⊎ IsIn m later_run.outs → m.0.from ≡ sim.number node
      source m (inl h) = (others_sent node pending e.0 e.1 is st m h).source
      source m (inr h) = r.source m h ∙ same

      away : (m : Message X) → IsIn m outs ⊎ IsIn m later_run.outs → m.0.to ≢ sim.number node
      away m (inl h) = unequal _ _ (false_not _ (from_filter (λ (k : Message X). not (k.0.to == sim.number node)) m (sends node pending e.0 e.1 is st) h).1)
      away m (inr h) = λ e. r.away m h (e ∙ sym same)

  pub run_of : (n : ℕ) (node : S) (pending : Queue X) → IsStation sim IsSound Fits node pending → ((q : Key) (v : X) → get pending q ≡ Some v → q.to ≡ sim.number node) → IsRunOf sim node (free_run sim until n node pending)
  unfolding free_run
  run_of zero node pending st kept = record { number = refl; source = λ m h. absurd h; away = λ m h. absurd h; kept = kept }
  run_of (suc n) node pending st kept = run_after n node pending st kept (λ new queue. run_of n new queue) (least (events_below sim until (node ∷ []) pending)) refl

  -- ---- when what it sends comes, and what it has handled

  -- an event of a station is above the last one that it handled
  after_last : (node : S) (pending : Queue X) → IsStation sim IsSound Fits node pending → (key : Key) (event : Event X) → IsEventOf sim pending node key event → IsAfter (sim.last node) key
  after_last node pending st key Step is = subst (IsAfter (sim.last node)) (sym is.1) (st.step key.time is.0)
  after_last node pending st key (Arrival message) is = st.no_past key message.1 is.2 is.1

  abbrev NoneBefore : ℕ → S → Queue X → Type 0
  NoneBefore time node pending = (key : Key) (event : Event X) → IsIn (key, event) (events_below sim until (node ∷ []) pending) → time ≤ key.time

  outs_after : (n time : ℕ) (node : S) (pending : Queue X) → IsStation sim IsSound Fits node pending → NoneBefore time node pending →
      ((new : S) (queue : Queue X) → IsStation sim IsSound Fits new queue → NoneBefore time new queue → (m : Message X) → IsIn m (free_run sim until n new queue).outs → time + sim.lookahead ≤ m.0.time) →
      (o : Option (Key × Event X)) → least (events_below sim until (node ∷ []) pending) ≡ o →
      (m : Message X) → IsIn m (after_own sim (free_run sim until n) node pending o).outs → time + sim.lookahead ≤ m.0.time
  outs_after n time node pending st none rest None is m h = absurd h
  outs_after n time node pending st none rest (Some e) is m h = by (in_append m (to_others sim node (sends node pending e.0 e.1 is st)) (free_run sim until n new queue).outs h)
    where
      new : S
      new = new_node node pending e.0 e.1 is st

      queue : Queue X
      queue = placed (taken e.1 pending) (own node pending e.0 e.1 is st)

      no_earlier : time ≤ e.0.time
      no_earlier = none e.0 e.1 (least_in _ (e.0, e.1) is)

      none_new : NoneBefore time new queue
      none_new k event member =
          let after = after_last new queue (own_station node pending e.0 e.1 is st) k event (counts_and_is sim until new queue k event member).1 in
          let up = less_time e.0 k (subst (λ last. IsAfter last k) (own_reacts node pending e.0 e.1 is st).last after) in
          omega (arith, no_earlier)

      by : IsIn m (to_others sim node (sends node pending e.0 e.1 is st)) ⊎ IsIn m (free_run sim until n new queue).outs → time + sim.lookahead ≤ m.0.time
      by (inl other) =
          let away = unequal _ _ (false_not _ (from_filter (λ (k : Message X). not (k.0.to == sim.number node)) m (sends node pending e.0 e.1 is st) other).1) in
          let late = (others_sent node pending e.0 e.1 is st m other).late away in
          omega (arith, no_earlier)
      by (inr later) = rest new queue (own_station node pending e.0 e.1 is st) none_new m later

  -- What a node sends to others comes by the lookahead after its first event.
  pub outs_late : (n time : ℕ) (node : S) (pending : Queue X) → IsStation sim IsSound Fits node pending → NoneBefore time node pending → (m : Message X) → IsIn m (free_run sim until n node pending).outs → time + sim.lookahead ≤ m.0.time
  unfolding free_run
  outs_late zero time node pending st none = λ m h. absurd h
  outs_late (suc n) time node pending st none = outs_after n time node pending st none (λ new queue. outs_late n time new queue) (least (events_below sim until (node ∷ []) pending)) refl

  -- What it sends to others fits.
  pub outs_fit : (n : ℕ) (node : S) (pending : Queue X) → IsStation sim IsSound Fits node pending → (m : Message X) → IsIn m (free_run sim until n node pending).outs → Fits m
  unfolding free_run
  outs_fit zero node pending st m = λ h. absurd h
  outs_fit (suc n) node pending st m = by (outs_fit n) (least (events_below sim until (node ∷ []) pending)) refl
    where
      by : ((new : S) (queue : Queue X) → IsStation sim IsSound Fits new queue → (k : Message X) → IsIn k (free_run sim until n new queue).outs → Fits k) → (o : Option (Key × Event X)) → least (events_below sim until (node ∷ []) pending) ≡ o → IsIn m (after_own sim (free_run sim until n) node pending o).outs → Fits m
      by rest None is h = absurd h
      by rest (Some e) is h = either (in_append m (to_others sim node (sends node pending e.0 e.1 is st)) _ h)
        where
          either : IsIn m (to_others sim node (sends node pending e.0 e.1 is st)) ⊎ IsIn m (free_run sim until n (new_node node pending e.0 e.1 is st) (placed (taken e.1 pending) (own node pending e.0 e.1 is st))).outs → Fits m
          either (inl k) = (others_sent node pending e.0 e.1 is st m k).fits
          either (inr k) = rest (new_node node pending e.0 e.1 is st) (placed (taken e.1 pending) (own node pending e.0 e.1 is st)) (own_station node pending e.0 e.1 is st) m k

  -- What comes at the end of the quantum or later, and after the last event before, is after the last one of the run.
  pub last_below : (n : ℕ) (node : S) (pending : Queue X) → IsStation sim IsSound Fits node pending → (q : Key) → until ≤ q.time → IsAfter (sim.last node) q → IsAfter (sim.last (free_run sim until n node pending).node) q
  unfolding free_run
  last_below zero node pending st q late after = after
  last_below (suc n) node pending st q late after = by (last_below n) (least (events_below sim until (node ∷ []) pending)) refl
    where
      by : ((new : S) (queue : Queue X) → IsStation sim IsSound Fits new queue → (k : Key) → until ≤ k.time → IsAfter (sim.last new) k → IsAfter (sim.last (free_run sim until n new queue).node) k) → (o : Option (Key × Event X)) → least (events_below sim until (node ∷ []) pending) ≡ o → IsAfter (sim.last (after_own sim (free_run sim until n) node pending o).node) q
      by rest None is = after
      by rest (Some e) is =
          rest (new_node node pending e.0 e.1 is st) _ (own_station node pending e.0 e.1 is st) q late
          (subst (λ last. IsAfter last q) (sym (own_reacts node pending e.0 e.1 is st).last) (earlier_less e.0 q (let b = key_below node pending e.0 e.1 is st in omega arith)))

  -- ---- the numbers of what it sends, and where what it has left comes from

  -- What it sends to others has numbers that rise, from the count of its sends before the run up to that after it.
  pub outs_rise : (n : ℕ) (node : S) (pending : Queue X) → IsStation sim IsSound Fits node pending → RiseBetween (sim.sent node) (sim.sent (free_run sim until n node pending).node) (free_run sim until n node pending).outs
  unfolding free_run
  outs_rise zero node pending st = omega arith
  outs_rise (suc n) node pending st = by (outs_rise n) (least (events_below sim until (node ∷ []) pending)) refl
    where
      by : ((new : S) (queue : Queue X) → IsStation sim IsSound Fits new queue → RiseBetween (sim.sent new) (sim.sent (free_run sim until n new queue).node) (free_run sim until n new queue).outs) → (o : Option (Key × Event X)) → least (events_below sim until (node ∷ []) pending) ≡ o →
          RiseBetween (sim.sent node) (sim.sent (after_own sim (free_run sim until n) node pending o).node) (after_own sim (free_run sim until n) node pending o).outs
      by rest None is = omega arith
      by rest (Some e) is =
          let new = new_node node pending e.0 e.1 is st in
          let later = free_run sim until n new (placed (taken e.1 pending) (own node pending e.0 e.1 is st)) in
          rise_append (sim.sent node) (sim.sent new) (sim.sent later.node) (to_others sim node (sends node pending e.0 e.1 is st)) later.outs
          (rise_filter (λ (m : Message X). not (m.0.to == sim.number node)) _ _ (sends node pending e.0 e.1 is st) (sends_rise node pending e.0 e.1 is st))
          (rest new (placed (taken e.1 pending) (own node pending e.0 e.1 is st)) (own_station node pending e.0 e.1 is st))

  step_before : (n : ℕ) (node : S) (pending : Queue X) → IsStation sim IsSound Fits node pending →
      ((new : S) (queue : Queue X) → IsStation sim IsSound Fits new queue → (q : Key) → Pends (free_run sim until n new queue).pending q → Pends queue q ⊎ (q.from ≡ sim.number new)) →
      (o : Option (Key × Event X)) → least (events_below sim until (node ∷ []) pending) ≡ o →
      (q : Key) → Pends (after_own sim (free_run sim until n) node pending o).pending q → Pends pending q ⊎ (q.from ≡ sim.number node)
  step_before n node pending st rest None is q h = inl h
  step_before n node pending st rest (Some e) is q h = either (rest new queue (own_station node pending e.0 e.1 is st) q h)
    where
      new : S
      new = new_node node pending e.0 e.1 is st

      queue : Queue X
      queue = placed (taken e.1 pending) (own node pending e.0 e.1 is st)

      was : (w : X) → IsIn (q, w) (own node pending e.0 e.1 is st) ⊎ (get (taken e.1 pending) q ≡ Some w) → Pends pending q ⊎ (q.from ≡ sim.number node)
      was w (inl k) = inr (own_sent node pending e.0 e.1 is st (q, w) k).source
      was w (inr k) = inl (w, (left_over sim IsSound Fits laws pending node e.0 e.1 st.fitting (counts_and_is sim until node pending e.0 e.1 (least_in _ (e.0, e.1) is)).1 q w k).0)

      either : Pends queue q ⊎ (q.from ≡ sim.number new) → Pends pending q ⊎ (q.from ≡ sim.number node)
      either (inl (w, k)) = was w (from_placed (taken e.1 pending) (own node pending e.0 e.1 is st) q w k)
      either (inr k) = inr (k ∙ (own_reacts node pending e.0 e.1 is st).number)

  -- What is pending after a run was so before it, or is from the node itself.
  pub from_before : (n : ℕ) (node : S) (pending : Queue X) → IsStation sim IsSound Fits node pending → (q : Key) → Pends (free_run sim until n node pending).pending q → Pends pending q ⊎ (q.from ≡ sim.number node)
  unfolding free_run
  from_before zero node pending st q = λ h. inl h
  from_before (suc n) node pending st q = step_before n node pending st (λ new queue. from_before n new queue) (least (events_below sim until (node ∷ []) pending)) refl q

-- A node without an event below the time does nothing.
pub rests : {S X : Type 0} (sim : Simulation S X) (until n : ℕ) (node : S) (pending : Queue X) → least (events_below sim until (node ∷ []) pending) ≡ None → free_run sim until n node pending ≡ record { node = node; pending = pending; outs = [] }
unfolding free_run
rests sim until zero node pending none = refl
rests sim until (suc n) node pending none = ap (after_own sim (free_run sim until n) node pending) none

pub begins : {S X : Type 0} (sim : Simulation S X) (until n : ℕ) (node : S) (pending : Queue X) (e : Key × Event X) → least (events_below sim until (node ∷ []) pending) ≡ Some e → free_run sim until (suc n) node pending ≡ after_own sim (free_run sim until n) node pending (Some e)
unfolding free_run
begins sim until n node pending e is = ap (after_own sim (free_run sim until n) node pending) is
