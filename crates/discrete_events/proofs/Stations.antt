-- What a node and its pending messages keep at an event, and what it sends.
use Rattle.std.proofs.Common.{◌≡◌, ◌≢◌, ℕ, ◌<◌, ◌≤◌, ◌⊎◌, List, Bool, true, false, cond, Option, Some, None, refl, ap, sym, ◌∙◌, subst, inl, inr, arith}
use Rattle.std.specs.declared.cmp.Ordering.TheVariants.{Less}
use Rattle.std.specs.Ordering.{eq_by_cmp}
use Rattle.std.specs.FinMap.{get, remove, get-remove}
use Rattle.wt_proto.specs.declared.key.Key.{Key}
use Rattle.wt_proto.specs.KeyOrder.{key_cmp}
use Rattle.wt_proto.proofs.KeyLaws.{key_cmp_total}
use Rattle.discrete_events.specs.Simulation.{Simulation, Event, Step, Arrival, Message, step_key}
use Rattle.discrete_events.specs.World.{events_below, least}
use Rattle.discrete_events.specs.Serial.{placed, taken}
use Rattle.discrete_events.specs.Laws.{IsIn, IsAfter, IsItsOwn, IsDue, IsSent, Reacts, IsSimulation, IsStation}
use Rattle.discrete_events.proofs.Lists.{all_in, or_else}
use Rattle.discrete_events.specs.KeyTimes.{earlier_less}
use Rattle.discrete_events.proofs.Keys.{IsUpTo, upto_time, upto_less, same_key, isnt_key}
use Rattle.discrete_events.proofs.Queues.{Queue, get_placed, last_of, last_is_in}
use Rattle.discrete_events.proofs.Sequences.{numbered_rise, rise_within}
use Rattle.discrete_events.proofs.Events.{IsEventOf, IsEventBelow, counts_time, counts_unspent, counts_for, event_in, least_upto}

pub lt_or_le : (a b : ℕ) → (a < b) ⊎ (b ≤ a)
lt_or_le a b = grind arith

pub lt_of_le_ne : (a b : ℕ) → a ≤ b → (a ≢ b) → a < b
lt_of_le_ne a b h n = omega arith

module _ {X : Type 0} where
  pub get_removed : (pending : Queue X) (key q : Key) (v : X) → get (remove pending key) q ≡ Some v → (get pending q ≡ Some v) × (q ≢ key)
  get_removed pending key q v e = by (eq_by_cmp key_cmp q key) refl (sym (get-remove key_cmp_total pending key q) ∙ e)
    where
      by : (b : Bool) → eq_by_cmp key_cmp q key ≡ b → cond b None (get pending q) ≡ Some v → (get pending q ≡ Some v) × (q ≢ key)
      by true is h = cc
      by false is h = (h, λ same. cc (same_key q key same))

  pub get_unremoved : (pending : Queue X) (key q : Key) → (q ≢ key) → get (remove pending key) q ≡ get pending q
  get_unremoved pending key q n = get-remove key_cmp_total pending key q ∙ ap (λ (b : Bool). cond b None (get pending q)) (isnt_key q key n)

  pub taken_alike : (event : Event X) (a b : Queue X) (q : Key) → get a q ≡ get b q → get (taken event a) q ≡ get (taken event b) q
  taken_alike Step a b q e = e
  taken_alike (Arrival message) a b q e =
      get-remove key_cmp_total a message.0 q ∙ ap (cond (eq_by_cmp key_cmp q message.0) None) e ∙ sym (get-remove key_cmp_total b message.0 q)

  -- what is under a key that is placed comes from the messages, or else was there
  pub from_placed : (pending : Queue X) (ms : List (Message X)) (q : Key) (v : X) → get (placed pending ms) q ≡ Some v → IsIn (q, v) ms ⊎ (get pending q ≡ Some v)
  from_placed pending ms q v e = by (last_of q ms) refl (sym (get_placed pending ms q) ∙ e)
    where
      by : (a : Option X) → last_of q ms ≡ a → or_else a (get pending q) ≡ Some v → IsIn (q, v) ms ⊎ (get pending q ≡ Some v)
      by None is h = inr h
      by (Some w) is h = inl (last_is_in q ms v (is ∙ h))

module _ {S X : Type 0} (sim : Simulation S X) (IsSound : S → Type 0) (Fits : Message X → Type 0) (laws : IsSimulation sim IsSound Fits) where
  abbrev pub Station : S → Queue X → Type 0
  Station node pending = IsStation sim IsSound Fits node pending

  -- an event of a sound node isn't left behind once it is taken
  pub left_over : (pending : Queue X) (node : S) (key : Key) (event : Event X) → ((q : Key) (v : X) → get pending q ≡ Some v → Fits (q, v)) → IsEventOf sim pending node key event → (q : Key) (v : X) → get (taken event pending) q ≡ Some v → (get pending q ≡ Some v) × (q ≢ key)
  left_over pending node key Step fits of_node q v e =
      (e, λ same. let from : q.from ≡ sim.nodes = ap (λ (k : Key). k.from) (same ∙ of_node.1) in let less = laws.sourced (q, v) (fits q v e) in omega arith)
  left_over pending node key (Arrival message) fits of_node q v e =
      let r = get_removed pending message.0 q v e in (r.0, λ same. r.1 (same ∙ of_node.0))

  -- all else stays
  pub left_alone : (pending : Queue X) (node : S) (key : Key) (event : Event X) → IsEventOf sim pending node key event → (other : Queue X) (q : Key) → (q ≢ key) → get (taken event other) q ≡ get other q
  left_alone pending node key Step of_node other q n = refl
  left_alone pending node key (Arrival message) of_node other q n = get_unremoved other message.0 q (λ same. n (same ∙ sym of_node.0))

  module _ (until : ℕ) (nodes : List S) (pending : Queue X) (key : Key) (event : Event X) (is_least : least (events_below sim until nodes pending) ≡ Some (key, event)) (at : IsEventBelow sim until nodes pending key event) (st : IsStation sim IsSound Fits at.node pending) where
    time_below : key.time < until
    time_below = counts_time sim until at.node key.time at.counts

    -- a message to the node is due before it is handled only where it isn't below the time
    pub not_before : (q : Key) (v : X) → get pending q ≡ Some v → q.to ≡ sim.number at.node → IsUpTo key q ⊎ (until ≤ q.time)
    not_before q v there to = by (lt_or_le q.time until)
      where
        by : (q.time < until) ⊎ (until ≤ q.time) → IsUpTo key q ⊎ (until ≤ q.time)
        by (inr h) = inr h
        by (inl h) = inl (least_upto (events_below sim until nodes pending) (key, event) (q, Arrival (q, v)) is_least
            (event_in sim until nodes pending q (Arrival (q, v)) (record { node = at.node; member = at.member; counts = counts_for sim until at.node q.time (counts_unspent sim until at.node key.time at.counts) h; of_node = (refl, to, there) })))

    -- so its next step, where it runs, isn't before the event
    pub not_before_step : (time : ℕ) → sim.next at.node ≡ Some time → key.time ≤ time
    not_before_step time next = by (lt_or_le time until)
      where
        by : (time < until) ⊎ (until ≤ time) → key.time ≤ time
        by (inr h) = let t = time_below in omega arith
        by (inl h) = upto_time key (step_key sim at.node time) (least_upto (events_below sim until nodes pending) (key, event) (step_key sim at.node time, Step) is_least
            (event_in sim until nodes pending (step_key sim at.node time) Step (record { node = at.node; member = at.member; counts = counts_for sim until at.node time (counts_unspent sim until at.node key.time at.counts) h; of_node = (next, refl) })))

    after_last : (e : Event X) → IsEventOf sim pending at.node key e → IsAfter (sim.last at.node) key
    after_last Step of_node = subst (IsAfter (sim.last at.node)) (sym of_node.1) (st.step key.time of_node.0)
    after_last (Arrival message) of_node = st.no_past key message.1 of_node.2 of_node.1

    its_own : (e : Event X) → IsEventOf sim pending at.node key e → IsItsOwn sim Fits at.node key e
    its_own Step of_node = of_node
    its_own (Arrival message) of_node = (of_node.0, of_node.1, subst Fits (λ i. (of_node.0 i, message.1)) (st.fitting key message.1 of_node.2), not_before_step)

    pub due : until ≤ sim.budget → IsDue sim Fits at.node key event
    due within = record {
      unspent = lt_of_le_ne _ _ (laws.within at.node st.sound) (counts_unspent sim until at.node key.time at.counts);
      early = let t = time_below in omega arith;
      later = after_last event at.of_node;
      its_own = its_own event at.of_node;
    }

    pub reacts : until ≤ sim.budget → Reacts sim IsSound Fits at.node key (sim.react at.node event).0 (sim.react at.node event).1
    reacts within = laws.reacts at.node key event st.sound (due within)

    -- after the event, with some of what it sent
    pub goes_on : until ≤ sim.budget → (ms : List (Message X)) → ((m : Message X) → IsIn m ms → IsIn m (sim.react at.node event).1) → Station (sim.react at.node event).0 (placed (taken event pending) ms)
    goes_on within ms among = record {
      sound = r.sound;
      fitting = λ q v e. fitting q v (from_placed (taken event pending) ms q v e);
      no_past = λ q v e to. subst (λ last. IsAfter last q) (sym r.last) (above q v (to ∙ r.number) (from_placed (taken event pending) ms q v e));
      step = λ time next. subst (λ last. IsAfter last (step_key sim (sim.react at.node event).0 time)) (sym r.last) (r.next time next);
      numbered = λ q v e from. numbered q v (from ∙ r.number) (from_placed (taken event pending) ms q v e);
    }
      where
        r : Reacts sim IsSound Fits at.node key (sim.react at.node event).0 (sim.react at.node event).1
        r = reacts within

        sent : (m : Message X) → IsIn m ms → IsSent sim Fits at.node key m
        sent m h = all_in (IsSent sim Fits at.node key) m (sim.react at.node event).1 r.sent (among m h)

        numbered : (q : Key) (v : X) → q.from ≡ sim.number at.node → IsIn (q, v) ms ⊎ (get (taken event pending) q ≡ Some v) → q.sequence < sim.sent (sim.react at.node event).0
        numbered q v from (inl h) = (rise_within (sim.sent at.node) (sim.sent (sim.react at.node event).0) (sim.react at.node event).1 (q, v) (numbered_rise _ _ _ r.numbered r.counted) (among (q, v) h)).1
        numbered q v from (inr h) =
            let before = st.numbered q v (left_over pending at.node key event st.fitting at.of_node q v h).0 from in
            let more = r.counted in omega arith

        fitting : (q : Key) (v : X) → IsIn (q, v) ms ⊎ (get (taken event pending) q ≡ Some v) → Fits (q, v)
        fitting q v (inl h) = (sent (q, v) h).fits
        fitting q v (inr h) = st.fitting q v (left_over pending at.node key event st.fitting at.of_node q v h).0

        above : (q : Key) (v : X) → q.to ≡ sim.number at.node → IsIn (q, v) ms ⊎ (get (taken event pending) q ≡ Some v) → key_cmp key q ≡ Less
        above q v to (inl h) = earlier_less key q (sent (q, v) h).later
        above q v to (inr h) = by (left_over pending at.node key event st.fitting at.of_node q v h)
          where
            by : (get pending q ≡ Some v) × (q ≢ key) → key_cmp key q ≡ Less
            by old = either (not_before q v old.0 to)
              where
                either : IsUpTo key q ⊎ (until ≤ q.time) → key_cmp key q ≡ Less
                either (inl up) = upto_less key q up (λ e. old.1 (sym e))
                either (inr late) = earlier_less key q (let t = time_below in omega arith)
