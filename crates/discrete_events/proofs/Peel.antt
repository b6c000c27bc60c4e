-- The least event of a world is taken off a round: the round before the event is the round after it.
use Rattle.std.proofs.Common.{◌≡◌, ◌≢◌, ℕ, suc, ◌+◌, ◌-◌, ◌<◌, ◌≤◌, ◌⊎◌, List, [], ◌∷◌, map, Bool, true, false, cond, not, Option, Some, None, refl, ap, sym, ◌∙◌, subst, inl, inr, ◌==◌, arith, eqb-true, eq-eqb}
use Rattle.std.specs.Prelude.{flat_map, sum_by}
use Rattle.std.specs.declared.cmp.Ordering.TheVariants.{Less}
use Rattle.std.specs.Ordering.{eq_by_cmp}
use Rattle.std.specs.FinMap.{get, get-remove}
use Rattle.wt_proto.specs.declared.key.Key.{Key}
use Rattle.wt_proto.specs.KeyOrder.{key_cmp}
use Rattle.wt_proto.proofs.KeyLaws.{key_cmp_total}
use Rattle.discrete_events.specs.Simulation.{Simulation, Event, Step, Arrival, Message, step_key}
use Rattle.discrete_events.specs.World.{counts_below, events_below, least}
use Rattle.discrete_events.specs.Serial.{placed, taken, is_for, node_after, sent_by}
use Rattle.discrete_events.specs.Round.{FreeRun, to_itself, to_others, with_outs, free_run, local, to_node, runs_to, together, exchanged}
use Rattle.discrete_events.specs.Core.{part_to}
use Rattle.discrete_events.specs.Laws.{IsIn, IsAfter, IsSent, IsNumbered, Reacts, IsSimulation, IsStation}
use Rattle.discrete_events.proofs.Lists.{or_else, or_else_none, all_in, from_filter, from_map, map_alike, map_map, flat_map_map}
use Rattle.discrete_events.specs.KeyTimes.{earlier_less}
use Rattle.discrete_events.proofs.Keys.{upto_both, upto_less, less_trans}
use Rattle.discrete_events.specs.Theorems.{AreNew}
use Rattle.discrete_events.proofs.Sequences.{RiseBetween, numbered_rise, rise_within, rise_apart, new_of_apart}
use Rattle.discrete_events.proofs.Queues.{Queue, pends_not, same_queue, get_placed, get_to_node, get_together, last_of, last_of_filter, last_is_in, last_where, last_of_append, first_of}
use Rattle.discrete_events.proofs.Events.{IsEventOf, IsEventBelow, counts_time, counts_unspent, counts_for, event_is, event_in, event_to, least_in, least_upto, least_some}
use Rattle.discrete_events.proofs.Stations.{taken_alike, from_placed, left_over, left_alone, reacts, goes_on}
use Rattle.discrete_events.proofs.FreeRuns.{IsLate, with_late, IsRunOf, counts_and_is, late_passes, run_of, begins}
use Rattle.discrete_events.proofs.Numbered.{numbered_same, numbered_find, single_flat, single_last, single_first, last_alike, first_alike, numbered_map, sum_one_more}

pub tested : (a b : ℕ) → (a ≢ b) → (a == b) ≡ false
tested a b n = by (a == b) refl
  where
    by : (t : Bool) → (a == b) ≡ t → t ≡ false
    by true e = absurd (n (eqb-true a b e))
    by false e = refl

-- what is above a later key is above the last one
pub after_less : (last : Option Key) (a b : Key) → IsAfter last a → key_cmp a b ≡ Less → IsAfter last b
after_less None a b h less = tt
after_less (Some last) a b h less = less_trans last a b h less

module _ {X : Type 0} where
  pub to_node_is : (pending : Queue X) (number : ℕ) (q : Key) (v : X) → get (to_node pending number) q ≡ Some v → (get pending q ≡ Some v) × (q.to ≡ number)
  to_node_is pending number q v e = by (q.to == number) refl (sym (get_to_node pending number q) ∙ e)
    where
      by : (b : Bool) → (q.to == number) ≡ b → cond b (get pending q) None ≡ Some v → (get pending q ≡ Some v) × (q.to ≡ number)
      by true is h = (h, eqb-true _ _ is)
      by false is h = cc

  pub is_to_node : (pending : Queue X) (number : ℕ) (q : Key) → q.to ≡ number → get (to_node pending number) q ≡ get pending q
  is_to_node pending number q e = get_to_node pending number q ∙ ap (λ (b : Bool). cond b (get pending q) None) (eq-eqb _ _ e)

  pub not_to_node : (pending : Queue X) (number : ℕ) (q : Key) → (q.to ≢ number) → get (to_node pending number) q ≡ None
  not_to_node pending number q n = get_to_node pending number q ∙ ap (λ (b : Bool). cond b (get pending q) None) (tested _ _ n)

  taken_none : (event : Event X) (pending : Queue X) (q : Key) → get pending q ≡ None → get (taken event pending) q ≡ None
  taken_none Step pending q e = e
  taken_none (Arrival message) pending q e = get-remove key_cmp_total pending message.0 q ∙ by (eq_by_cmp key_cmp q message.0)
    where
      by : (b : Bool) → cond b None (get pending q) ≡ None
      by true = refl
      by false = e

-- what is pending once the nodes have exchanged their messages
pub get_exchanged : {S X : Type 0} (run : S → FreeRun S X) (nodes : List S) (q : Key) → get (exchanged (map run nodes)) q ≡ or_else (last_of q (flat_map (λ n. (run n).outs) nodes)) (first_of q (map (λ n. (run n).pending) nodes))
get_exchanged {S} {X} run nodes q =
    get_placed (together (map (λ (r : FreeRun S X). r.pending) (map run nodes))) (flat_map (λ (r : FreeRun S X). r.outs) (map run nodes)) q
    ∙ (λ i. or_else (last_of q (flat_map_map (λ (r : FreeRun S X). r.outs) run nodes i)) (get_together (map (λ (r : FreeRun S X). r.pending) (map run nodes)) q i))
    ∙ ap (λ queues. or_else (last_of q (flat_map (λ n. (run n).outs) nodes)) (first_of q queues)) (map_map (λ (r : FreeRun S X). r.pending) run nodes)

module _ {S X : Type 0} (sim : Simulation S X) (IsSound : S → Type 0) (Fits : Message X → Type 0) (laws : IsSimulation sim IsSound Fits) where
  pub narrowed : (node : S) (pending : Queue X) (number : ℕ) → IsStation sim IsSound Fits node pending → IsStation sim IsSound Fits node (to_node pending number)
  narrowed node pending number st = record {
    sound = st.sound;
    fitting = λ q v e. st.fitting q v (to_node_is pending number q v e).0;
    no_past = λ q v e. st.no_past q v (to_node_is pending number q v e).0;
    step = st.step;
    numbered = λ q v e. st.numbered q v (to_node_is pending number q v e).0;
  }

  widened : (pending : Queue X) (number : ℕ) (node : S) (key : Key) (event : Event X) → IsEventOf sim (to_node pending number) node key event → IsEventOf sim pending node key event
  widened pending number node key Step is = is
  widened pending number node key (Arrival message) is = (is.0, is.1, (to_node_is pending number key message.1 is.2).0)

  own_part : (pending : Queue X) (node : S) (key : Key) (event : Event X) → IsEventOf sim pending node key event → IsEventOf sim (to_node pending (sim.number node)) node key event
  own_part pending node key Step is = is
  own_part pending node key (Arrival message) is = (is.0, is.1, is_to_node pending (sim.number node) key is.1 ∙ is.2)

  -- An event that a node has below a time is one of the world.
  pub own_in_world : (until : ℕ) → until ≤ sim.budget → (nodes : List S) (pending : Queue X) (node : S) → IsIn node nodes → (key : Key) (event : Event X) → IsIn (key, event) (events_below sim until (node ∷ []) (to_node pending (sim.number node))) → IsIn (key, event) (events_below sim sim.budget nodes pending)
  own_in_world until within nodes pending node member key event is =
      let it = counts_and_is sim until node (to_node pending (sim.number node)) key event is in
      let t = counts_time sim until node key.time it.0 in
      event_in sim sim.budget nodes pending key event (record {
        node = node;
        member = member;
        counts = counts_for sim sim.budget node key.time (counts_unspent sim until node key.time it.0) (omega arith);
        of_node = widened pending (sim.number node) node key event it.1;
      })

  pub own_time : (until : ℕ) (pending : Queue X) (node : S) (key : Key) (event : Event X) → IsIn (key, event) (events_below sim until (node ∷ []) pending) → key.time < until
  own_time until pending node key event is = counts_time sim until node key.time (counts_and_is sim until node pending key event is).0

  from_of_step : (node : S) (key : Key) → key ≡ step_key sim node key.time → key.from ≡ sim.nodes
  from_of_step node key e = ap (λ (k : Key). k.from) e

  -- two events of a node under one key are the same
  same_event : (pending : Queue X) (node : S) → ((q : Key) (v : X) → get pending q ≡ Some v → Fits (q, v)) → (k l : Key) (a b : Event X) → IsEventOf sim pending node k a → IsEventOf sim pending node l b → k ≡ l → ◌≡◌ {A = Key × Event X} (k, a) (l, b)
  same_event pending node fits k l Step Step i j e = λ d. (e d, Step)
  same_event pending node fits k l Step (Arrival n) i j e =
      let f = laws.sourced (l, n.1) (fits l n.1 j.2) in let g = from_of_step node k i.1 in let h : k.from ≡ l.from = ap (λ (q : Key). q.from) e in absurd (omega arith)
  same_event pending node fits k l (Arrival m) Step i j e =
      let f = laws.sourced (k, m.1) (fits k m.1 i.2) in let g = from_of_step node l j.1 in let h : k.from ≡ l.from = ap (λ (q : Key). q.from) e in absurd (omega arith)
  same_event pending node fits k l (Arrival m) (Arrival n) i j e =
      let keys : m.0 ≡ n.0 = sym i.0 ∙ e ∙ j.0 in
      let found : Some m.1 ≡ Some n.1 = sym i.2 ∙ ap (get pending) e ∙ j.2 in
      let bodies : m.1 ≡ n.1 = cc in
      λ d. (e d, Arrival (keys d, bodies d))

  module _ (until : ℕ) (within : until ≤ sim.budget) (nodes : List S) (pending : Queue X) (numbered : IsNumbered sim 0 nodes) (fitting : (q : Key) (v : X) → get pending q ≡ Some v → Fits (q, v)) (stations : (node : S) → IsIn node nodes → IsStation sim IsSound Fits node pending) where
    -- ---- no event below the time

    pub none_own : (node : S) → IsIn node nodes → ((key : Key) (event : Event X) → IsIn (key, event) (events_below sim sim.budget nodes pending) → until ≤ key.time) → least (events_below sim until (node ∷ []) (to_node pending (sim.number node))) ≡ None
    none_own node member none = by (least (events_below sim until (node ∷ []) (to_node pending (sim.number node)))) refl
      where
        by : (o : Option (Key × Event X)) → least (events_below sim until (node ∷ []) (to_node pending (sim.number node))) ≡ o → o ≡ None
        by None is = refl
        by (Some e) is =
            let m = least_in _ (e.0, e.1) is in
            let h = none e.0 e.1 (own_in_world until within nodes pending node member e.0 e.1 m) in
            let t = own_time until (to_node pending (sim.number node)) node e.0 e.1 m in
            absurd (omega arith)

  module _ (nodes : List S) (pending : Queue X) (numbered : IsNumbered sim 0 nodes) (fitting : (q : Key) (v : X) → get pending q ≡ Some v → Fits (q, v)) (stations : (node : S) → IsIn node nodes → IsStation sim IsSound Fits node pending) (key : Key) (event : Event X) (is_least : least (events_below sim sim.budget nodes pending) ≡ Some (key, event)) where
    -- ---- the least event, and what it changes

    at : IsEventBelow sim sim.budget nodes pending key event
    at = event_is sim sim.budget nodes pending key event (least_in _ (key, event) is_least)

    abbrev its_queue : Queue X
    its_queue = to_node pending (sim.number at.node)

    its_event : IsEventOf sim its_queue at.node key event
    its_event = own_part pending at.node key event at.of_node

    abbrev new_node : S
    new_node = (sim.react at.node event).0

    abbrev sends : List (Message X)
    sends = (sim.react at.node event).1

    abbrev others : List (Message X)
    others = to_others sim at.node sends

    its_reacts : Reacts sim IsSound Fits at.node key new_node sends
    its_reacts = reacts sim IsSound Fits laws sim.budget nodes pending key event is_least at (stations at.node at.member) (omega arith)

    abbrev nodes_after : List S
    nodes_after = map (node_after sim key event) nodes

    abbrev pending_after : Queue X
    pending_after = placed (taken event pending) (flat_map (sent_by sim key event) nodes)

    key_to : key.to ≡ sim.number at.node
    key_to = event_to sim pending at.node key event at.of_node

    here : is_for sim key at.node ≡ true
    here = eq-eqb _ _ (sym key_to)

    elsewhere : (other : S) → sim.number other ≢ sim.number at.node → is_for sim key other ≡ false
    elsewhere other n = tested _ _ (λ e. n (e ∙ key_to))

    all_sent : flat_map (sent_by sim key event) nodes ≡ sends
    all_sent =
        single_flat sim (sent_by sim key event) 0 nodes at.node numbered at.member (λ other n. ap (λ (b : Bool). cond b (sim.react other event).1 []) (elsewhere other n))
        ∙ ap (λ (b : Bool). cond b sends []) here

    node_here : node_after sim key event at.node ≡ new_node
    node_here = ap (λ (b : Bool). cond b new_node at.node) here

    node_elsewhere : (other : S) → sim.number other ≢ sim.number at.node → node_after sim key event other ≡ other
    node_elsewhere other n = ap (λ (b : Bool). cond b (sim.react other event).0 other) (elsewhere other n)

    get_after : (q : Key) → get pending_after q ≡ or_else (last_of q sends) (get (taken event pending) q)
    get_after q = ap (λ ms. get (placed (taken event pending) ms) q) all_sent ∙ get_placed (taken event pending) sends q

    -- its node's messages after the event
    new_queue : to_node pending_after (sim.number at.node) ≡ placed (taken event its_queue) (to_itself sim at.node sends)
    new_queue = same_queue _ _ at_key
      where
        by : (q : Key) (b : Bool) → (q.to == sim.number at.node) ≡ b → cond b (or_else (last_of q sends) (get (taken event pending) q)) None ≡ or_else (cond b (last_of q sends) None) (get (taken event its_queue) q)
        by q true e = ap (or_else (last_of q sends)) (taken_alike event pending its_queue q (sym (is_to_node pending (sim.number at.node) q (eqb-true _ _ e))))
        by q false e = sym (taken_none event its_queue q (get_to_node pending (sim.number at.node) q ∙ ap (λ (b : Bool). cond b (get pending q) None) e))

        at_key : (q : Key) → get (to_node pending_after (sim.number at.node)) q ≡ get (placed (taken event its_queue) (to_itself sim at.node sends)) q
        at_key q =
            get_to_node pending_after (sim.number at.node) q
            ∙ ap (λ (a : Option X). cond (q.to == sim.number at.node) a None) (get_after q)
            ∙ by q (q.to == sim.number at.node) refl
            ∙ ap (λ (a : Option X). or_else a (get (taken event its_queue) q)) (sym (last_of_filter (λ k. k.to == sim.number at.node) q sends))
            ∙ sym (get_placed (taken event its_queue) (to_itself sim at.node sends) q)

    -- another node has the messages to it besides
    other_queue : (other : S) → sim.number other ≢ sim.number at.node → to_node pending_after (sim.number other) ≡ placed (to_node pending (sim.number other)) (part_to (sim.number other) sends)
    other_queue other n = same_queue _ _ at_key
      where
        by : (q : Key) (b : Bool) → (q.to == sim.number other) ≡ b → cond b (or_else (last_of q sends) (get (taken event pending) q)) None ≡ or_else (cond b (last_of q sends) None) (cond b (get pending q) None)
        by q true e = ap (or_else (last_of q sends)) (left_alone sim IsSound Fits laws pending at.node key event at.of_node pending q (λ same. n (sym (eqb-true _ _ e) ∙ ap (λ (k : Key). k.to) same ∙ key_to)))
        by q false e = refl

        at_key : (q : Key) → get (to_node pending_after (sim.number other)) q ≡ get (placed (to_node pending (sim.number other)) (part_to (sim.number other) sends)) q
        at_key q =
            get_to_node pending_after (sim.number other) q
            ∙ ap (λ (a : Option X). cond (q.to == sim.number other) a None) (get_after q)
            ∙ by q (q.to == sim.number other) refl
            ∙ (λ i. or_else (sym (last_of_filter (λ k. k.to == sim.number other) q sends) i) (sym (get_to_node pending (sim.number other) q) i))
            ∙ sym (get_placed (to_node pending (sim.number other)) (part_to (sim.number other) sends) q)

    -- what holds of its node and of the others holds of all
    by_node : (P : S → Type 0) → P at.node → ((other : S) → IsIn other nodes → sim.number other ≢ sim.number at.node → P other) → (other : S) → IsIn other nodes → P other
    by_node P it rest other member = either (sim.number other == sim.number at.node) refl
      where
        either : (b : Bool) → (sim.number other == sim.number at.node) ≡ b → P other
        either true e = subst P (sym (numbered_same sim 0 nodes other at.node numbered member at.member (eqb-true _ _ e))) it
        either false e = rest other member (λ same. cc (eq-eqb _ _ same))

    -- ---- the nodes and messages after it

    sent_is : (m : Message X) → IsIn m sends → IsSent sim Fits at.node key m
    sent_is m is = all_in (IsSent sim Fits at.node key) m sends its_reacts.sent is

    from_after : (q : Key) (v : X) → get pending_after q ≡ Some v → IsIn (q, v) sends ⊎ ((get pending q ≡ Some v) × (q ≢ key))
    from_after q v e = by (from_placed (taken event pending) sends q v (ap (λ ms. get (placed (taken event pending) ms) q) (sym all_sent) ∙ e))
      where
        by : IsIn (q, v) sends ⊎ (get (taken event pending) q ≡ Some v) → IsIn (q, v) sends ⊎ ((get pending q ≡ Some v) × (q ≢ key))
        by (inl h) = inl h
        by (inr h) = inr (left_over sim IsSound Fits laws pending at.node key event fitting at.of_node q v h)

    -- each message that it sends is new
    pub sends_new : AreNew (taken event pending) (flat_map (sent_by sim key event) nodes)
    sends_new = subst (AreNew (taken event pending)) (sym all_sent)
        (new_of_apart (taken event pending) sends (rise_apart _ _ sends rise) (λ m is. pends_not (taken event pending) m.0 (λ there. none m is there.0 there.1)))
      where
        rise : RiseBetween (sim.sent at.node) (sim.sent new_node) sends
        rise = numbered_rise _ _ _ its_reacts.numbered its_reacts.counted

        none : (m : Message X) → IsIn m sends → (v : X) → get (taken event pending) m.0 ≡ Some v → ⊥
        none m is v e =
            let before = (stations at.node at.member).numbered m.0 v (left_over sim IsSound Fits laws pending at.node key event fitting at.of_node m.0 v e).0 (sent_is m is).source in
            let low = (rise_within _ _ sends m rise is).0 in
            omega arith

    pub numbered_after : IsNumbered sim 0 nodes_after
    numbered_after = numbered_map sim (node_after sim key event) 0 nodes
        (by_node (λ n. sim.number (node_after sim key event n) ≡ sim.number n) (ap sim.number node_here ∙ its_reacts.number) (λ other member n. ap sim.number (node_elsewhere other n))) numbered

    pub fitting_after : (q : Key) (v : X) → get pending_after q ≡ Some v → Fits (q, v)
    fitting_after q v e = by (from_after q v e)
      where
        by : IsIn (q, v) sends ⊎ ((get pending q ≡ Some v) × (q ≢ key)) → Fits (q, v)
        by (inl h) = (sent_is (q, v) h).fits
        by (inr h) = fitting q v h.0

    -- each event that was due, but for this one, is above it
    old_event : (n : S) → IsIn n nodes → (k : Key) (e : Event X) → counts_below sim sim.budget n k.time ≡ true → IsEventOf sim pending n k e → (key ≢ k) → key_cmp key k ≡ Less
    old_event n member k e counts of_node apart =
        upto_less key k (least_upto _ (key, event) (k, e) is_least (event_in sim sim.budget nodes pending k e (record { node = n; member = member; counts = counts; of_node = of_node }))) apart

    event_here : (k : Key) (e : Event X) → counts_below sim sim.budget new_node k.time ≡ true → IsEventOf sim pending_after new_node k e → key_cmp key k ≡ Less
    event_here k Step counts of_node = subst (λ q. key_cmp key q ≡ Less) (sym of_node.1) (its_reacts.next k.time of_node.0)
    event_here k (Arrival m) counts of_node = by (from_after k m.1 of_node.2)
      where
        by : IsIn (k, m.1) sends ⊎ ((get pending k ≡ Some m.1) × (k ≢ key)) → key_cmp key k ≡ Less
        by (inl h) = earlier_less key k (sent_is (k, m.1) h).later
        by (inr h) = old_event at.node at.member k (Arrival (k, m.1))
            (counts_for sim sim.budget at.node k.time (counts_unspent sim sim.budget at.node key.time at.counts) (counts_time sim sim.budget new_node k.time counts))
            (refl, of_node.1 ∙ its_reacts.number, h.0) (λ same. h.1 (sym same))

    event_elsewhere : (other : S) → IsIn other nodes → sim.number other ≢ sim.number at.node → (k : Key) (e : Event X) → counts_below sim sim.budget other k.time ≡ true → IsEventOf sim pending_after other k e → key_cmp key k ≡ Less
    event_elsewhere other member n k Step counts of_node =
        old_event other member k Step counts of_node (λ same. n (sym (ap (λ (q : Key). q.to) of_node.1) ∙ sym (ap (λ (q : Key). q.to) same) ∙ key_to))
    event_elsewhere other member n k (Arrival m) counts of_node = by (from_after k m.1 of_node.2)
      where
        by : IsIn (k, m.1) sends ⊎ ((get pending k ≡ Some m.1) × (k ≢ key)) → key_cmp key k ≡ Less
        by (inl h) = earlier_less key k (sent_is (k, m.1) h).later
        by (inr h) = old_event other member k (Arrival (k, m.1)) counts (refl, of_node.1, h.0) (λ same. h.1 (sym same))

    -- Every event that is due after it is above it.
    pub rises : (k : Key) (e : Event X) → IsIn (k, e) (events_below sim sim.budget nodes_after pending_after) → key_cmp key k ≡ Less
    rises k e is = by (event_is sim sim.budget nodes_after pending_after k e is)
      where
        by : IsEventBelow sim sim.budget nodes_after pending_after k e → key_cmp key k ≡ Less
        by it = of (from_map (node_after sim key event) it.node nodes it.member)
          where
            of : (n : S) × IsIn n nodes × (it.node ≡ node_after sim key event n) → key_cmp key k ≡ Less
            of who =
                by_node (λ n. counts_below sim sim.budget (node_after sim key event n) k.time ≡ true → IsEventOf sim pending_after (node_after sim key event n) k e → key_cmp key k ≡ Less)
                (λ counts of_node. event_here k e (subst (λ n. counts_below sim sim.budget n k.time ≡ true) node_here counts) (subst (λ n. IsEventOf sim pending_after n k e) node_here of_node))
                (λ other member n counts of_node. event_elsewhere other member n k e (subst (λ m. counts_below sim sim.budget m k.time ≡ true) (node_elsewhere other n) counts) (subst (λ m. IsEventOf sim pending_after m k e) (node_elsewhere other n) of_node))
                who.0 who.1 (subst (λ n. counts_below sim sim.budget n k.time ≡ true) who.2 it.counts) (subst (λ n. IsEventOf sim pending_after n k e) who.2 it.of_node)

    module _ (last_below : (n : S) → IsIn n nodes → IsAfter (sim.last n) key) where
      station_elsewhere : (other : S) → IsIn other nodes → sim.number other ≢ sim.number at.node → IsStation sim IsSound Fits other pending_after
      station_elsewhere other member n = record {
        sound = (stations other member).sound;
        fitting = fitting_after;
        no_past = λ q v e to. by q v to (from_after q v e);
        step = (stations other member).step;
        numbered = λ q v e from. counted q v from (from_after q v e);
      }
        where
          counted : (q : Key) (v : X) → q.from ≡ sim.number other → IsIn (q, v) sends ⊎ ((get pending q ≡ Some v) × (q ≢ key)) → q.sequence < sim.sent other
          counted q v from (inl h) = absurd (n (sym from ∙ (sent_is (q, v) h).source))
          counted q v from (inr h) = (stations other member).numbered q v h.0 from

          by : (q : Key) (v : X) → q.to ≡ sim.number other → IsIn (q, v) sends ⊎ ((get pending q ≡ Some v) × (q ≢ key)) → IsAfter (sim.last other) q
          by q v to (inl h) = after_less (sim.last other) key q (last_below other member) (earlier_less key q (sent_is (q, v) h).later)
          by q v to (inr h) = (stations other member).no_past q v h.0 to

      station_of : (n : S) → IsIn n nodes → IsStation sim IsSound Fits (node_after sim key event n) pending_after
      station_of = by_node (λ n. IsStation sim IsSound Fits (node_after sim key event n) pending_after)
          (subst (λ n. IsStation sim IsSound Fits n pending_after) (sym node_here)
          (subst (λ ms. IsStation sim IsSound Fits new_node (placed (taken event pending) ms)) (sym all_sent)
          (goes_on sim IsSound Fits laws sim.budget nodes pending key event is_least at (stations at.node at.member) (omega arith) sends (λ m h. h))))
          (λ other member n. subst (λ m. IsStation sim IsSound Fits m pending_after) (sym (node_elsewhere other n)) (station_elsewhere other member n))

      pub stations_after : (n : S) → IsIn n nodes_after → IsStation sim IsSound Fits n pending_after
      stations_after n is = by (from_map (node_after sim key event) n nodes is)
        where
          by : (m : S) × IsIn m nodes × (n ≡ node_after sim key event m) → IsStation sim IsSound Fits n pending_after
          by who = subst (λ k. IsStation sim IsSound Fits k pending_after) (sym who.2) (station_of who.0 who.1)

      last_of_node : (n : S) → IsIn n nodes → (k : Key) → key_cmp key k ≡ Less → IsAfter (sim.last (node_after sim key event n)) k
      last_of_node n member k less = by_node (λ m. IsAfter (sim.last (node_after sim key event m)) k)
          (subst (λ last. IsAfter last k) (sym (ap sim.last node_here ∙ its_reacts.last)) less)
          (λ other h m. subst (λ last. IsAfter last k) (sym (ap sim.last (node_elsewhere other m))) (after_less (sim.last other) key k (last_below other h) less))
          n member

      pub rising_after : (n : S) (k : Key) (e : Event X) → IsIn n nodes_after → IsIn (k, e) (events_below sim sim.budget nodes_after pending_after) → IsAfter (sim.last n) k
      rising_after n k e is it = by (from_map (node_after sim key event) n nodes is)
        where
          by : (m : S) × IsIn m nodes × (n ≡ node_after sim key event m) → IsAfter (sim.last n) k
          by who = subst (λ m. IsAfter (sim.last m) k) (sym who.2) (last_of_node who.0 who.1 k (rises k e it))

    -- one event more is handled
    pub handled_after : sum_by sim.handled nodes_after ≡ suc (sum_by sim.handled nodes)
    handled_after = sum_one_more sim sim.handled (node_after sim key event) 0 nodes at.node numbered at.member (ap sim.handled node_here ∙ its_reacts.handled) (λ other member n. node_elsewhere other n)

    module _ (until : ℕ) (within : until ≤ sim.budget) (below : key.time < until) (late : until ≤ key.time + sim.lookahead) where
      -- ---- it is the least event of its node, below the time

      its_counts : counts_below sim until at.node key.time ≡ true
      its_counts = counts_for sim until at.node key.time (counts_unspent sim sim.budget at.node key.time at.counts) below

      -- it is the least event of its node
      own_least : least (events_below sim until (at.node ∷ []) its_queue) ≡ Some (key, event)
      own_least = found (least_some _ (key, event) is_own)
        where
          is_own : IsIn (key, event) (events_below sim until (at.node ∷ []) its_queue)
          is_own = event_in sim until (at.node ∷ []) its_queue key event (record { node = at.node; member = inl refl; counts = its_counts; of_node = its_event })

          found : (e : Key × Event X) × (least (events_below sim until (at.node ∷ []) its_queue) ≡ Some e) → least (events_below sim until (at.node ∷ []) its_queue) ≡ Some (key, event)
          found (e, is) =
              let m = least_in _ (e.0, e.1) is in
              let low = least_upto _ (e.0, e.1) (key, event) is is_own in
              let high = least_upto _ (key, event) (e.0, e.1) is_least (own_in_world until within nodes pending at.node at.member e.0 e.1 m) in
              let it = counts_and_is sim until at.node its_queue e.0 e.1 m in
              is ∙ ap Some (same_event its_queue at.node (narrowed at.node pending (sim.number at.node) (stations at.node at.member)).fitting e.0 key e.1 event it.1 its_event (upto_both e.0 key low high))

      -- ---- the runs before and after the event

      abbrev run_before : S → FreeRun S X
      run_before node = local sim until node (to_node pending (sim.number node))

      abbrev run_of_new : S → FreeRun S X
      run_of_new node = local sim until node (to_node pending_after (sim.number node))

      abbrev run_behind : S → FreeRun S X
      run_behind node = run_of_new (node_after sim key event node)

      runs_here : run_before at.node ≡ with_outs others (run_behind at.node)
      runs_here =
          ap (λ n. free_run sim until n at.node its_queue) fuel
          ∙ begins sim until (sim.event_limit - sim.handled new_node) at.node its_queue (key, event) own_least
          ∙ ap (λ queue. with_outs others (free_run sim until (sim.event_limit - sim.handled new_node) new_node queue)) (sym new_queue ∙ ap (to_node pending_after) (sym its_reacts.number))
          ∙ ap (λ node. with_outs others (run_of_new node)) (sym node_here)
        where
          fuel : sim.event_limit - sim.handled at.node ≡ suc (sim.event_limit - sim.handled new_node)
          fuel = let h = its_reacts.handled in let w = laws.within new_node its_reacts.sound in omega arith

      is_late : (other : S) → sim.number other ≢ sim.number at.node → (m : Message X) → IsIn m (part_to (sim.number other) sends) → IsLate sim until other m.0
      is_late other n m h = by (from_filter (λ (k : Message X). k.0.to == sim.number other) m sends h)
        where
          by : IsIn m sends × ((m.0.to == sim.number other) ≡ true) → IsLate sim until other m.0
          by it = timely (all_in (IsSent sim Fits at.node key) m sends its_reacts.sent it.0) (eqb-true _ _ it.1)
            where
              timely : IsSent sim Fits at.node key m → m.0.to ≡ sim.number other → IsLate sim until other m.0
              timely sent to = (let t = sent.late (λ e. n (sym to ∙ e)) in omega arith, λ e. n (sym e ∙ sent.source))

      runs_elsewhere : (other : S) → IsIn other nodes → sim.number other ≢ sim.number at.node → run_behind other ≡ with_late (part_to (sim.number other) sends) (run_before other)
      runs_elsewhere other member n =
          ap run_of_new (node_elsewhere other n)
          ∙ ap (local sim until other) (other_queue other n)
          ∙ late_passes sim IsSound Fits laws until within (sim.event_limit - sim.handled other) other (to_node pending (sim.number other)) (part_to (sim.number other) sends) (narrowed other pending (sim.number other) (stations other member)) (is_late other n)

      before_is : (other : S) → IsIn other nodes → IsRunOf sim other (run_before other)
      before_is other member = run_of sim IsSound Fits laws until within (sim.event_limit - sim.handled other) other (to_node pending (sim.number other)) (narrowed other pending (sim.number other) (stations other member)) (λ q v e. (to_node_is pending (sim.number other) q v e).1)

      pub peel_nodes : map (λ (run : FreeRun S X). run.node) (runs_to sim until nodes pending) ≡ map (λ (run : FreeRun S X). run.node) (runs_to sim until nodes_after pending_after)
      peel_nodes =
          map_map (λ (run : FreeRun S X). run.node) run_before nodes
          ∙ map_alike (λ n. (run_before n).node) (λ n. (run_behind n).node) nodes (by_node (λ n. (run_before n).node ≡ (run_behind n).node)
          (ap (λ (run : FreeRun S X). run.node) runs_here) (λ other member n. sym (ap (λ (run : FreeRun S X). run.node) (runs_elsewhere other member n))))
          ∙ sym (map_map (λ (run : FreeRun S X). run.node) run_behind nodes)
          ∙ ap (map (λ (run : FreeRun S X). run.node)) (sym (map_map run_of_new (node_after sim key event) nodes))

      -- ---- the messages that are left, and those exchanged

      -- under a key of nothing that was sent to others
      unsent : (q : Key) → last_of q others ≡ None → get (exchanged (map run_before nodes)) q ≡ get (exchanged (map run_behind nodes)) q
      unsent q none =
          get_exchanged run_before nodes q
          ∙ (λ i. or_else (last_alike sim q (λ n. (run_before n).outs) (λ n. (run_behind n).outs) nodes outs i) (first_alike sim q (λ n. (run_before n).pending) (λ n. (run_behind n).pending) nodes queues i))
          ∙ sym (get_exchanged run_behind nodes q)
        where
          outs : (n : S) → IsIn n nodes → last_of q (run_before n).outs ≡ last_of q (run_behind n).outs
          outs = by_node (λ n. last_of q (run_before n).outs ≡ last_of q (run_behind n).outs)
              (ap (λ (r : FreeRun S X). last_of q r.outs) runs_here ∙ last_of_append q others (run_behind at.node).outs ∙ ap (or_else (last_of q (run_behind at.node).outs)) none ∙ or_else_none (last_of q (run_behind at.node).outs))
              (λ other member n. sym (ap (λ (r : FreeRun S X). last_of q r.outs) (runs_elsewhere other member n)))

          nothing : (other : S) → sim.number other ≢ sim.number at.node → last_of q (part_to (sim.number other) sends) ≡ None
          nothing other n = last_of_filter (λ k. k.to == sim.number other) q sends ∙ by (q.to == sim.number other) refl
            where
              by : (b : Bool) → (q.to == sim.number other) ≡ b → cond b (last_of q sends) None ≡ None
              by true e =
                  sym (ap (λ (b : Bool). cond (not b) (last_of q sends) None) (tested q.to (sim.number at.node) (λ same. n (sym (eqb-true _ _ e) ∙ same))))
                  ∙ sym (last_of_filter (λ k. not (k.to == sim.number at.node)) q sends) ∙ none
              by false e = refl

          queues : (n : S) → IsIn n nodes → get (run_before n).pending q ≡ get (run_behind n).pending q
          queues = by_node (λ n. get (run_before n).pending q ≡ get (run_behind n).pending q)
              (ap (λ (r : FreeRun S X). get r.pending q) runs_here)
              (λ other member n. sym (ap (λ (r : FreeRun S X). get r.pending q) (runs_elsewhere other member n)
              ∙ get_placed (run_before other).pending (part_to (sim.number other) sends) q
              ∙ ap (λ a. or_else a (get (run_before other).pending q)) (nothing other n)))

      -- under a key of what was sent to another
      sent_to_other : (q : Key) (v : X) → last_of q others ≡ Some v → get (exchanged (map run_before nodes)) q ≡ get (exchanged (map run_behind nodes)) q
      sent_to_other q v some =
          get_exchanged run_before nodes q
          ∙ ap (λ a. or_else a (first_of q (map (λ n. (run_before n).pending) nodes))) (last_before ∙ first_out)
          ∙ swallowed (last_of q (run_behind at.node).outs) (first_of q (map (λ n. (run_before n).pending) nodes))
          ∙ sym (get_exchanged run_behind nodes q ∙ (λ i. or_else (last_behind i) (queued (numbered_find sim 0 nodes q.to numbered (omega arith) (laws.addressed (q, v) sent.fits)) i)))
        where
          it : IsIn (q, v) sends × (not (q.to == sim.number at.node) ≡ true)
          it = from_filter (λ (k : Message X). not (k.0.to == sim.number at.node)) (q, v) sends (last_is_in q others v some)

          sent : IsSent sim Fits at.node key (q, v)
          sent = all_in (IsSent sim Fits at.node key) (q, v) sends its_reacts.sent it.0

          away : q.to ≢ sim.number at.node
          away e = cc (eq-eqb _ _ e, it.1)

          no_out : (other : S) → IsIn other nodes → sim.number other ≢ sim.number at.node → last_of q (run_before other).outs ≡ None
          no_out other member n = by (last_where (λ k. k.from ≡ sim.number other) q (run_before other).outs (before_is other member).source)
            where
              by : (last_of q (run_before other).outs ≡ None) ⊎ (q.from ≡ sim.number other) → last_of q (run_before other).outs ≡ None
              by (inl none) = none
              by (inr e) = absurd (n (sym e ∙ sent.source))

          last_before : last_of q (flat_map (λ n. (run_before n).outs) nodes) ≡ last_of q (run_before at.node).outs
          last_before = single_last sim q (λ n. (run_before n).outs) 0 nodes at.node numbered at.member no_out

          last_behind : last_of q (flat_map (λ n. (run_behind n).outs) nodes) ≡ last_of q (run_behind at.node).outs
          last_behind = single_last sim q (λ n. (run_behind n).outs) 0 nodes at.node numbered at.member
              (λ other member n. ap (λ (r : FreeRun S X). last_of q r.outs) (runs_elsewhere other member n) ∙ no_out other member n)

          first_out : last_of q (run_before at.node).outs ≡ or_else (last_of q (run_behind at.node).outs) (Some v)
          first_out = ap (λ (r : FreeRun S X). last_of q r.outs) runs_here ∙ last_of_append q others (run_behind at.node).outs ∙ ap (or_else (last_of q (run_behind at.node).outs)) some

          swallowed : (a b : Option X) → or_else (or_else a (Some v)) b ≡ or_else a (Some v)
          swallowed None b = refl
          swallowed (Some x) b = refl

          in_all : last_of q sends ≡ Some v
          in_all =
              sym (ap (λ (b : Bool). cond (not b) (last_of q sends) None) (tested q.to (sim.number at.node) away))
              ∙ sym (last_of_filter (λ k. not (k.to == sim.number at.node)) q sends) ∙ some

          queue_of : (other : S) → IsIn other nodes → sim.number other ≢ sim.number at.node → get (run_behind other).pending q ≡ or_else (cond (q.to == sim.number other) (last_of q sends) None) (get (run_before other).pending q)
          queue_of other member n =
              ap (λ (r : FreeRun S X). get r.pending q) (runs_elsewhere other member n)
              ∙ get_placed (run_before other).pending (part_to (sim.number other) sends) q
              ∙ ap (λ a. or_else a (get (run_before other).pending q)) (last_of_filter (λ k. k.to == sim.number other) q sends)

          not_queued : (other : S) → IsIn other nodes → (q.to ≢ sim.number other) → get (run_before other).pending q ≡ None
          not_queued other member n = by (get (run_before other).pending q) refl
            where
              by : (o : Option X) → get (run_before other).pending q ≡ o → o ≡ None
              by None e = refl
              by (Some x) e = absurd (n ((before_is other member).kept q x e))

          elsewhere_none : (d other : S) → IsIn other nodes → sim.number d ≡ q.to → sim.number other ≢ sim.number d → get (run_behind other).pending q ≡ None
          elsewhere_none d other member to n = by_node (λ m. sim.number m ≢ sim.number d → get (run_behind m).pending q ≡ None)
              (λ k. sym (ap (λ (r : FreeRun S X). get r.pending q) runs_here) ∙ not_queued at.node at.member away)
              (λ m h k l. queue_of m h k ∙ (λ i. or_else (cond (tested q.to (sim.number m) (λ e. l (sym e ∙ sym to)) i) (last_of q sends) None) (not_queued m h (λ e. l (sym e ∙ sym to)) i)))
              other member n

          queued : (d : S) × IsIn d nodes × (sim.number d ≡ q.to) → first_of q (map (λ n. (run_behind n).pending) nodes) ≡ Some v
          queued d =
              single_first sim q (λ n. (run_behind n).pending) 0 nodes d.0 numbered d.1 (λ other member n. elsewhere_none d.0 other member d.2 n)
              ∙ queue_of d.0 d.1 (λ e. away (sym d.2 ∙ e))
              ∙ (λ i. or_else (cond (eq-eqb _ _ (sym d.2) i) (in_all i) None) (get (run_before d.0).pending q))

      pub peel_pending : exchanged (runs_to sim until nodes pending) ≡ exchanged (runs_to sim until nodes_after pending_after)
      peel_pending =
          same_queue _ _ (λ q. by q (last_of q others) refl)
          ∙ ap exchanged (sym (map_map run_of_new (node_after sim key event) nodes))
        where
          by : (q : Key) (o : Option X) → last_of q others ≡ o → get (exchanged (map run_before nodes)) q ≡ get (exchanged (map run_behind nodes)) q
          by q None e = unsent q e
          by q (Some v) e = sent_to_other q v e
