-- The least event, and what it is to be an event of some nodes and messages.
use Rattle.std.proofs.Common.{◌≡◌, ◌≢◌, ℕ, ◌<◌, ◌⊎◌, List, [], ◌∷◌, map, Bool, true, false, cond, not, ◌&&◌, Option, Some, None, refl, ap, sym, ◌∙◌, subst, inl, inr, ◌==◌, nat_lt, arith, eqb-true, eq-eqb, lt-ltb}
use Rattle.std.proofs.lemmas.Bool.Decides.{nat_tests}
use Rattle.std.specs.Prelude.{flat_map}
use Rattle.std.specs.Ordering.{is_lt}
use Rattle.std.specs.FinMap.{FinMap, get, entries, retain_keys}
use Rattle.wt_proto.specs.declared.key.Key.{Key}
use Rattle.wt_proto.specs.KeyOrder.{key_cmp}
use Rattle.discrete_events.specs.Simulation.{Simulation, Event, Step, Arrival, Message, step_key}
use Rattle.discrete_events.specs.World.{is_spent, counts_below, step_at, steps_below, reaches_below, arrival, events_below, lesser, least}
use Rattle.discrete_events.specs.Laws.{IsIn}
use Rattle.discrete_events.proofs.Lists.{in_left, in_right, in_append, in_map, from_map, in_flat_map, from_flat_map, any_of, from_any}
use Rattle.discrete_events.proofs.Keys.{IsUpTo, upto_itself, upto_trans, not_less_upto, lt_upto}
use Rattle.discrete_events.proofs.Queues.{get_kept, get_is_in, in_get}

-- ---- the least of a list

abbrev Least : {X : Type 0} → Key × Event X → List (Key × Event X) → Type 0
Least {X} e es = IsIn e es × ((f : Key × Event X) → IsIn f es → IsUpTo e.0 f.0)

module _ {X : Type 0} where
  pub least_none : (es : List (Key × Event X)) (f : Key × Event X) → least es ≡ None → IsIn f es → ⊥
  least_none [] f e is = is
  least_none (x ∷ es) f e is = cc

  with_head : (x : Key × Event X) (es : List (Key × Event X)) (o : Option (Key × Event X)) → least es ≡ o → ((e : Key × Event X) → least es ≡ Some e → Least e es) → Least (lesser x o) (x ∷ es)
  with_head x es None none rest = (inl refl, λ f is. at f is)
    where
      at : (f : Key × Event X) → IsIn f (x ∷ es) → IsUpTo x.0 f.0
      at f (inl e) = subst (λ (g : Key × Event X). IsUpTo x.0 g.0) (sym e) (upto_itself x.0)
      at f (inr is) = absurd (least_none es f none is)
  with_head x es (Some o) some rest = by (is_lt (key_cmp o.0 x.0)) refl
    where
      of_rest : Least o es
      of_rest = rest o some

      by : (b : Bool) → is_lt (key_cmp o.0 x.0) ≡ b → Least (cond b o x) (x ∷ es)
      by true is = (inr of_rest.0, λ f m. at f m)
        where
          at : (f : Key × Event X) → IsIn f (x ∷ es) → IsUpTo o.0 f.0
          at f (inl e) = subst (λ (g : Key × Event X). IsUpTo o.0 g.0) (sym e) (lt_upto o.0 x.0 is)
          at f (inr m) = of_rest.1 f m
      by false is = (inl refl, λ f m. at f m)
        where
          at : (f : Key × Event X) → IsIn f (x ∷ es) → IsUpTo x.0 f.0
          at f (inl e) = subst (λ (g : Key × Event X). IsUpTo x.0 g.0) (sym e) (upto_itself x.0)
          at f (inr m) = upto_trans x.0 o.0 f.0 (not_less_upto o.0 x.0 is) (of_rest.1 f m)

  pub least_is : (es : List (Key × Event X)) (e : Key × Event X) → least es ≡ Some e → Least e es
  least_is [] e is = cc
  least_is (x ∷ es) e is = subst (λ f. Least f (x ∷ es)) found (with_head x es (least es) refl (least_is es))
    where
      found : lesser x (least es) ≡ e
      found = cc

  pub least_in : (es : List (Key × Event X)) (e : Key × Event X) → least es ≡ Some e → IsIn e es
  least_in es e is = (least_is es e is).0

  pub least_upto : (es : List (Key × Event X)) (e f : Key × Event X) → least es ≡ Some e → IsIn f es → IsUpTo e.0 f.0
  least_upto es e f is m = (least_is es e is).1 f m

  pub least_some : (es : List (Key × Event X)) (f : Key × Event X) → IsIn f es → (e : Key × Event X) × (least es ≡ Some e)
  least_some [] f is = absurd is
  least_some (x ∷ es) f is = (lesser x (least es), refl)

-- ---- events, by what they are

-- an event of a node: its next step, or a message that is pending and to it
abbrev pub IsEventOf : {S X : Type 0} → Simulation S X → FinMap key_cmp X → S → Key → Event X → Type 0
IsEventOf sim pending node key Step = (sim.next node ≡ Some key.time) × (key ≡ step_key sim node key.time)
IsEventOf sim pending node key (Arrival message) =
    (key ≡ message.0) × (key.to ≡ sim.number node) × (get pending key ≡ Some message.1)

pub record IsEventBelow {S X : Type 0} (sim : Simulation S X) (until : ℕ) (nodes : List S) (pending : FinMap key_cmp X) (key : Key) (event : Event X) : Type 0 where
  pub node : S
  pub member : IsIn node nodes
  pub counts : counts_below sim until node key.time ≡ true
  pub of_node : IsEventOf sim pending node key event

pub both_true : (a b : Bool) → (a && b) ≡ true → (a ≡ true) × (b ≡ true)
both_true true b e = (refl, e)
both_true false b e = cc

pub true_both : (a b : Bool) → a ≡ true → b ≡ true → (a && b) ≡ true
true_both true b e f = f
true_both false b e f = cc

not_true : (a : Bool) → not a ≡ true → a ≡ false
not_true true e = cc
not_true false e = refl

module _ {S X : Type 0} (sim : Simulation S X) where
  -- ---- what it is that an event counts

  pub counts_time : (until : ℕ) (node : S) (time : ℕ) → counts_below sim until node time ≡ true → time < until
  counts_time until node time e = let h : nat_lt time until ≡ true = (both_true (not (is_spent sim node)) (nat_lt time until) e).1 in grind (arith, nat_tests)

  pub counts_unspent : (until : ℕ) (node : S) (time : ℕ) → counts_below sim until node time ≡ true → sim.handled node ≢ sim.event_limit
  counts_unspent until node time e =
      let h : (sim.handled node == sim.event_limit) ≡ false = not_true _ (both_true (not (is_spent sim node)) (nat_lt time until) e).0 in
      λ same. grind (arith, nat_tests)

  pub counts_for : (until : ℕ) (node : S) (time : ℕ) → sim.handled node ≢ sim.event_limit → time < until → counts_below sim until node time ≡ true
  counts_for until node time n h = true_both (not (is_spent sim node)) (nat_lt time until) unspent (lt-ltb time until h)
    where
      unspent : not (sim.handled node == sim.event_limit) ≡ true
      unspent = by (sim.handled node == sim.event_limit) refl
        where
          by : (b : Bool) → (sim.handled node == sim.event_limit) ≡ b → not b ≡ true
          by true is = absurd (n (eqb-true _ _ is))
          by false is = refl

  -- ---- an event of the list is one of these, and they are events of the list

  module _ (until : ℕ) (nodes : List S) (pending : FinMap key_cmp X) where
    abbrev arrivals : List (Key × Event X)
    arrivals = map arrival (entries (retain_keys pending (reaches_below sim until nodes)))

    from_step : (node : S) → IsIn node nodes → (key : Key) (event : Event X) → (next : Option ℕ) → sim.next node ≡ next → IsIn (key, event) (step_at sim until node next) → IsEventBelow sim until nodes pending key event
    from_step node member key event None e is = absurd is
    from_step node member key event (Some time) e is = by (counts_below sim until node time) refl is
      where
        it : counts_below sim until node time ≡ true → IsEventBelow sim until nodes pending (step_key sim node time) Step
        it c = record { node = node; member = member; counts = c; of_node = (e, refl) }

        by : (b : Bool) → counts_below sim until node time ≡ b → IsIn {A = Key × Event X} (key, event) (cond b ((step_key sim node time, Step) ∷ []) []) → IsEventBelow sim until nodes pending key event
        by false c h = absurd h
        by true c (inr h) = absurd h
        by true c (inl h) = subst (λ (f : Key × Event X). IsEventBelow sim until nodes pending f.0 f.1) (sym h) (it c)

    from_arrival : (message : Message X) → IsIn message (entries (retain_keys pending (reaches_below sim until nodes))) → IsEventBelow sim until nodes pending message.0 (Arrival message)
    from_arrival message is = by (reaches_below sim until nodes message.0) refl (sym (get_kept pending (reaches_below sim until nodes) message.0) ∙ in_get _ message is)
      where
        by : (b : Bool) → reaches_below sim until nodes message.0 ≡ b → cond b (get pending message.0) None ≡ Some message.1 → IsEventBelow sim until nodes pending message.0 (Arrival message)
        by false c h = cc
        by true c h =
            let who = from_any _ nodes c in
            let both = both_true (sim.number who.0 == message.0.to) (counts_below sim until who.0 message.0.time) who.2 in
            record { node = who.0; member = who.1; counts = both.1; of_node = (refl, sym (eqb-true _ _ both.0), h) }

    pub event_is : (key : Key) (event : Event X) → IsIn (key, event) (events_below sim until nodes pending) → IsEventBelow sim until nodes pending key event
    event_is key event is = either (in_append (key, event) (flat_map (steps_below sim until) nodes) arrivals is)
      where
        either : IsIn (key, event) (flat_map (steps_below sim until) nodes) ⊎ IsIn (key, event) arrivals → IsEventBelow sim until nodes pending key event
        either (inl h) = let r = from_flat_map (steps_below sim until) (key, event) nodes h in from_step r.0 r.1 key event (sim.next r.0) refl r.2
        either (inr h) =
            let r = from_map arrival (key, event) (entries (retain_keys pending (reaches_below sim until nodes))) h in
            subst (λ (f : Key × Event X). IsEventBelow sim until nodes pending f.0 f.1) (sym r.2) (from_arrival r.0 r.1)

    step_in : (key : Key) → IsEventBelow sim until nodes pending key Step → IsIn (key, Step) (events_below sim until nodes pending)
    step_in key is = in_left (key, Step) (flat_map (steps_below sim until) nodes) arrivals
        (in_flat_map (steps_below sim until) (key, Step) is.node nodes is.member
        (subst (λ (next : Option ℕ). IsIn (key, Step) (step_at sim until is.node next)) (sym is.of_node.0)
        (subst (λ (b : Bool). IsIn {A = Key × Event X} (key, Step) (cond b ((step_key sim is.node key.time, Step) ∷ []) [])) (sym is.counts)
        (inl (λ i. (is.of_node.1 i, Step))))))

    arrival_in : (key : Key) (message : Message X) → IsEventBelow sim until nodes pending key (Arrival message) → IsIn (key, Arrival message) (events_below sim until nodes pending)
    arrival_in key message is =
        let reaches : reaches_below sim until nodes key ≡ true = any_of _ is.node nodes is.member (true_both (sim.number is.node == key.to) (counts_below sim until is.node key.time) (eq-eqb _ _ (sym is.of_node.1)) is.counts) in
        let there : get (retain_keys pending (reaches_below sim until nodes)) key ≡ Some message.1 =
        get_kept pending (reaches_below sim until nodes) key ∙ ap (λ b. cond b (get pending key) None) reaches ∙ is.of_node.2 in
        let entry = get_is_in _ key message.1 there in
        in_right (key, Arrival message) (flat_map (steps_below sim until) nodes) arrivals
        (subst (λ (m : Key × Event X). IsIn m arrivals) (λ i. (key, Arrival (is.of_node.0 i, message.1))) (in_map arrival (key, message.1) (entries (retain_keys pending (reaches_below sim until nodes))) entry))

    pub event_in : (key : Key) (event : Event X) → IsEventBelow sim until nodes pending key event → IsIn (key, event) (events_below sim until nodes pending)
    event_in key Step is = step_in key is
    event_in key (Arrival message) is = arrival_in key message is

  -- an event names its node
  pub event_to : (pending : FinMap key_cmp X) (node : S) (key : Key) (event : Event X) → IsEventOf sim pending node key event → key.to ≡ sim.number node
  event_to pending node key Step is = ap (λ (k : Key). k.to) is.1
  event_to pending node key (Arrival message) is = is.1
