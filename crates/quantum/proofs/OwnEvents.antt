-- Which of a node's own events is the least, by what waits and when its next step is.
use Rattle.std.proofs.Common.{◌≡◌, ℕ, suc, ◌<◌, ◌≤◌, inl, eqb-true, eq-eqb, List, [], ◌∷◌, true, false, Option, Some, None, refl, ap, sym, ◌∙◌, subst, arith}
use Rattle.std.specs.FinMap.{get}
use Rattle.wt_proto.specs.declared.key.Key.{Key}
use Rattle.discrete_events.specs.Simulation.{Simulation, Event, Step, Arrival, Message, step_key}
use Rattle.discrete_events.specs.World.{is_spent, counts_below, events_below, least}
use Rattle.discrete_events.specs.Laws.{IsIn, IsSimulation, IsStation}
use Rattle.discrete_events.specs.KeyTimes.{earlier_less, before_step}
use Rattle.discrete_events.proofs.Keys.{IsUpTo, upto_both, less_upto, upto_itself}
use Rattle.discrete_events.proofs.Queues.{Queue}
use Rattle.discrete_events.proofs.Events.{IsEventOf, counts_time, counts_unspent, counts_for, event_in, least_in, least_upto, least_some}
use Rattle.discrete_events.proofs.FreeRuns.{counts_and_is}

module _ {S X : Type 0} (sim : Simulation S X) (until : ℕ) (node : S) (pending : Queue X) where
  abbrev events : List (Key × Event X)
  events = events_below sim until (node ∷ []) pending

  abbrev pub Counts : Key → Event X → Type 0
  Counts key event = (counts_below sim until node key.time ≡ true) × IsEventOf sim pending node key event

  -- where no event counts, there is no least one
  pub no_least : ((key : Key) (event : Event X) → Counts key event → ⊥) → least events ≡ None
  no_least none = by (least events) refl
    where
      by : (o : Option (Key × Event X)) → least events ≡ o → least events ≡ None
      by None is = is
      by (Some e) is = absurd (none e.0 e.1 (counts_and_is sim until node pending e.0 e.1 (least_in events e is)))

  -- an event that counts, before all that count and the only one under its key, is the least
  pub is_the_least : (key : Key) (event : Event X) → Counts key event → ((k : Key) (e : Event X) → Counts k e → IsUpTo key k × (k ≡ key → e ≡ event)) → least events ≡ Some (key, event)
  is_the_least key event counts first = by (least_some events (key, event) member)
    where
      member : IsIn (key, event) events
      member = event_in sim until (node ∷ []) pending key event (record { node = node; member = inl refl; counts = counts.0; of_node = counts.1 })

      by : (e : Key × Event X) × (least events ≡ Some e) → least events ≡ Some (key, event)
      by found =
          let it = first found.0.0 found.0.1 (counts_and_is sim until node pending found.0.0 found.0.1 (least_in events found.0 found.1)) in
          let same : found.0.0 ≡ key = upto_both found.0.0 key (least_upto events found.0 (key, event) found.1 member) it.0 in
          let alike : found.0.1 ≡ event = it.1 same in
          found.1 ∙ (λ i. Some (same i, alike i))

module _ {S X : Type 0} (sim : Simulation S X) (IsSound : S → Type 0) (Fits : Message X → Type 0) (laws : IsSimulation sim IsSound Fits) (until : ℕ) (node : S) (pending : Queue X) (st : IsStation sim IsSound Fits node pending) where
  pub spent_has_none : is_spent sim node ≡ true → least (events_below sim until (node ∷ []) pending) ≡ None
  spent_has_none spent = no_least sim until node pending (λ key event counts. let unspent = counts_unspent sim until node key.time counts.0 in unspent (eqb-true _ _ spent))

  abbrev pub NoneBefore : ℕ → Type 0
  NoneBefore time = (key : Key) (body : X) → get pending key ≡ Some body → key.to ≡ sim.number node → time ≤ key.time

  abbrev pub NoStepBefore : ℕ → Type 0
  NoStepBefore time = (at : ℕ) → sim.next node ≡ Some at → time ≤ at

  pub none_before : NoneBefore until → NoStepBefore until → least (events_below sim until (node ∷ []) pending) ≡ None
  none_before messages steps = no_least sim until node pending none
    where
      none : (key : Key) (event : Event X) → Counts sim until node pending key event → ⊥
      none key Step counts = let t = counts_time sim until node key.time counts.0 in let later = steps key.time counts.1.0 in omega arith
      none key (Arrival message) counts = let t = counts_time sim until node key.time counts.0 in let later = messages key message.1 counts.1.2 counts.1.1 in omega arith

  -- a step that no message comes before
  pub step_is_least : (time : ℕ) → (is_spent sim node ≡ false) → sim.next node ≡ Some time → time < until → NoneBefore (suc time) → least (events_below sim until (node ∷ []) pending) ≡ Some (step_key sim node time, Step)
  step_is_least time unspent next early messages =
      is_the_least sim until node pending (step_key sim node time) Step (counts_for sim until node time (λ same. cc (eq-eqb _ _ same)) early, (next, refl)) first
    where
      first : (k : Key) (e : Event X) → Counts sim until node pending k e → IsUpTo (step_key sim node time) k × (k ≡ step_key sim node time → e ≡ Step)
      first k Step counts =
          let same : time ≡ k.time = cc in
          (subst (IsUpTo (step_key sim node time)) (sym (counts.1.1 ∙ ap (step_key sim node) (sym same))) (upto_itself (step_key sim node time)), λ is. refl)
      first k (Arrival message) counts =
          let later = messages k message.1 counts.1.2 counts.1.1 in
          (less_upto (step_key sim node time) k (earlier_less (step_key sim node time) k (omega arith)), λ is. absurd (let same : k.time ≡ time = ap (λ (q : Key). q.time) is in omega arith))

  -- a message that no other message and no step comes before
  pub message_is_least : (key : Key) (body : X) → (is_spent sim node ≡ false) → get pending key ≡ Some body → key.to ≡ sim.number node → key.time < until →
      ((k : Key) (v : X) → get pending k ≡ Some v → IsUpTo key k) → NoStepBefore key.time → least (events_below sim until (node ∷ []) pending) ≡ Some (key, Arrival (key, body))
  message_is_least key body unspent there to early messages steps =
      is_the_least sim until node pending key (Arrival (key, body)) (counts_for sim until node key.time (λ same. cc (eq-eqb _ _ same)) early, (refl, to, there)) first
    where
      from : key.from < sim.nodes
      from = laws.sourced (key, body) (st.fitting key body there)

      first : (k : Key) (e : Event X) → Counts sim until node pending k e → IsUpTo key k × (k ≡ key → e ≡ Arrival (key, body))
      first k Step counts =
          let less = before_step sim node key k.time (steps k.time counts.1.0) to from in
          (subst (IsUpTo key) (sym counts.1.1) (less_upto key (step_key sim node k.time) less), λ is. absurd (let source : k.from ≡ key.from = ap (λ (q : Key). q.from) is in let of_step : k.from ≡ sim.nodes = ap (λ (q : Key). q.from) counts.1.1 in omega (arith, source, of_step, from)))
      first k (Arrival message) counts =
          (messages k message.1 counts.1.2, λ is. let same : message.0 ≡ key = sym counts.1.0 ∙ is in let alike : message.1 ≡ body = cc (counts.1.2, is, there) in λ i. Arrival (same i, alike i))
