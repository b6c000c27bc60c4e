-- The time of a station's least event: when it stands, and with one more message.
use Rattle.std.proofs.Common.{◌≡◌, ℕ, ◌<◌, ◌≤◌, ◌⊎◌, Bool, true, false, cond, eqb-true, eq-eqb, List, [], ◌∷◌, Option, Some, None, append-nil, refl, ap, sym, ◌∙◌, subst, inl, inr, arith}
use Rattle.std.specs.Prelude.{nat_lt, option_map, if◌then◌else◌}
use Rattle.std.proofs.lemmas.Bool.Decides.{nat_tests}
use Rattle.std.specs.Ordering.{eq_by_cmp}
use Rattle.std.specs.FinMap.{get, insert, get-insert}
use Rattle.wt_proto.specs.declared.key.Key.{Key}
use Rattle.wt_proto.specs.declared.message.Stamped.{Stamped}
use Rattle.wt_proto.specs.KeyOrder.{key_cmp}
use Rattle.wt_proto.specs.Messages.{key_of}
use Rattle.wt_proto.proofs.KeyLaws.{key_cmp_total}
use Rattle.event_queue.specs.Rising.{IsRising, insert_of}
use Rattle.discrete_events.specs.Simulation.{Simulation, Event, Step, Arrival}
use Rattle.discrete_events.specs.World.{is_spent, counts_below, events_below, least}
use Rattle.discrete_events.proofs.Keys.{upto_time, is_key, same_key}
use Rattle.discrete_events.proofs.Queues.{Queue}
use Rattle.discrete_events.proofs.Events.{counts_time, counts_unspent, counts_for, event_in, least_in, least_upto, least_some}
use Rattle.discrete_events.proofs.FreeRuns.{counts_and_is}
use Rattle.node.specs.React.{wind_tunnel}
use Rattle.quantum.specs.declared.site.Site.{Site}
use Rattle.quantum.specs.FreeRuns.{AddsOuts, run_to_of}
use Rattle.quantum.specs.Sites.{IsSite, comes_before_of, earlier_of, first_time_of, least_below, least_time_at, least_with_of, run_up_to}
use Rattle.quantum.specs.Stations.{pending_of, station_of}
use Rattle.quantum.proofs.Accepted.{later_site}
use Rattle.quantum.proofs.Free.{IsRunning, run_begins, it_ran, it_handed_out}
use Rattle.quantum.proofs.Pending.{no_key, pending-insert}
use Rattle.quantum.proofs.OwnEvents.{Counts, no_least}

-- the time of the least of a node's events below another time
abbrev pub due_of : {S X : Type 0} → Simulation S X → ℕ → S → Queue X → Option ℕ
due_of sim until node pending = option_map (λ event. event.0.time) (least (events_below sim until (node ∷ []) pending))

pub record IsLeastAt {S X : Type 0} (sim : Simulation S X) (until : ℕ) (node : S) (pending : Queue X) (time : ℕ) : Type 0 where
  pub key : Key
  pub event : Event X
  pub counts : Counts sim until node pending key event
  pub at : key.time ≡ time
  pub first : (k : Key) (e : Event X) → Counts sim until node pending k e → time ≤ k.time

-- what a time that there may be says of the events
abbrev pub IsDueTime : {S X : Type 0} → Simulation S X → ℕ → S → Queue X → Option ℕ → Type 0
IsDueTime {S} {X} sim until node pending None = (k : Key) (e : Event X) → Counts sim until node pending k e → ⊥
IsDueTime {S} {X} sim until node pending (Some time) = IsLeastAt sim until node pending time

module _ {S X : Type 0} (sim : Simulation S X) (until : ℕ) (node : S) (pending : Queue X) where
  pub due_is_due : IsDueTime sim until node pending (due_of sim until node pending)
  due_is_due = by (least (events_below sim until (node ∷ []) pending)) refl
    where
      by : (o : Option (Key × Event X)) → least (events_below sim until (node ∷ []) pending) ≡ o → IsDueTime sim until node pending (option_map (λ event. event.0.time) o)
      by None is = λ k e counts. let found = least_some (events_below sim until (node ∷ []) pending) (k, e) (event_in sim until (node ∷ []) pending k e (record { node = node; member = inl refl; counts = counts.0; of_node = counts.1 })) in cc (is, found.1)
      by (Some found) is = record {
        key = found.0;
        event = found.1;
        counts = counts_and_is sim until node pending found.0 found.1 (least_in _ found is);
        at = refl;
        first = λ k e counts. upto_time found.0 k (least_upto (events_below sim until (node ∷ []) pending) found (k, e) is (event_in sim until (node ∷ []) pending k e (record { node = node; member = inl refl; counts = counts.0; of_node = counts.1 })));
      }

  pub one_due : (a b : Option ℕ) → IsDueTime sim until node pending a → IsDueTime sim until node pending b → a ≡ b
  one_due None None x y = refl
  one_due None (Some b) x y = absurd (x y.key y.event y.counts)
  one_due (Some a) None x y = absurd (y x.key x.event x.counts)
  one_due (Some a) (Some b) x y =
      let one = x.first y.key y.event y.counts in
      let other = y.first x.key x.event x.counts in
      let s = x.at in let t = y.at in
      let same : a ≡ b = omega (arith, one, other, s, t) in ap Some same

  -- where no event is due before a time within, none is below it
  pub none_due : (due : Option ℕ) (early : ℕ) → early ≤ until → due ≡ due_of sim until node pending → comes_before_of due early ≡ false → least (events_below sim early (node ∷ []) pending) ≡ None
  none_due due early within is late = no_least sim early node pending (λ k e counts. by due (subst (IsDueTime sim until node pending) (sym is) due_is_due) late k e counts)
    where
      by : (due : Option ℕ) → IsDueTime sim until node pending due → comes_before_of due early ≡ false → (k : Key) (e : Event X) → Counts sim early node pending k e → ⊥
      by None at late k e counts =
          let time = counts_time sim early node k.time counts.0 in
          at k e (counts_for sim until node k.time (counts_unspent sim early node k.time counts.0) (omega (arith, time, within)), counts.1)
      by (Some due) at late k e counts =
          let time = counts_time sim early node k.time counts.0 in
          let least = at.first k e (counts_for sim until node k.time (counts_unspent sim early node k.time counts.0) (omega (arith, time, within)), counts.1) in
          let after : early ≤ due = grind (arith, nat_tests) in
          omega (arith, time, least, after)

-- ---- one more message

module _ {S X : Type 0} (sim : Simulation S X) (until : ℕ) (node : S) (pending : Queue X) (key : Key) (body : X) (to : key.to ≡ sim.number node) (new : get pending key ≡ None) where
  abbrev more : Queue X
  more = insert pending key body

  there : (q : Key) (v : X) → get more q ≡ Some v → (eq_by_cmp key_cmp q key ≡ false → get pending q ≡ Some v)
  there q v e other = sym (get-insert key_cmp_total pending key body q ∙ ap (λ (b : Bool). cond b (Some body) (get pending q)) other) ∙ e

  kept : (q : Key) (v : X) → get pending q ≡ Some v → get more q ≡ Some v
  kept q v e = by (eq_by_cmp key_cmp q key) refl
    where
      by : (b : Bool) → eq_by_cmp key_cmp q key ≡ b → get more q ≡ Some v
      by true is = absurd (let same : q ≡ key = is_key q key is in let none : get pending q ≡ None = ap (get pending) same ∙ new in cc)
      by false is = get-insert key_cmp_total pending key body q ∙ ap (λ (b : Bool). cond b (Some body) (get pending q)) is ∙ e

  itself : get more key ≡ Some body
  itself = get-insert key_cmp_total pending key body key ∙ ap (λ (b : Bool). cond b (Some body) (get pending key)) (same_key key key refl)

  old_counts : (k : Key) (e : Event X) → Counts sim until node pending k e → Counts sim until node more k e
  old_counts k Step counts = (counts.0, counts.1)
  old_counts k (Arrival message) counts = (counts.0, (counts.1.0, counts.1.1, kept k message.1 counts.1.2))

  -- an event of the larger queue was there before, or is at the new message's time
  abbrev WasOr : Key → Event X → Type 0
  WasOr k e = Counts sim until node pending k e ⊎ (k.time ≡ key.time)

  was : (k : Key) (e : Event X) → Counts sim until node more k e → WasOr k e
  was k Step counts = inl (counts.0, counts.1)
  was k (Arrival message) counts = by (eq_by_cmp key_cmp k key) refl
    where
      by : (b : Bool) → eq_by_cmp key_cmp k key ≡ b → WasOr k (Arrival message)
      by true is = inr (ap (λ (q : Key). q.time) (is_key k key is))
      by false is = inl (counts.0, (counts.1.0, counts.1.1, there k message.1 counts.1.2 is))

  abbrev with_one : Option ℕ → Option ℕ
  with_one due = if is_spent sim node then due else if nat_lt key.time until then Some (earlier_of due key.time) else due

  not_spent : (b : Bool) → is_spent sim node ≡ b → b ≡ false → (time : ℕ) → time < until → counts_below sim until node time ≡ true
  not_spent b is unspent time early = counts_for sim until node time (λ same. cc (eq-eqb _ _ same, is, unspent)) early

  more_none : (k : Key) (e : Event X) → WasOr k e → ((k : Key) (e : Event X) → Counts sim until node pending k e → ⊥) → (k.time ≡ key.time → ⊥) → ⊥
  more_none k e (inl old) none new_one = none k e old
  more_none k e (inr same) none new_one = new_one same

  -- the time of the least event where the new message doesn't count
  without : (due : Option ℕ) → IsDueTime sim until node pending due → ((k : Key) → counts_below sim until node k.time ≡ true → k.time ≡ key.time → ⊥) → IsDueTime sim until node more due
  without None none out = λ k e counts. more_none k e (was k e counts) none (out k counts.0)
  without (Some due) is out = record {
    key = is.key;
    event = is.event;
    counts = old_counts is.key is.event is.counts;
    at = is.at;
    first = λ k e counts. by k e counts (was k e counts);
  }
    where
      by : (k : Key) (e : Event X) → Counts sim until node more k e → WasOr k e → due ≤ k.time
      by k e counts (inl old) = is.first k e old
      by k e counts (inr same) = absurd (out k counts.0 same)

  -- and where it does
  within : (due : Option ℕ) → IsDueTime sim until node pending due → counts_below sim until node key.time ≡ true → IsDueTime sim until node more (Some (earlier_of due key.time))
  within None none counted = record {
    key = key;
    event = Arrival (key, body);
    counts = (counted, (refl, to, itself));
    at = refl;
    first = λ k e counts. by k e (was k e counts);
  }
    where
      by : (k : Key) (e : Event X) → WasOr k e → key.time ≤ k.time
      by k e (inl old) = absurd (none k e old)
      by k e (inr same) = omega (arith, same)
  within (Some due) is counted = by (nat_lt key.time due) refl
    where
      from : (time : ℕ) → time ≤ due → time ≤ key.time → (k : Key) (e : Event X) → WasOr k e → time ≤ k.time
      from time one other k e (inl old) = let f = is.first k e old in omega (arith, f, one)
      from time one other k e (inr same) = omega (arith, same, other)

      by : (b : Bool) → nat_lt key.time due ≡ b → IsLeastAt sim until node more (if b then key.time else due)
      by true e =
          let less : key.time < due = grind (arith, nat_tests) in
          record {
            key = key;
            event = Arrival (key, body);
            counts = (counted, (refl, to, itself));
            at = refl;
            first = λ k v counts. from key.time (omega (arith, less)) (omega arith) k v (was k v counts);
          }
      by false e =
          let less : due ≤ key.time = grind (arith, nat_tests) in
          record {
            key = is.key;
            event = is.event;
            counts = old_counts is.key is.event is.counts;
            at = is.at;
            first = λ k v counts. from due (omega arith) less k v (was k v counts);
          }

  with_is_due : (due : Option ℕ) → IsDueTime sim until node pending due → IsDueTime sim until node more (with_one due)
  with_is_due due is = by (is_spent sim node) refl
    where
      by_time : is_spent sim node ≡ false → (b : Bool) → nat_lt key.time until ≡ b → IsDueTime sim until node more (if b then Some (earlier_of due key.time) else due)
      by_time unspent true e = within due is (not_spent (is_spent sim node) refl unspent key.time (grind (arith, nat_tests)))
      by_time unspent false e =
          without due is (λ k counts same. let early = counts_time sim until node k.time counts in let late : until ≤ key.time = grind (arith, nat_tests) in omega (arith, early, late, same))

      by : (b : Bool) → is_spent sim node ≡ b → IsDueTime sim until node more (if b then due else if nat_lt key.time until then Some (earlier_of due key.time) else due)
      by true spent = without due is (λ k counts same. counts_unspent sim until node k.time counts (eqb-true _ _ spent))
      by false unspent = by_time unspent (nat_lt key.time until) refl

  -- with one more message, the least time is the old one or the message's
  pub due_with : (due : Option ℕ) → due ≡ due_of sim until node pending → with_one due ≡ due_of sim until node more
  due_with due is =
      one_due sim until node more (with_one due) (due_of sim until node more)
      (with_is_due due (subst (IsDueTime sim until node pending) (sym is) (due_is_due sim until node pending))) (due_is_due sim until node more)

-- ---- a site where nothing is due

module _ (until past : ℕ) (site : Site) (due : Option ℕ) (is : IsSite past site) (later : past ≤ until) (within_budget : until ≤ site.node.machine.budget) (rising : IsRising site.queue) (due_is : due ≡ least_time_at site) (idle : comes_before_of due until ≡ false) where
  nothing : least_below until site ≡ None
  nothing = none_due (wind_tunnel site.node.machine) site.node.machine.budget site.node.state (pending_of site.queue) due until within_budget due_is idle

  idle_running : IsRunning until site site (first_time_of site.queue) [] [] 0 1
  idle_running = run_begins until site (first_time_of site.queue) [] [] 0 1 (later_site past until site later is) rising refl refl refl refl

  pub idle_ran : station_of (run_up_to until site) ≡ (run_to_of until (run_up_to past site)).0
  idle_ran = it_ran until past site site (first_time_of site.queue) [] [] 0 1 idle_running nothing

  pub idle_adds : (outs : List Stamped) (steps : ℕ) → AddsOuts until (run_up_to past site) (run_up_to until site) outs outs steps steps
  idle_adds outs steps = record {
    outs = [];
    added = sym (append-nil outs);
    handed = it_handed_out until past site site (first_time_of site.queue) [] [] 0 1 idle_running nothing;
    free = omega arith;
  }

-- ---- a site with one more message

module _ (site : Site) (queue : List Stamped) (message : Stamped) (due : Option ℕ) (rising : IsRising site.queue) (rises : IsRising queue) (is : queue ≡ insert_of message site.queue)
    (to : message.to ≡ site.node.state.number) (new : get (pending_of site.queue) (key_of message) ≡ None) (due_is : due ≡ least_time_at site) where
  pub with_message : least_with_of site due message.time ≡ least_time_at (record { node = site.node; queue = queue })
  with_message =
      due_with (wind_tunnel site.node.machine) site.node.machine.budget site.node.state (pending_of site.queue) (key_of message) message.msg to new due due_is
      ∙ ap (due_of (wind_tunnel site.node.machine) site.node.machine.budget site.node.state) (sym (ap pending_of is ∙ pending-insert message site.queue rising (subst IsRising is rises) (no_key (key_of message) site.queue rising new)))
