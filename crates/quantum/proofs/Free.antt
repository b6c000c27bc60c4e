-- The run of a site, event by event, and what it comes to.
use Rattle.std.proofs.Common.{◌≡◌, ℕ, suc, ◌+◌, ◌*◌, ◌≤◌, Bool, true, false, not, ◌==◌, ◌||◌, List, [], ◌∷◌, ◌++◌, length, map, Option, None, refl, ap, sym, ◌∙◌, subst, arith}
use Rattle.std.proofs.lemmas.List.{map-append, length-append}
use Rattle.std.proofs.lemmas.List.Filters.{length-filter_both}
use Rattle.std.specs.List.{filter, AllByRecursion}
use Rattle.std.specs.FinMap.{get}
use Rattle.discrete_events.specs.World.{events_below, least}
use Rattle.node.proofs.EventKept.{machines_are_simulations}
use Rattle.quantum.specs.declared.site.Turn.TheVariants as turns
use Rattle.wt_params.specs.declared.parts.MachineParts.{MachineParts}
use Rattle.wt_proto.specs.declared.message.Msg.{Msg}
use Rattle.wt_proto.specs.declared.message.Stamped.{Stamped}
use Rattle.event_queue.specs.Rising.{IsRising}
use Rattle.discrete_events.specs.Simulation.{Message}
use Rattle.discrete_events.specs.Serial.{placed, taken}
use Rattle.discrete_events.specs.Round.{FreeRun, local}
use Rattle.discrete_events.proofs.Queues.{Queue}
use Rattle.node.specs.declared.state.NodeState.{NodeState}
use Rattle.node.specs.Laws.{Fits, NodeModel, AreNumbered, arrivals_of}
use Rattle.node.specs.React.{react, message_under_key, wind_tunnel}
use Rattle.node.specs.Sound.{IsNode}
use Rattle.node.specs.State.{events_of}
use Rattle.quantum.specs.declared.site.Site.{Site}
use Rattle.quantum.specs.declared.site.Turn.{Turn}
use Rattle.quantum.specs.FreeRuns.{RiseWithin, IsFree, IsHandedOut, run_to_of}
use Rattle.quantum.specs.Sites.{IsSite, Handles, HandsOut, MayHandOut, IsLookedAt, first_time_of, is_message_of, least_below, own_of, others_of, run_up_to}
use Rattle.quantum.specs.Stations.{pending_of, station_of}
use Rattle.quantum.proofs.Runs.{IsAt, site_at, rise_on, others_are, event_reacts, event_counted, own_below, own_sources, next_at, others_numbered}
use Rattle.quantum.proofs.Way.{IsOnTheWay, at_start, at_the_end, one_more}

not_not : (b : Bool) → not (not b) ≡ b
not_not true = refl
not_not false = refl

-- so far in a run
pub record IsRunning (until : ℕ) (begun now : Site) (first : Option ℕ) (sends outs : List Stamped) (steps_begun steps : ℕ) : Type 0 where
  pub machine : now.node.machine ≡ begun.node.machine
  pub site : IsSite until now
  pub rising : IsRising now.queue
  pub none_sent : sends ≡ []
  pub first_is : first ≡ first_time_of now.queue
  pub way : IsOnTheWay (wind_tunnel begun.node.machine) until begun.node.state (pending_of begun.queue) now.node.state (pending_of now.queue) (map message_under_key outs)
  pub numbered : RiseWithin begun.node.state.counters.sent now.node.state.counters.sent outs
  pub sent : begun.node.state.counters.sent + length outs ≤ now.node.state.counters.sent
  pub handled : begun.node.state.counters.messages ≤ now.node.state.counters.messages
  pub free : steps + 2 * length outs + 3 * begun.node.state.counters.messages + 2 * begun.node.state.counters.sent
      ≤ steps_begun + 1 + 3 * now.node.state.counters.messages + 2 * now.node.state.counters.sent

pub run_begins : (until : ℕ) (site : Site) (first : Option ℕ) (sends outs : List Stamped) (steps_begun steps : ℕ) → IsSite until site → IsRising site.queue → sends ≡ [] → outs ≡ [] → first ≡ first_time_of site.queue → steps ≡ steps_begun + 1 →
    IsRunning until site site first sends outs steps_begun steps
run_begins until site first sends outs steps_begun steps is rising no_sends no_outs first_is more = record {
  machine = refl;
  site = is;
  rising = rising;
  none_sent = no_sends;
  first_is = first_is;
  way = subst (λ (os : List Stamped). IsOnTheWay (wind_tunnel site.node.machine) until site.node.state (pending_of site.queue) site.node.state (pending_of site.queue) (map message_under_key os)) (sym no_outs) (at_start (wind_tunnel site.node.machine) until site.node.state (pending_of site.queue));
  numbered = subst (RiseWithin site.node.state.counters.sent site.node.state.counters.sent) (sym no_outs) tt;
  sent = let none = ap length no_outs in omega (arith, none);
  handled = omega arith;
  free = let none = ap length no_outs in omega (arith, none, more);
}

-- ---- one event of it

module _ (until : ℕ) (before middle : Site) (turn : Turn) (sends : List Stamped) (steps_before steps_middle : ℕ) (is : IsSite until before) (within : until ≤ before.node.machine.budget)
    (h : Handles until before middle turn [] sends steps_before steps_middle) where
  abbrev machine : MachineParts
  machine = before.node.machine

  abbrev state : NodeState
  state = before.node.state

  abbrev queue : Queue Msg
  queue = pending_of before.queue

  at : IsAt machine until state queue
  at = site_at until before is

  state_is : middle.node.state ≡ (react machine state h.event).0
  state_is = ap (λ (n : NodeModel). n.state) h.node

  -- what it sends may be handed out
  pub may_hand_out : MayHandOut middle sends
  may_hand_out = record {
    sequence = state.counters.sent;
    numbered = subst (AreNumbered state.counters.sent) (sym h.sends) (event_counted machine until within state queue h.key h.event h.least at).numbered;
    source = subst (AllByRecursion (λ (m : Stamped). m.from ≡ middle.node.state.number)) (sym h.sends)
        (subst (λ (s : NodeState). AllByRecursion (λ (m : Stamped). m.from ≡ s.number) (react machine state h.event).1) (sym state_is) (own_sources machine until within state queue h.key h.event h.least at));
    below = λ key msg there from. own_below machine until within state queue h.key h.event h.least at key msg (ap (λ (map : Queue Msg). get map key) (sym h.pending) ∙ there) (from ∙ ap (λ (s : NodeState). s.number) state_is);
    rising = h.rising;
  }

  module _ (after : Site) (outs_before outs_after : List Stamped) (steps_after : ℕ) (o : HandsOut middle after sends outs_before outs_after steps_middle steps_after) where
    pub new_is : after.node.state ≡ (react machine state h.event).0
    new_is = ap (λ (n : NodeModel). n.state) o.node ∙ state_is

    number_is : middle.node.state.number ≡ state.number
    number_is = ap (λ (s : NodeState). s.number) state_is ∙ (event_reacts machine until within state queue h.key h.event h.least at).number

    pub machine_is : after.node.machine ≡ machine
    machine_is = ap (λ (n : NodeModel). n.machine) (o.node ∙ h.node)

    pub queue_is : pending_of after.queue ≡ placed (taken h.event queue) (own_of state.number (react machine state h.event).1)
    queue_is = o.pending ∙ (λ i. placed (h.pending i) (own_of (number_is i) (h.sends i)))

    outs_are : outs_after ≡ outs_before ++ others_of state.number (react machine state h.event).1
    outs_are = o.outs ∙ (λ i. outs_before ++ others_of (number_is i) (h.sends i))

    at_after : IsAt machine until after.node.state (pending_of after.queue)
    at_after =
        subst (λ (s : NodeState). IsAt machine until s (pending_of after.queue)) (sym new_is)
        (subst (IsAt machine until (react machine state h.event).0) (sym queue_is) (next_at machine until within state queue h.key h.event h.least at))

    pub still_a_site : IsSite until after
    still_a_site =
        let it = subst (λ (m : MachineParts). IsAt m until after.node.state (pending_of after.queue)) (sym machine_is) at_after in
        record { whole = ap (λ (n : NodeModel). n.broken) (o.node ∙ h.node) ∙ is.whole; sound = it.sound; own = it.own; ran = it.ran }

    pub one_event_more : events_of after.node.state ≡ suc (events_of state)
    one_event_more = ap events_of new_is ∙ (event_reacts machine until within state queue h.key h.event h.least at).handled

    sent_more : after.node.state.counters.sent ≡ state.counters.sent + length sends
    sent_more = ap (λ (s : NodeState). s.counters.sent) new_is ∙ (event_counted machine until within state queue h.key h.event h.least at).sent ∙ ap (λ (ms : List Stamped). state.counters.sent + length ms) (sym h.sends)

    messages_more : after.node.state.counters.messages ≡ state.counters.messages + arrivals_of h.event
    messages_more = ap (λ (s : NodeState). s.counters.messages) new_is ∙ (event_counted machine until within state queue h.key h.event h.least at).messages

    outs_fewer : length (others_of state.number (react machine state h.event).1) ≤ length sends
    outs_fewer = let all = length-filter_both (λ (m : Stamped). not (m.to == state.number)) (λ (m : Stamped). m.to == state.number) (λ m. sym (not_not (m.to == state.number))) (react machine state h.event).1 in let same = ap length h.sends in omega (arith, all, same)

    outs_more : length outs_after ≤ length outs_before + length sends
    outs_more = let longer = ap length outs_are ∙ length-append outs_before (others_of state.number (react machine state h.event).1) in let fewer = outs_fewer in omega (arith, longer)

    outs_kept : length outs_before ≤ length outs_after
    outs_kept = let longer = ap length outs_are ∙ length-append outs_before (others_of state.number (react machine state h.event).1) in omega (arith, longer)

    module _ (begun : Site) (first_before : Option ℕ) (steps_begun : ℕ) (so_far : IsRunning until begun before first_before [] outs_before steps_begun steps_before) where
      -- the run so far, but for where it looks next
      goes_on_with : (first : Option ℕ) (steps : ℕ) → first ≡ first_time_of after.queue →
          steps + 2 * length outs_after + 3 * begun.node.state.counters.messages + 2 * begun.node.state.counters.sent ≤ steps_begun + 1 + 3 * after.node.state.counters.messages + 2 * after.node.state.counters.sent →
          IsRunning until begun after first [] outs_after steps_begun steps
      goes_on_with first steps first_is free = record {
        machine = machine_is ∙ so_far.machine;
        site = still_a_site;
        rising = o.rising;
        none_sent = refl;
        first_is = first_is;
        way = subst (λ (os : List (Message Msg)). IsOnTheWay (wind_tunnel begun.node.machine) until begun.node.state (pending_of begun.queue) after.node.state (pending_of after.queue) os) (sym outs_as_messages)
            (as_begun (one_more (wind_tunnel machine) (IsNode machine) (Fits machine) (machines_are_simulations machine at.sound.sound.numbers).laws until within state queue h.key h.event h.least at.sound begun.node.state (pending_of begun.queue) (map message_under_key outs_before)
            (subst (λ (m : MachineParts). IsOnTheWay (wind_tunnel m) until begun.node.state (pending_of begun.queue) state queue (map message_under_key outs_before)) (sym so_far.machine) so_far.way)));
        numbered = subst (RiseWithin begun.node.state.counters.sent after.node.state.counters.sent) (sym outs_are)
            (rise_on begun.node.state.counters.sent state.counters.sent after.node.state.counters.sent outs_before (others_of state.number (react machine state h.event).1)
            (let s = so_far.sent in omega arith) (let s = sent_more in omega arith) so_far.numbered
            (subst (λ (s : NodeState). RiseWithin state.counters.sent s.counters.sent (others_of state.number (react machine state h.event).1)) (sym new_is) (others_numbered machine until within state queue h.key h.event h.least at)));
        sent = let s = so_far.sent in let more = sent_more in let outs = outs_more in omega arith;
        handled = let s = so_far.handled in let more = messages_more in omega arith;
        free = free;
      }
        where
          outs_as_messages : map message_under_key outs_after ≡ map message_under_key outs_before ++ filter (λ (m : Message Msg). not (m.0.to == state.number)) (map message_under_key (react machine state h.event).1)
          outs_as_messages =
              ap (map message_under_key) outs_are ∙ map-append message_under_key outs_before (others_of state.number (react machine state h.event).1)
              ∙ ap (λ ms. map message_under_key outs_before ++ ms) (others_are state.number (react machine state h.event).1)

          all_outs : List (Message Msg)
          all_outs = map message_under_key outs_before ++ filter (λ (m : Message Msg). not (m.0.to == state.number)) (map message_under_key (react machine state h.event).1)

          as_begun : IsOnTheWay (wind_tunnel machine) until begun.node.state (pending_of begun.queue) (react machine state h.event).0 (placed (taken h.event queue) (own_of state.number (react machine state h.event).1)) all_outs →
              IsOnTheWay (wind_tunnel begun.node.machine) until begun.node.state (pending_of begun.queue) after.node.state (pending_of after.queue) all_outs
          as_begun way =
              subst (λ (m : MachineParts). IsOnTheWay (wind_tunnel m) until begun.node.state (pending_of begun.queue) after.node.state (pending_of after.queue) all_outs) so_far.machine
              (subst (λ (s : NodeState). IsOnTheWay (wind_tunnel machine) until begun.node.state (pending_of begun.queue) s (pending_of after.queue) all_outs) (sym new_is)
              (subst (λ (q : Queue Msg). IsOnTheWay (wind_tunnel machine) until begun.node.state (pending_of begun.queue) (react machine state h.event).0 q all_outs) (sym queue_is) way))

      -- where the queue is looked at again
      pub looks_again : (own : Bool) (first : Option ℕ) (steps : ℕ) → IsLookedAt own middle after steps_middle steps_after → (own || is_message_of turn) ≡ true → first ≡ first_time_of after.queue → steps ≡ steps_after + 1 →
          IsRunning until begun after first [] outs_after steps_begun steps
      looks_again own first steps looked again first_is more = goes_on_with first steps first_is (by own turn looked again h.arrives)
        where
          room : length outs_after + 1 ≤ length outs_before + 2 * arrivals_of h.event + length sends →
              steps + 2 * length outs_after + 3 * begun.node.state.counters.messages + 2 * begun.node.state.counters.sent ≤ steps_begun + 1 + 3 * after.node.state.counters.messages + 2 * after.node.state.counters.sent
          room few = let a = h.steps in let b = o.steps in let c = so_far.free in let m = messages_more in let s = sent_more in omega (arith, more)

          by : (b : Bool) (t : Turn) → IsLookedAt b middle after steps_middle steps_after → (b || is_message_of t) ≡ true → (t ≡ turns.Message → arrivals_of h.event ≡ 1) →
              steps + 2 * length outs_after + 3 * begun.node.state.counters.messages + 2 * begun.node.state.counters.sent ≤ steps_begun + 1 + 3 * after.node.state.counters.messages + 2 * after.node.state.counters.sent
          by true t k e arrives = room (let b = o.steps in omega arith)
          by false turns.Step k e arrives = absurd (let f : false ≡ true = e in cc)
          by false turns.Message k e arrives = room (let one = arrives refl in let fewer = outs_more in omega arith)

      -- where it isn't, the first message is as it was
      pub looks_no_more : (own : Bool) → IsLookedAt own middle after steps_middle steps_after → (own || is_message_of turn) ≡ false → IsRunning until begun after first_before [] outs_after steps_begun steps_after
      looks_no_more own looked not = goes_on_with first_before steps_after (so_far.first_is ∙ ap first_time_of (sym (by own turn looked not h.stays)))
          (let a = h.steps in let b = o.steps in let c = so_far.free in let m = messages_more in let s = sent_more in let f = outs_more in omega arith)
        where
          by : (b : Bool) (t : Turn) → IsLookedAt b middle after steps_middle steps_after → (b || is_message_of t) ≡ false → (t ≡ turns.Step → middle.queue ≡ before.queue) → after.queue ≡ before.queue
          by true t k e stays = absurd (let f : true ≡ false = e in cc)
          by false turns.Step k e stays = k ∙ stays refl
          by false turns.Message k e stays = absurd (let f : true ≡ false = e in cc)

-- ---- what it comes to

module _ (until past : ℕ) (begun now : Site) (first : Option ℕ) (sends outs : List Stamped) (steps_begun steps : ℕ) (so_far : IsRunning until begun now first sends outs steps_begun steps) (none : least_below until now ≡ None) where
  whole_run : local (wind_tunnel begun.node.machine) until begun.node.state (pending_of begun.queue) ≡ record { node = now.node.state; pending = pending_of now.queue; outs = map message_under_key outs }
  whole_run =
      at_the_end (wind_tunnel begun.node.machine) until begun.node.state (pending_of begun.queue) now.node.state (pending_of now.queue) (map message_under_key outs) so_far.way
      (subst (λ (m : MachineParts). least (events_below (wind_tunnel m) until (now.node.state ∷ []) (pending_of now.queue)) ≡ None) so_far.machine none)

  pub it_ran : station_of (run_up_to until now) ≡ (run_to_of until (run_up_to past begun)).0
  it_ran = sym (λ i. record { node = (whole_run i).node; pending = (whole_run i).pending; until = until })

  pub it_handed_out : IsHandedOut until (run_up_to past begun) (run_up_to until now) outs
  it_handed_out = record {
    exactly = sym (ap (λ (run : FreeRun NodeState Msg). run.outs) whole_run);
    numbered = so_far.numbered;
    grown = let s = so_far.sent in omega arith;
    counted = let s = so_far.sent in omega arith;
  }

  pub it_was_free : IsFree steps_begun steps begun.node.state now.node.state outs
  it_was_free = let s = so_far.sent in let h = so_far.handled in let f = so_far.free in omega arith

-- ---- one turn of the loop

-- the sites, lists and counts of a turn, before the event, after it, and once its messages are handed out
pub record ATurn : Type 0 where
  pub until : ℕ
  pub begun : Site
  pub before : Site
  pub middle : Site
  pub after : Site
  pub first : Option ℕ
  pub turn : Turn
  pub sends_before : List Stamped
  pub sends_middle : List Stamped
  pub sends_after : List Stamped
  pub outs_before : List Stamped
  pub outs_after : List Stamped
  pub own : Bool
  pub steps_begun : ℕ
  pub steps_before : ℕ
  pub steps_middle : ℕ
  pub steps_after : ℕ

module _ (t : ATurn) (within : t.until ≤ t.begun.node.machine.budget) (so_far : IsRunning t.until t.begun t.before t.first t.sends_before t.outs_before t.steps_begun t.steps_before)
    (handled : Handles t.until t.before t.middle t.turn t.sends_before t.sends_middle t.steps_before t.steps_middle) where
  here : t.until ≤ t.before.node.machine.budget
  here = subst (λ (m : MachineParts). t.until ≤ m.budget) (sym so_far.machine) within

  from_none : Handles t.until t.before t.middle t.turn [] t.sends_middle t.steps_before t.steps_middle
  from_none = subst (λ (s : List Stamped). Handles t.until t.before t.middle t.turn s t.sends_middle t.steps_before t.steps_middle) so_far.none_sent handled

  with_none : IsRunning t.until t.begun t.before t.first [] t.outs_before t.steps_begun t.steps_before
  with_none = subst (λ (s : List Stamped). IsRunning t.until t.begun t.before t.first s t.outs_before t.steps_begun t.steps_before) so_far.none_sent so_far

  pub turn_hands_out : MayHandOut t.middle t.sends_middle
  turn_hands_out = may_hand_out t.until t.before t.middle t.turn t.sends_middle t.steps_before t.steps_middle so_far.site here from_none

  module _ (handed : HandsOut t.middle t.after t.sends_middle t.outs_before t.outs_after t.steps_middle t.steps_after) (none : t.sends_after ≡ []) where
    pub turn_is_more : events_of t.after.node.state ≡ suc (events_of t.before.node.state)
    turn_is_more = one_event_more t.until t.before t.middle t.turn t.sends_middle t.steps_before t.steps_middle so_far.site here from_none t.after t.outs_before t.outs_after t.steps_after handed

    pub turn_within : events_of t.after.node.state ≤ t.begun.node.machine.event_limit
    turn_within =
        let site = still_a_site t.until t.before t.middle t.turn t.sends_middle t.steps_before t.steps_middle so_far.site here from_none t.after t.outs_before t.outs_after t.steps_after handed in
        subst (λ (m : MachineParts). events_of t.after.node.state ≤ m.event_limit)
        (machine_is t.until t.before t.middle t.turn t.sends_middle t.steps_before t.steps_middle so_far.site here from_none t.after t.outs_before t.outs_after t.steps_after handed ∙ so_far.machine) site.sound.sound.counts.events

    pub turn_again : (first : Option ℕ) (steps : ℕ) → IsLookedAt t.own t.middle t.after t.steps_middle t.steps_after → (t.own || is_message_of t.turn) ≡ true → first ≡ first_time_of t.after.queue → steps ≡ t.steps_after + 1 →
        IsRunning t.until t.begun t.after first t.sends_after t.outs_after t.steps_begun steps
    turn_again first steps looked again first_is more =
        subst (λ (s : List Stamped). IsRunning t.until t.begun t.after first s t.outs_after t.steps_begun steps) (sym none)
        (looks_again t.until t.before t.middle t.turn t.sends_middle t.steps_before t.steps_middle so_far.site here from_none t.after t.outs_before t.outs_after t.steps_after handed t.begun t.first t.steps_begun with_none t.own first steps looked again first_is more)

    pub turn_no_more : IsLookedAt t.own t.middle t.after t.steps_middle t.steps_after → (t.own || is_message_of t.turn) ≡ false →
        IsRunning t.until t.begun t.after t.first t.sends_after t.outs_after t.steps_begun t.steps_after
    turn_no_more looked not =
        subst (λ (s : List Stamped). IsRunning t.until t.begun t.after t.first s t.outs_after t.steps_begun t.steps_after) (sym none)
        (looks_no_more t.until t.before t.middle t.turn t.sends_middle t.steps_before t.steps_middle so_far.site here from_none t.after t.outs_before t.outs_after t.steps_after handed t.begun t.first t.steps_begun with_none t.own looked not)
