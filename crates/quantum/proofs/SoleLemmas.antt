-- A node that is alone in its machine: each of its events is a step of the serial run.
use Rattle.std.proofs.Common.{◌≡◌, ℕ, suc, ◌+◌, ◌<◌, ◌≤◌, ◌||◌, ◌==◌, Bool, true, false, cond, ◌^◌, List, [], ◌∷◌, ◌++◌, map, min, Option, Some, None, ◌*◌, refl, ap, sym, ◌∙◌, subst, inl, eq-eqb, arith}
use Rattle.std.proofs.lemmas.List.{append-nil}
use Rattle.std.proofs.lemmas.Bool.Decides.{nat_tests}
use Rattle.std.specs.Prelude.{flat_map, nat_le, IfSome}
use Rattle.std.specs.List.{AllByRecursion}
use Rattle.wt_params.specs.declared.parts.MachineParts.{MachineParts}
use Rattle.wt_proto.specs.declared.key.Key.{Key}
use Rattle.wt_proto.specs.declared.message.Msg.{Msg}
use Rattle.wt_proto.specs.declared.message.Stamped.{Stamped}
use Rattle.wt_proto.specs.Messages.{key_of}
use Rattle.event_queue.specs.Rising.{IsRising}
use Rattle.discrete_events.specs.Simulation.{Simulation, Event, Step, Arrival, Message}
use Rattle.discrete_events.specs.World.{World as WorldOf, events_below, events_in, least}
use Rattle.discrete_events.specs.Serial.{placed, taken, node_after, sent_by, serial_step, final}
use Rattle.discrete_events.specs.Laws.{IsAfter, IsSent, IsSimulation, IsWorld, Reacts}
use Rattle.discrete_events.proofs.Keys.{less_time}
use Rattle.discrete_events.proofs.Queues.{Queue}
use Rattle.discrete_events.proofs.Events.{counts_time, event_to, least_in}
use Rattle.discrete_events.proofs.FreeRuns.{counts_and_is}
use Rattle.discrete_events.proofs.SerialRun.{serial-zero, serial-suc, serial_rests, step_of_least, world_stepped, stepped_handled, final_has_none}
use Rattle.discrete_events.proofs.Whole.{joined, serial_run_ends}
use Rattle.node.specs.declared.state.NodeState.{NodeState}
use Rattle.node.specs.Laws.{Fits}
use Rattle.node.specs.React.{react, message_under_key, wind_tunnel}
use Rattle.node.specs.Sound.{IsNode}
use Rattle.node.specs.State.{events_of, next_key}
use Rattle.node.proofs.EventKept.{machines_are_simulations}
use Rattle.quantum.specs.declared.site.Site.{Site}
use Rattle.quantum.specs.declared.site.Turn.{Turn}
use Rattle.quantum.specs.declared.site.Turn.TheVariants as turns
use Rattle.quantum.specs.declared.quanta.Quanta.{Quanta}
use Rattle.quantum.specs.Sole.{HasEnded, IsSole, quanta_after, sole_world}
use Rattle.quantum.specs.Sites.{IsSite, IsFirst, IsTurn, IsLookedAt, Handles, HandsOut, MayHandOut, first_time_of, is_message_of, least_below, own_of, run_up_to}
use Rattle.quantum.specs.Stations.{IsPast, pending_of}
use Rattle.quantum.specs.World.{World}
use Rattle.quantum.proofs.Runs.{event_reacts, site_at}
use Rattle.quantum.proofs.Free.{ATurn, may_hand_out, new_is, queue_is, machine_is, still_a_site, one_event_more}

-- the final world stays the same by a step
module _ {S X : Type 0} (sim : Simulation S X) (IsSound : S → Type 0) (Fitting : Message X → Type 0) (laws : IsSimulation sim IsSound Fitting) (world : WorldOf S X) (ok : IsWorld sim IsSound Fitting world) (key : Key) (event : Event X) (is : least (events_in sim world) ≡ Some (key, event)) where
  pub same_final : final sim (serial_step sim world) ≡ final sim world
  same_final =
      let next = world_stepped sim IsSound Fitting laws world ok key event is in
      sym ((serial_run_ends sim IsSound Fitting laws world ok).reached (final sim (serial_step sim world))
      (joined sim IsSound Fitting laws world (serial_step sim world) (final sim (serial_step sim world))
      (record { steps = 1; run = sym (serial-suc sim 0 world ∙ ap (serial_step sim) (serial-zero sim world)); counted = let one = stepped_handled sim IsSound Fitting laws world ok key event is in omega (arith, one) })
      (serial_run_ends sim IsSound Fitting laws (serial_step sim world) next).counted)
      (final_has_none sim IsSound Fitting laws (serial_step sim world) next))

-- what the only node sends is to itself
all_own : (machine : MachineParts) (node : NodeState) (key : Key) → machine.nodes ≡ 1 → node.number < machine.nodes → (sends : List Stamped) →
    AllByRecursion (IsSent (wind_tunnel machine) (Fits machine) node key) (map message_under_key sends) → own_of node.number sends ≡ map message_under_key sends
all_own machine node key one within [] sent = refl
all_own machine node key one within (send ∷ sends) sent =
    let to = sent.0.fits.to in
    let same : send.to ≡ node.number = omega (arith, to) in
    ap (λ (b : Bool). cond b (message_under_key send ∷ own_of node.number sends) (own_of node.number sends)) (eq-eqb send.to node.number same)
    ∙ ap (λ ms. message_under_key send ∷ ms) (all_own machine node key one within sends sent.1)

abbrev pub world_at : Site → Quanta → World
world_at site quanta = sole_world (run_up_to 0 site) quanta

abbrev pub IsWorldOf : MachineParts → World → Type 0
IsWorldOf machine world = IsWorld (wind_tunnel machine) (IsNode machine) (Fits machine) world

-- so far in a run of a node that is alone
pub record IsRunningAlone (begun now : Site) (first : Option ℕ) (sends : List Stamped) (old quanta : Quanta) : Type 0 where
  pub machine : now.node.machine ≡ begun.node.machine
  pub site : IsSite quanta.kept_end now
  pub rising : IsRising now.queue
  pub none_sent : sends ≡ []
  pub first_is : first ≡ first_time_of now.queue
  pub world : IsWorldOf now.node.machine (world_at now quanta)
  pub end : final (wind_tunnel begun.node.machine) (world_at now quanta) ≡ final (wind_tunnel begun.node.machine) (world_at begun old)
  pub counted : quanta.count + events_of begun.node.state ≤ old.count + events_of now.node.state

pub alone_begins : (site : Site) (first : Option ℕ) (sends : List Stamped) (quanta : Quanta) → IsSole (run_up_to quanta.kept_end site) quanta → IsSite quanta.kept_end site → IsRising site.queue → sends ≡ [] → first ≡ first_time_of site.queue →
    IsRunningAlone site site first sends quanta quanta
alone_begins site first sends quanta alone is rising no_sends first_is = record {
  machine = refl;
  site = is;
  rising = rising;
  none_sent = no_sends;
  first_is = first_is;
  world = alone.world;
  end = refl;
  counted = omega arith;
}

-- ---- an event that is due comes before the budget, and so did the last one

is_past : (machine : MachineParts) (last : Option Key) (key : Key) → IsAfter last key → key.time < machine.budget → IsPast machine.budget last
is_past machine None key after early = tt
is_past machine (Some last) key after early = let t = less_time last key after in omega arith

module _ (site : Site) (quanta : Quanta) (at : IsSite quanta.kept_end site) (world : IsWorldOf site.node.machine (world_at site quanta)) (key : Key) (event : Event Msg) (is : least_below site.node.machine.budget site ≡ Some (key, event)) where
  early : key.time < site.node.machine.budget
  early = counts_time (wind_tunnel site.node.machine) site.node.machine.budget site.node.state key.time (counts_and_is (wind_tunnel site.node.machine) site.node.machine.budget site.node.state (pending_of site.queue) key event (least_in _ (key, event) is)).0

  pub in_budget : IsSite site.node.machine.budget site
  in_budget = record {
    whole = at.whole;
    sound = at.sound;
    own = at.own;
    ran = is_past site.node.machine site.node.state.last key (world.rising site.node.state key event (inl refl) (least_in _ (key, event) is)) early;
  }

-- ---- the quanta that an event begins

module _ (machine : MachineParts) (key : Key) (quanta : Quanta) where
  pub one_more_at_most : (quanta_after machine (Some key) quanta).count ≤ quanta.count + 1
  one_more_at_most = by (nat_le quanta.kept_end key.time)
    where
      by : (b : Bool) → (cond b (record { kept_end = min (key.time + machine.quantum) machine.budget; count = quanta.count + 1 }) quanta).count ≤ quanta.count + 1
      by true = omega arith
      by false = omega arith

  pub is_within : key.time < machine.budget → 1 ≤ machine.quantum → key.time < (quanta_after machine (Some key) quanta).kept_end
  is_within early some = by (nat_le quanta.kept_end key.time) refl
    where
      by : (b : Bool) → nat_le quanta.kept_end key.time ≡ b → key.time < (cond b (record { kept_end = min (key.time + machine.quantum) machine.budget; count = quanta.count + 1 }) quanta).kept_end
      by true e = omega arith
      by false e = grind (arith, nat_tests)

-- ---- one event of the run

module _ (before middle after : Site) (turn : Turn) (sends outs_before outs_after : List Stamped) (steps_before steps_middle steps_after : ℕ) (quanta : Quanta) (one : before.node.machine.nodes ≡ 1)
    (at : IsSite quanta.kept_end before) (world : IsWorldOf before.node.machine (world_at before quanta)) (h : Handles before.node.machine.budget before middle turn [] sends steps_before steps_middle) where
  abbrev machine : MachineParts
  machine = before.node.machine

  abbrev state : NodeState
  state = before.node.state

  abbrev sim : Simulation NodeState Msg
  sim = wind_tunnel machine

  abbrev queue : Queue Msg
  queue = pending_of before.queue

  laws : IsSimulation sim (IsNode machine) (Fits machine)
  laws = (machines_are_simulations machine at.sound.sound.numbers).laws

  here : IsSite machine.budget before
  here = in_budget before quanta at world h.key h.event h.least

  reacts : Reacts sim (IsNode machine) (Fits machine) state h.key (react machine state h.event).0 (map message_under_key (react machine state h.event).1)
  reacts = event_reacts machine machine.budget (omega arith) state queue h.key h.event h.least (site_at machine.budget before here)

  pub alone_hands_out : MayHandOut middle sends
  alone_hands_out = may_hand_out machine.budget before middle turn sends steps_before steps_middle here (omega arith) h

  module _ (o : HandsOut middle after sends outs_before outs_after steps_middle steps_after) where
    now : after.node.state ≡ (react machine state h.event).0
    now = new_is machine.budget before middle turn sends steps_before steps_middle here (omega arith) h after outs_before outs_after steps_after o

    its : (state.number == h.key.to) ≡ true
    its = eq-eqb _ _ (sym (event_to sim queue state h.key h.event (counts_and_is sim machine.budget state queue h.key h.event (least_in _ (h.key, h.event) h.least)).1))

    nodes_are : after.node.state ∷ [] ≡ map (node_after sim h.key h.event) (state ∷ [])
    nodes_are = ap (λ (n : NodeState). n ∷ []) (now ∙ sym (ap (λ (b : Bool). cond b (react machine state h.event).0 state) its))

    sent_are : own_of state.number (react machine state h.event).1 ≡ flat_map (sent_by sim h.key h.event) (state ∷ [])
    sent_are =
        all_own machine state h.key one at.sound.sound.number (react machine state h.event).1 reacts.sent
        ∙ sym (append-nil (map message_under_key (react machine state h.event).1))
        ∙ sym (ap (λ (b : Bool). cond b (map message_under_key (react machine state h.event).1) [] ++ []) its)

    pending_are : pending_of after.queue ≡ placed (taken h.event queue) (flat_map (sent_by sim h.key h.event) (state ∷ []))
    pending_are =
        queue_is machine.budget before middle turn sends steps_before steps_middle here (omega arith) h after outs_before outs_after steps_after o
        ∙ ap (placed (taken h.event queue)) sent_are

    abbrev moved_on : Quanta → World
    moved_on q = record {
      nodes = map (node_after sim h.key h.event) (state ∷ []);
      pending = placed (taken h.event queue) (flat_map (sent_by sim h.key h.event) (state ∷ []));
      kept_end = q.kept_end;
      quanta = q.count;
    }

    abbrev one_quantum_more : Quanta
    one_quantum_more = record { kept_end = min (h.key.time + machine.quantum) machine.budget; count = quanta.count + 1 }

    either : (b : Bool) → moved_on (cond b one_quantum_more quanta) ≡ cond b (moved_on one_quantum_more) (moved_on quanta)
    either true = refl
    either false = refl

    -- an event is a step of the serial run
    pub is_serial_step : world_at after (quanta_after machine (Some h.key) quanta) ≡ serial_step sim (world_at before quanta)
    is_serial_step =
        (λ i. record { nodes = nodes_are i; pending = pending_are i; kept_end = (quanta_after machine (Some h.key) quanta).kept_end; quanta = (quanta_after machine (Some h.key) quanta).count })
        ∙ either (nat_le quanta.kept_end h.key.time)
        ∙ sym (step_of_least sim (world_at before quanta) h.key h.event h.least)

    last_is : after.node.state.last ≡ Some h.key
    last_is = ap (λ (n : NodeState). n.last) now ∙ reacts.last

    same_machine : after.node.machine ≡ machine
    same_machine = machine_is machine.budget before middle turn sends steps_before steps_middle here (omega arith) h after outs_before outs_after steps_after o

    pub alone_is_more : events_of after.node.state ≡ suc (events_of state)
    alone_is_more = one_event_more machine.budget before middle turn sends steps_before steps_middle here (omega arith) h after outs_before outs_after steps_after o

    -- the last event may be counted
    pub is_early : (last : Option Key) → last ≡ after.node.state.last → last ≡ Some h.key
    is_early last is = is ∙ last_is

    pub due_early : h.key.time < machine.budget
    due_early = early before quanta at world h.key h.event h.least

    pub alone_still : IsSite (quanta_after machine (Some h.key) quanta).kept_end after
    alone_still =
        let it = still_a_site machine.budget before middle turn sends steps_before steps_middle here (omega arith) h after outs_before outs_after steps_after o in
        record {
          whole = it.whole;
          sound = it.sound;
          own = it.own;
          ran = subst (IsPast (quanta_after machine (Some h.key) quanta).kept_end) (sym last_is) (is_within machine h.key quanta due_early at.sound.sound.numbers.quantum.at_least);
        }

    pub alone_world : IsWorldOf after.node.machine (world_at after (quanta_after machine (Some h.key) quanta))
    alone_world =
        subst (λ (m : MachineParts). IsWorldOf m (world_at after (quanta_after machine (Some h.key) quanta))) (sym same_machine)
        (subst (IsWorldOf machine) (sym is_serial_step) (world_stepped sim (IsNode machine) (Fits machine) laws (world_at before quanta) world h.key h.event h.least))

    pub alone_end : final sim (world_at after (quanta_after machine (Some h.key) quanta)) ≡ final sim (world_at before quanta)
    alone_end = ap (final sim) is_serial_step ∙ same_final sim (IsNode machine) (Fits machine) laws (world_at before quanta) world h.key h.event h.least

    pub goes_on : (begun_site : Site) (old new : Quanta) (first : Option ℕ) (last : Option Key) (first_now : Option ℕ) (sends_after : List Stamped) → IsRunningAlone begun_site before first [] old quanta → last ≡ after.node.state.last → new ≡ quanta_after after.node.machine last quanta →
        first_now ≡ first_time_of after.queue → sends_after ≡ [] → IsRunningAlone begun_site after first_now sends_after old new
    goes_on begun_site old new first last first_now sends_after so_far last_now new_is_after first_is none =
        subst (λ (q : Quanta). IsRunningAlone begun_site after first_now sends_after old q) (sym (new_is_after ∙ (λ i. quanta_after (same_machine i) (is_early last last_now i) quanta))) (record {
          machine = same_machine ∙ so_far.machine;
          site = alone_still;
          rising = o.rising;
          none_sent = none;
          first_is = first_is;
          world = alone_world;
          end =
              subst (λ (m : MachineParts). final (wind_tunnel m) (world_at after (quanta_after machine (Some h.key) quanta)) ≡ final (wind_tunnel m) (world_at before quanta)) so_far.machine alone_end
              ∙ so_far.end;
          counted = let c = so_far.counted in let more = one_more_at_most machine h.key quanta in let events = alone_is_more in omega (arith, c, more, events);
        })

    -- where the first message may be no other
    pub first_stays : (own : Bool) (first : Option ℕ) → first ≡ first_time_of before.queue → IsLookedAt own middle after steps_middle steps_after → (own || is_message_of turn) ≡ false → first ≡ first_time_of after.queue
    first_stays own first first_is looked not = first_is ∙ ap first_time_of (sym (by own turn looked not h.stays))
      where
        by : (b : Bool) (t : Turn) → IsLookedAt b middle after steps_middle steps_after → (b || is_message_of t) ≡ false → (t ≡ turns.Step → middle.queue ≡ before.queue) → after.queue ≡ before.queue
        by true t k e stays = absurd (let f : true ≡ false = e in cc)
        by false turns.Step k e stays = k ∙ stays refl
        by false turns.Message k e stays = absurd (let f : true ≡ false = e in cc)

-- ---- one turn of the loop

module _ (t : ATurn) (old quanta : Quanta) (alone : IsSole (run_up_to old.kept_end t.begun) old) (is_budget : t.until ≡ t.begun.node.machine.budget) (so_far : IsRunningAlone t.begun t.before t.first t.sends_before old quanta) where
  until_is : t.until ≡ t.before.node.machine.budget
  until_is = is_budget ∙ ap (λ (m : MachineParts). m.budget) (sym so_far.machine)

  one_node : t.before.node.machine.nodes ≡ 1
  one_node = ap (λ (m : MachineParts). m.nodes) so_far.machine ∙ alone.one

  -- where a turn is due
  pub turn_in_budget : (key : Key) (event : Event Msg) → least_below t.until t.before ≡ Some (key, event) → IsSite t.until t.before
  turn_in_budget key event is =
      subst (λ n. IsSite n t.before) (sym until_is) (in_budget t.before quanta so_far.site so_far.world key event (subst (λ n. least_below n t.before ≡ Some (key, event)) until_is is))

  pub due_in_budget : IsTurn t.until t.before (Some t.turn) → IsSite t.until t.before
  due_in_budget is = by t.turn is
    where
      at : (queue : List Stamped) → IsFirst queue (least_below t.until t.before) → IsSite t.until t.before
      at [] none = absurd none
      at (message ∷ messages) first = turn_in_budget (key_of message) (Arrival (message_under_key message)) first

      by : (turn : Turn) → IsTurn t.until t.before (Some turn) → IsSite t.until t.before
      by turns.Step is = turn_in_budget (next_key t.before.node.machine t.before.node.state) Step is
      by turns.Message is = at t.before.queue is

  pub few_so_far : quanta.count < 2 ^ 60
  few_so_far =
      let c = so_far.counted in
      let few = alone.few in
      let most = so_far.site.sound.sound.counts.events in
      let limit = so_far.site.sound.sound.numbers.event_limit.at_most in
      omega arith

  module _ (handled : Handles t.until t.before t.middle t.turn t.sends_before t.sends_middle t.steps_before t.steps_middle) where
    h : Handles t.before.node.machine.budget t.before t.middle t.turn [] t.sends_middle t.steps_before t.steps_middle
    h = subst (λ n. Handles n t.before t.middle t.turn [] t.sends_middle t.steps_before t.steps_middle) until_is
        (subst (λ (s : List Stamped). Handles t.until t.before t.middle t.turn s t.sends_middle t.steps_before t.steps_middle) so_far.none_sent handled)

    pub turn_hands_out_alone : MayHandOut t.middle t.sends_middle
    turn_hands_out_alone = alone_hands_out t.before t.middle t.after t.turn t.sends_middle t.outs_before t.outs_after t.steps_before t.steps_middle t.steps_after quanta one_node so_far.site so_far.world h

    module _ (o : HandsOut t.middle t.after t.sends_middle t.outs_before t.outs_after t.steps_middle t.steps_after) where
      pub turn_is_early : (last : Option Key) → last ≡ t.after.node.state.last → IfSome last (λ key. key.time < 2 ^ 40)
      turn_is_early last is =
          subst (λ (l : Option Key). IfSome l (λ key. key.time < 2 ^ 40)) (sym (is_early t.before t.middle t.after t.turn t.sends_middle t.outs_before t.outs_after t.steps_before t.steps_middle t.steps_after quanta one_node so_far.site so_far.world h o last is))
          (let e = due_early t.before t.middle t.after t.turn t.sends_middle t.outs_before t.outs_after t.steps_before t.steps_middle t.steps_after quanta one_node so_far.site so_far.world h o in let most = so_far.site.sound.sound.numbers.budget.at_most in omega arith)

      pub turn_goes_on : (new : Quanta) (first_now : Option ℕ) (last : Option Key) → last ≡ t.after.node.state.last → new ≡ quanta_after t.after.node.machine last quanta → first_now ≡ first_time_of t.after.queue → t.sends_after ≡ [] →
          IsRunningAlone t.begun t.after first_now t.sends_after old new
      turn_goes_on new first_now last last_now new_now first_is none =
          goes_on t.before t.middle t.after t.turn t.sends_middle t.outs_before t.outs_after t.steps_before t.steps_middle t.steps_after quanta one_node so_far.site so_far.world h o t.begun old new t.first last first_now t.sends_after
          (subst (λ (s : List Stamped). IsRunningAlone t.begun t.before t.first s old quanta) so_far.none_sent so_far) last_now new_now first_is none

      pub turn_is_more_alone : events_of t.after.node.state ≡ suc (events_of t.before.node.state)
      turn_is_more_alone = alone_is_more t.before t.middle t.after t.turn t.sends_middle t.outs_before t.outs_after t.steps_before t.steps_middle t.steps_after quanta one_node so_far.site so_far.world h o

      pub turn_first_stays : IsLookedAt t.own t.middle t.after t.steps_middle t.steps_after → (t.own || is_message_of t.turn) ≡ false → t.first ≡ first_time_of t.after.queue
      turn_first_stays looked not = first_stays t.before t.middle t.after t.turn t.sends_middle t.outs_before t.outs_after t.steps_before t.steps_middle t.steps_after quanta one_node so_far.site so_far.world h o t.own t.first so_far.first_is looked not

-- ---- what it comes to

pub alone_within : (begun now : Site) (first : Option ℕ) (sends : List Stamped) (old quanta : Quanta) → IsRunningAlone begun now first sends old quanta → events_of now.node.state ≤ begun.node.machine.event_limit
alone_within begun now first sends old quanta so_far = subst (λ (m : MachineParts). events_of now.node.state ≤ m.event_limit) so_far.machine so_far.site.sound.sound.counts.events

pub alone_ended : (begun now : Site) (first : Option ℕ) (sends : List Stamped) (old quanta : Quanta) → IsRunningAlone begun now first sends old quanta → least_below begun.node.machine.budget now ≡ None →
    HasEnded (run_up_to old.kept_end begun) (run_up_to quanta.kept_end now) old quanta
alone_ended begun now first sends old quanta so_far none = record {
  end =
      sym (serial_rests (wind_tunnel begun.node.machine) (world_at now quanta) (begun.node.machine.nodes * begun.node.machine.event_limit) (subst (λ (m : MachineParts). least (events_below (wind_tunnel m) begun.node.machine.budget (now.node.state ∷ []) (pending_of now.queue)) ≡ None) so_far.machine none))
      ∙ so_far.end;
  until = refl;
  counted = so_far.counted;
}
