-- What a node and its messages keep through the events of a run, and what it sends.
use Rattle.std.proofs.Common.{◌≡◌, ℕ, ◌+◌, ◌<◌, ◌≤◌, ◌⊎◌, inl, inr, Bool, true, false, cond, not, ◌==◌, List, [], ◌∷◌, ◌++◌, length, map, Some, eqb-true, refl, ap, sym, ◌∙◌, subst, arith}
use Rattle.std.specs.List.{filter, AllByRecursion}
use Rattle.std.specs.FinMap.{get, remove}
use Rattle.wt_params.specs.declared.parts.MachineParts.{MachineParts}
use Rattle.wt_proto.specs.declared.key.Key.{Key}
use Rattle.wt_proto.specs.declared.message.Msg.{Msg}
use Rattle.wt_proto.specs.declared.message.Stamped.{Stamped}
use Rattle.discrete_events.specs.Simulation.{Event, Step, Arrival, Message}
use Rattle.discrete_events.specs.World.{events_below, least}
use Rattle.discrete_events.specs.Serial.{placed, taken}
use Rattle.discrete_events.specs.Laws.{IsIn, IsSent, Reacts, IsStation}
use Rattle.discrete_events.proofs.Lists.{from_filter}
use Rattle.discrete_events.proofs.Queues.{Queue}
use Rattle.discrete_events.proofs.Events.{counts_time, least_in}
use Rattle.discrete_events.proofs.Stations.{get_removed, from_placed}
use Rattle.discrete_events.proofs.FreeRuns.{counts_and_is}
use Rattle.node.specs.declared.state.NodeState.{NodeState}
use Rattle.node.specs.Laws.{Fits, IsDueAt, AreNumbered, IsCounted, IsWindTunnel}
use Rattle.node.specs.React.{react, message_under_key, wind_tunnel}
use Rattle.node.specs.Sound.{IsNode}
use Rattle.node.specs.State.{next_key}
use Rattle.wt_proto.specs.Messages.{key_of}
use Rattle.node.proofs.EventKept.{machines_are_simulations}
use Rattle.quantum.specs.FreeRuns.{RiseWithin}
use Rattle.event_queue.specs.Rising.{IsRising}
use Rattle.quantum.specs.declared.site.Site.{Site}
use Rattle.quantum.specs.declared.site.Turn.{Turn}
use Rattle.quantum.specs.declared.site.Turn.TheVariants as turns
use Rattle.quantum.specs.Sites.{IsSite, IsFirst, IsTurn, Handles, least_below, own_of, others_of}
use Rattle.quantum.specs.Stations.{IsPast, pending_of}
use Rattle.quantum.proofs.Pending.{pending-rest}
use Rattle.quantum.proofs.Way.{own_due, own_reacts, own_next}

-- a node and the messages that wait for it, within a run up to a time
pub record IsAt (machine : MachineParts) (until : ℕ) (state : NodeState) (pending : Queue Msg) : Type 0 where
  pub sound : IsStation (wind_tunnel machine) (IsNode machine) (Fits machine) state pending
  pub own : (key : Key) (msg : Msg) → get pending key ≡ Some msg → key.to ≡ state.number
  pub ran : IsPast until state.last

-- ---- lists of messages

pub rise_from : (low least end : ℕ) (messages : List Stamped) → low ≤ least → RiseWithin least end messages → RiseWithin low end messages
rise_from low least end [] lower rise = tt
rise_from low least end (message ∷ messages) lower rise = (let a = rise.0 in omega arith, rise.1, rise.2)

pub rise_on : (least middle end : ℕ) (xs ys : List Stamped) → least ≤ middle → middle ≤ end → RiseWithin least middle xs → RiseWithin middle end ys → RiseWithin least end (xs ++ ys)
rise_on least middle end [] ys lower upper one other = rise_from least middle end ys lower other
rise_on least middle end (x ∷ xs) ys lower upper one other =
    (one.0, let b = one.1 in omega arith, rise_on (x.sequence + 1) middle end xs ys (let b = one.1 in omega arith) upper one.2 other)

others_rise : (number sequence end : ℕ) (sends : List Stamped) → AreNumbered sequence sends → sequence + length sends ≤ end → RiseWithin sequence end (others_of number sends)
others_rise number sequence end [] numbered most = tt
others_rise number sequence end (send ∷ sends) numbered most =
    by (not (send.to == number)) (others_rise number (sequence + 1) end sends numbered.1 (omega arith))
  where
    by : (b : Bool) → RiseWithin (sequence + 1) end (others_of number sends) → RiseWithin sequence end (cond b (send ∷ others_of number sends) (others_of number sends))
    by true rest = (let e = numbered.0 in omega arith, let e = numbered.0 in omega arith, rise_from (send.sequence + 1) (sequence + 1) end (others_of number sends) (let e = numbered.0 in omega arith) rest)
    by false rest = rise_from sequence (sequence + 1) end (others_of number sends) (omega arith) rest

pub others_are : (number : ℕ) (sends : List Stamped) → map message_under_key (others_of number sends) ≡ filter (λ (m : Message Msg). not (m.0.to == number)) (map message_under_key sends)
others_are number [] = refl
others_are number (send ∷ sends) = by (others_are number sends) (not (send.to == number))
  where
    by : map message_under_key (others_of number sends) ≡ filter (λ (m : Message Msg). not (m.0.to == number)) (map message_under_key sends) → (b : Bool) → map message_under_key (cond b (send ∷ others_of number sends) (others_of number sends)) ≡ cond b (message_under_key send ∷ filter (λ (m : Message Msg). not (m.0.to == number)) (map message_under_key sends)) (filter (λ (m : Message Msg). not (m.0.to == number)) (map message_under_key sends))
    by rest true = ap (λ ms. message_under_key send ∷ ms) rest
    by rest false = rest

sources : (sim_number : ℕ) (machine : MachineParts) (state : NodeState) (key : Key) (sends : List Stamped) → sim_number ≡ state.number → AllByRecursion (IsSent (wind_tunnel machine) (Fits machine) state key) (map message_under_key sends) →
    AllByRecursion (λ (message : Stamped). message.from ≡ sim_number) sends
sources number machine state key [] same sent = tt
sources number machine state key (send ∷ sends) same sent = (sent.0.source ∙ sym same, sources number machine state key sends same sent.1)

-- ---- an event of a run

module _ (machine : MachineParts) (until : ℕ) (within : until ≤ machine.budget) (state : NodeState) (pending : Queue Msg) (key : Key) (event : Event Msg)
    (is_least : least (events_below (wind_tunnel machine) until (state ∷ []) pending) ≡ Some (key, event)) (at : IsAt machine until state pending) where
  abbrev sim_laws : IsWindTunnel machine
  sim_laws = machines_are_simulations machine at.sound.sound.numbers

  abbrev new : NodeState
  new = (react machine state event).0

  abbrev sends : List Stamped
  sends = (react machine state event).1

  pub event_due : IsDueAt machine state key event
  event_due = own_due (wind_tunnel machine) (IsNode machine) (Fits machine) sim_laws.laws until within state pending key event is_least at.sound

  pub event_reacts : Reacts (wind_tunnel machine) (IsNode machine) (Fits machine) state key new (map message_under_key sends)
  event_reacts = own_reacts (wind_tunnel machine) (IsNode machine) (Fits machine) sim_laws.laws until within state pending key event is_least at.sound

  pub event_counted : IsCounted machine state key event
  event_counted = sim_laws.counts state key event at.sound.sound event_due

  -- what is left once the event is taken was there before
  pub left : (q : Key) (msg : Msg) → get (taken event pending) q ≡ Some msg → get pending q ≡ Some msg
  left q msg there = by event there
    where
      by : (e : Event Msg) → get (taken e pending) q ≡ Some msg → get pending q ≡ Some msg
      by Step h = h
      by (Arrival message) h = (get_removed pending message.0 q msg h).0

  -- what it sends may be handed out
  pub own_below : (q : Key) (msg : Msg) → get (taken event pending) q ≡ Some msg → q.from ≡ new.number → q.sequence < state.counters.sent
  own_below q msg there from = at.sound.numbered q msg (left q msg there) (from ∙ event_reacts.number)

  pub own_sources : AllByRecursion (λ (message : Stamped). message.from ≡ new.number) sends
  own_sources = sources new.number machine state key sends event_reacts.number event_reacts.sent

  -- the node after it, with what it sends to itself
  pub next_at : IsAt machine until new (placed (taken event pending) (own_of state.number sends))
  next_at = record {
    sound = own_next (wind_tunnel machine) (IsNode machine) (Fits machine) sim_laws.laws until within state pending key event is_least at.sound;
    own = λ q msg there. own_to q msg (from_placed (taken event pending) (own_of state.number sends) q msg there) ∙ sym event_reacts.number;
    ran = subst (IsPast until) (sym event_reacts.last) (counts_time (wind_tunnel machine) until state key.time (counts_and_is (wind_tunnel machine) until state pending key event (least_in _ (key, event) is_least)).0);
  }
    where
      own_to : (q : Key) (msg : Msg) → IsIn (q, msg) (own_of state.number sends) ⊎ (get (taken event pending) q ≡ Some msg) → q.to ≡ state.number
      own_to q msg (inl sent) = eqb-true _ _ (from_filter (λ (m : Message Msg). m.0.to == state.number) (q, msg) (map message_under_key sends) sent).1
      own_to q msg (inr old) = at.own q msg (left q msg old)

  pub others_numbered : RiseWithin state.counters.sent new.counters.sent (others_of state.number sends)
  others_numbered = others_rise state.number state.counters.sent new.counters.sent sends event_counted.numbered (let more = event_counted.sent in omega (arith, more))

-- ---- the events of a site

pub site_at : (until : ℕ) (site : Site) → IsSite until site → IsAt site.node.machine until site.node.state (pending_of site.queue)
site_at until site is = record { sound = is.sound; own = is.own; ran = is.ran }

pub handled_step : (until : ℕ) (before after : Site) (turn : Turn) (sends_before sends_after : List Stamped) (steps_before steps_after : ℕ) → turn ≡ turns.Step → IsTurn until before (Some turn) → IsRising before.queue →
    after.node ≡ record (before.node) { state = (react before.node.machine before.node.state Step).0 } → after.queue ≡ before.queue →
    sends_after ≡ sends_before ++ (react before.node.machine before.node.state Step).1 → steps_after ≡ steps_before → Handles until before after turn sends_before sends_after steps_before steps_after
handled_step until before after turn sends_before sends_after steps_before steps_after is_step is rising node queue sends steps = record {
  key = next_key before.node.machine before.node.state;
  event = Step;
  least = subst (λ t. IsTurn until before (Some t)) is_step is;
  node = node;
  pending = ap pending_of queue;
  rising = subst IsRising (sym queue) rising;
  sends = sends;
  steps = omega (arith, steps);
  stays = λ same. queue;
  arrives = λ same. cc;
}

pub first_is : (until : ℕ) (site : Site) (turn : Turn) (message : Stamped) (rest : List Stamped) → turn ≡ turns.Message → IsTurn until site (Some turn) → site.queue ≡ message ∷ rest → least_below until site ≡ Some (key_of message, Arrival (message_under_key message))
first_is until site turn message rest is_message is queue =
    subst (λ q. IsFirst q (least_below until site)) queue (subst (λ t. IsTurn until site (Some t)) is_message is)

pub first_is_there : (until : ℕ) (site : Site) (turn : Turn) → turn ≡ turns.Message → IsTurn until site (Some turn) → site.queue ≡ [] → ⊥
first_is_there until site turn is_message is queue =
    subst (λ q. IsFirst q (least_below until site)) queue (subst (λ t. IsTurn until site (Some t)) is_message is)

pub handled_message : (until : ℕ) (before after : Site) (turn : Turn) (message : Stamped) (sends_before sends_after : List Stamped) (steps_before steps_after : ℕ) → turn ≡ turns.Message → IsTurn until before (Some turn) →
    IsRising before.queue → before.queue ≡ message ∷ after.queue → IsRising after.queue →
    after.node ≡ record (before.node) { state = (react before.node.machine before.node.state (Arrival (message_under_key message))).0 } →
    sends_after ≡ sends_before ++ (react before.node.machine before.node.state (Arrival (message_under_key message))).1 → steps_after ≡ steps_before + 1 → Handles until before after turn sends_before sends_after steps_before steps_after
handled_message until before after turn message sends_before sends_after steps_before steps_after is_message is rising queue after_rising node sends steps = record {
  key = key_of message;
  event = Arrival (message_under_key message);
  least = first_is until before turn message after.queue is_message is queue;
  node = node;
  pending = pending-rest message after.queue (subst IsRising queue rising) after_rising ∙ ap (λ q. remove (pending_of q) (key_of message)) (sym queue);
  rising = after_rising;
  sends = sends;
  steps = steps;
  stays = λ same. cc;
  arrives = λ same. refl;
}
