-- The least event of a world: the node that handles it, and the nodes and messages after it.
use Rattle.std.proofs.Common.{◌≡◌, ◌≢◌, ℕ, suc, ◌+◌, ◌<◌, ◌≤◌, ◌⊎◌, inl, inr, Bool, true, false, List, [], ◌∷◌, ◌++◌, length, map, Option, Some, None, option_map, refl, ap, sym, ◌∙◌, subst, arith}
use Rattle.std.specs.Prelude.{flat_map, ◌==◌, ◌&&◌, nat_le}
use Rattle.std.proofs.lemmas.Bool.{cases_Bool, eqb-true, eq-eqb, ne_eqb}
use Rattle.std.specs.FinMap.{get, entries}
use Rattle.wt_params.specs.declared.parts.MachineParts.{MachineParts}
use Rattle.wt_params.specs.Machine.{IsMachine, home_of}
use Rattle.wt_network.specs.Stamps.{stamp_of}
use Rattle.wt_proto.specs.declared.key.Key.{Key}
use Rattle.wt_proto.specs.declared.message.Body.{Body}
use Rattle.wt_proto.specs.declared.message.Body.TheVariants.{GetS, GetX, PutS, PutX, DataS, DataX, Inv, InvAck, Wake, Arrive, Leave, Go}
use Rattle.wt_proto.specs.declared.message.Msg.{Msg}
use Rattle.wt_proto.specs.declared.message.Stamped.{Stamped}
use Rattle.wt_proto.specs.declared.mode.Mode.{Mode}
use Rattle.wt_proto.specs.declared.mode.Mode.TheVariants.{Running, Waiting, InBarrier, Stopped}
use Rattle.discrete_events.specs.Simulation.{Simulation, Event, Step, Arrival, Message}
use Rattle.discrete_events.specs.World.{least, events_in}
use Rattle.discrete_events.specs.Serial.{placed, taken, node_after, sent_by, with_quantum, after_least, serial_step}
use Rattle.discrete_events.specs.Laws.{IsIn, IsNumbered, IsStation, IsSimulation, Reacts, IsSent, AreInSequence, IsWorld, IsAfter}
use Rattle.discrete_events.specs.Theorems.{AreNew}
use Rattle.discrete_events.proofs.Lists.{all_in, from_map, in_map, from_filter}
use Rattle.discrete_events.proofs.Keys.{IsUpTo, less_time, less_upto}
use Rattle.discrete_events.specs.KeyTimes.{earlier_less}
use Rattle.discrete_events.proofs.Queues.{Queue}
use Rattle.discrete_events.proofs.Events.{IsEventOf, IsEventBelow, event_is, event_to, least_in}
use Rattle.discrete_events.proofs.Stations.{left_over, from_placed, not_before, due as due_now}
use Rattle.discrete_events.proofs.Numbered.{single_flat, numbered_same}
use Rattle.discrete_events.proofs.NewKeys.{keys_are_new}
use Rattle.node.specs.declared.state.NodeState.{NodeState}
use Rattle.node.specs.State.{step_time, time_of_last, last_time_of}
use Rattle.node.specs.React.{react, message_under_key, wind_tunnel}
use Rattle.node.specs.Laws.{Fits, IsDueAt}
use Rattle.node.specs.Sound.{IsNode}
use Rattle.node.proofs.EventKept.{machines_are_simulations}
use Rattle.coherence.specs.Pipes.{not_to_home_of, not_from_home_of, mark_of, total}
use Rattle.coherence.specs.Lines.{line, goes_from, comes_to, bodies}
use Rattle.coherence.specs.Sends.{GoesRight, LeavesAt, IsRightSend, AreRightSends}
use Rattle.coherence.specs.Worlds.{World, node_in, under_way, IsInTime, AreRight}
use Rattle.coherence.proofs.Sends.{sends_are_right_law}
use Rattle.coherence.proofs.Placed.{RiseAfter, line_placed, line_passed, count_placed, in_line, rises_after, length_none}

-- a world of the machine
abbrev pub IsWorldOf : MachineParts → World → Type 0
IsWorldOf machine world = IsWorld (wind_tunnel machine) (IsNode machine) (Fits machine) world

-- ---- the node of a number

pub in_node : (number : ℕ) (nodes : List NodeState) (node : NodeState) → node_in number nodes ≡ Some node → IsIn node nodes × (node.number ≡ number)
in_node number [] node is = absurd cc
in_node number (first ∷ rest) node is = elim (cases_Bool (first.number == number)) [
  | inl here ↦
      let e : Some first ≡ Some node = rw here at is in
      let same : first ≡ node = cc in
      (inl (sym same), ap (λ (n : NodeState). n.number) (sym same) ∙ eqb-true first.number number here)
  | inr later ↦
      let e : node_in number rest ≡ Some node = rw later at is in
      let r = in_node number rest node e in
      (inr r.0, r.1)
]

pub node_is : (machine : MachineParts) (from : ℕ) (nodes : List NodeState) (node : NodeState) → IsNumbered (wind_tunnel machine) from nodes → IsIn node nodes → node_in node.number nodes ≡ Some node
node_is machine from [] node is member = absurd member
node_is machine from (first ∷ rest) node is member = elim (cases_Bool (first.number == node.number)) [
  | inl here ↦ rw here (ap Some (numbered_same (wind_tunnel machine) from (first ∷ rest) first node is (inl refl) member (eqb-true first.number node.number here)))
  | inr later ↦ rw later (by (λ h. node_is machine (suc from) rest node is.1 h) member later)
]
  where
    by : (IsIn node rest → node_in node.number rest ≡ Some node) → IsIn node (first ∷ rest) → (first.number == node.number) ≡ false → node_in node.number rest ≡ Some node
    by found (inl e) later = absurd (let t : (first.number == node.number) ≡ true = eq-eqb first.number node.number (ap (λ (n : NodeState). n.number) (sym e)) in let f : true ≡ false = sym t ∙ later in cc)
    by found (inr h) later = found h

pub node_in_map : (f : NodeState → NodeState) (number : ℕ) (nodes : List NodeState) → ((node : NodeState) → IsIn node nodes → (f node).number ≡ node.number) → node_in number (map f nodes) ≡ option_map f (node_in number nodes)
node_in_map f number [] same = refl
node_in_map f number (first ∷ rest) same = elim (cases_Bool (first.number == number)) [
  | inl here ↦ let e : ((f first).number == number) ≡ true = ap (λ (n : ℕ). n == number) (same first (inl refl)) ∙ here in rw (e, here) refl
  | inr later ↦ let e : ((f first).number == number) ≡ false = ap (λ (n : ℕ). n == number) (same first (inl refl)) ∙ later in rw (e, later) (node_in_map f number rest (λ node h. same node (inr h)))
]

-- ---- tests of messages

pub three_true : (a b c : Bool) → (a && (b && c)) ≡ true → (a ≡ true) × (b ≡ true) × (c ≡ true)
three_true true true c e = (refl, refl, e)
three_true true false c e = absurd (let f : false ≡ true = e in cc)
three_true false b c e = absurd (let f : false ≡ true = e in cc)

pub two_true : (a b : Bool) → (a && b) ≡ true → (a ≡ true) × (b ≡ true)
two_true true b e = (refl, e)
two_true false b e = absurd (let f : false ≡ true = e in cc)

pub goes_from_is : (block number : ℕ) (message : Key × Msg) → goes_from block number message ≡ true → (message.0.from ≡ number) × (message.1.block ≡ block) × (not_to_home_of message.1.body ≡ 0)
goes_from_is block number message e =
    let t = three_true (message.0.from == number) (message.1.block == block) (not_to_home_of message.1.body == 0) e in
    (eqb-true message.0.from number t.0, eqb-true message.1.block block t.1, eqb-true (not_to_home_of message.1.body) 0 t.2)

pub comes_to_is : (block number : ℕ) (message : Key × Msg) → comes_to block number message ≡ true → (message.0.to ≡ number) × (message.1.block ≡ block) × (not_from_home_of message.1.body ≡ 0)
comes_to_is block number message e =
    let t = three_true (message.0.to == number) (message.1.block == block) (not_from_home_of message.1.body == 0) e in
    (eqb-true message.0.to number t.0, eqb-true message.1.block block t.1, eqb-true (not_from_home_of message.1.body) 0 t.2)

-- who sends what goes to a home, and where what comes from a home is from
module _ (machine : MachineParts) where
  pub to_its_home : (body : Body) (from to block : ℕ) → not_to_home_of body ≡ 0 → GoesRight machine from to block body → to ≡ home_of machine block
  to_its_home GetS from to block kind goes = goes
  to_its_home (GetX had) from to block kind goes = goes
  to_its_home PutS from to block kind goes = goes
  to_its_home (PutX bytes) from to block kind goes = goes
  to_its_home (InvAck bytes) from to block kind goes = goes
  to_its_home (DataS bytes) from to block kind goes = absurd cc
  to_its_home (DataX bytes) from to block kind goes = absurd cc
  to_its_home Inv from to block kind goes = absurd cc
  to_its_home Wake from to block kind goes = absurd cc
  to_its_home Arrive from to block kind goes = absurd cc
  to_its_home Leave from to block kind goes = absurd cc
  to_its_home Go from to block kind goes = absurd cc

  pub from_its_home : (body : Body) (from to block : ℕ) → not_from_home_of body ≡ 0 → GoesRight machine from to block body → from ≡ home_of machine block
  from_its_home (DataS bytes) from to block kind goes = goes
  from_its_home (DataX bytes) from to block kind goes = goes
  from_its_home Inv from to block kind goes = goes
  from_its_home GetS from to block kind goes = absurd cc
  from_its_home (GetX had) from to block kind goes = absurd cc
  from_its_home PutS from to block kind goes = absurd cc
  from_its_home (PutX bytes) from to block kind goes = absurd cc
  from_its_home (InvAck bytes) from to block kind goes = absurd cc
  from_its_home Wake from to block kind goes = absurd cc
  from_its_home Arrive from to block kind goes = absurd cc
  from_its_home Leave from to block kind goes = absurd cc
  from_its_home Go from to block kind goes = absurd cc

-- none of a list with no marks has one
pub no_mark : (message : Key × Msg) (messages : List (Key × Msg)) → IsIn message messages → total mark_of (bodies messages) ≡ 0 → mark_of message.1.body ≡ 0
no_mark message [] h none = absurd h
no_mark message (first ∷ rest) (inl e) none = let w = ap (λ (m : Key × Msg). mark_of m.1.body) e in omega (arith, w, none)
no_mark message (first ∷ rest) (inr h) none = no_mark message rest h (omega (arith, none))

-- ---- the event

module _ (machine : MachineParts) (is : IsMachine machine) (world : World) (ok : IsWorldOf machine world) (key : Key) (event : Event Msg) (is_least : least (events_in (wind_tunnel machine) world) ≡ Some (key, event)) where
  abbrev pub sim : Simulation NodeState Msg
  sim = wind_tunnel machine

  pub laws : IsSimulation sim (IsNode machine) (Fits machine)
  laws = (machines_are_simulations machine is).laws

  pub at : IsEventBelow sim sim.budget world.nodes world.pending key event
  at = event_is sim sim.budget world.nodes world.pending key event (least_in _ (key, event) is_least)

  pub station : IsStation sim (IsNode machine) (Fits machine) at.node world.pending
  station = ok.stations at.node at.member

  pub sound : IsNode machine at.node
  sound = station.sound

  pub due : IsDueAt machine at.node key event
  due = due_now sim (IsNode machine) (Fits machine) laws sim.budget world.nodes world.pending key event is_least at station (omega arith)

  abbrev pub after : NodeState
  after = (react machine at.node event).0

  abbrev pub sends : List Stamped
  sends = (react machine at.node event).1

  abbrev pub news : List (Message Msg)
  news = map message_under_key sends

  pub reacted : Reacts sim (IsNode machine) (Fits machine) at.node key after news
  reacted = laws.reacts at.node key event sound due

  pub key_to : key.to ≡ at.node.number
  key_to = event_to sim world.pending at.node key event at.of_node

  -- ---- the nodes after it

  pub node_here : node_after sim key event at.node ≡ after
  node_here = rw (eq-eqb at.node.number key.to (sym key_to)) refl

  pub node_elsewhere : (other : NodeState) → (other.number ≢ at.node.number) → node_after sim key event other ≡ other
  node_elsewhere other apart = rw (ne_eqb other.number key.to (λ e. apart (e ∙ key_to))) refl

  pub same_number : (other : NodeState) → IsIn other world.nodes → (node_after sim key event other).number ≡ other.number
  same_number other member = elim (cases_Bool (other.number == at.node.number)) [
    | inl here ↦
        let e : other ≡ at.node = numbered_same sim 0 world.nodes other at.node ok.numbered member at.member (eqb-true other.number at.node.number here) in
        ap (λ (n : NodeState). (node_after sim key event n).number) e ∙ ap (λ (n : NodeState). n.number) node_here ∙ reacted.number ∙ ap (λ (n : NodeState). n.number) (sym e)
    | inr apart ↦ ap (λ (n : NodeState). n.number) (node_elsewhere other (λ e. let t : (other.number == at.node.number) ≡ true = eq-eqb other.number at.node.number e in let f : true ≡ false = sym t ∙ apart in cc))
  ]

  pub all_sent : flat_map (sent_by sim key event) world.nodes ≡ news
  all_sent =
      single_flat sim (sent_by sim key event) 0 world.nodes at.node ok.numbered at.member
      (λ other apart. rw (ne_eqb other.number key.to (λ e. apart (e ∙ key_to))) refl)
      ∙ rw (eq-eqb at.node.number key.to (sym key_to)) refl

  pub are_new : AreNew (taken event world.pending) news
  are_new = subst (AreNew (taken event world.pending)) all_sent ((keys_are_new sim (IsNode machine) (Fits machine) laws).events world key event ok is_least)

  -- ---- what it sends

  pub sent_is : (message : Message Msg) → IsIn message news → IsSent sim (Fits machine) at.node key message
  sent_is message h = all_in (IsSent sim (Fits machine) at.node key) message news reacted.sent h

  -- a step begins at the time of its event
  pub step_now : event ≡ Step → (at.node.mode ≡ Running) × (step_time at.node ≡ key.time)
  step_now e = by at.node.mode refl (subst (λ (v : Event Msg). IsEventOf sim world.pending at.node key v) e at.of_node).0
    where
      by : (mode : Mode) → at.node.mode ≡ mode → sim.next at.node ≡ Some key.time → (at.node.mode ≡ Running) × (step_time at.node ≡ key.time)
      by Running m next = (m, let e : Some (step_time at.node) ≡ Some key.time = rw m at next in cc)
      by (Waiting block exclusive) m next = absurd (let e : None ≡ Some key.time = rw m at next in cc)
      by InBarrier m next = absurd (let e : None ≡ Some key.time = rw m at next in cc)
      by (Stopped cause) m next = absurd (let e : None ≡ Some key.time = rw m at next in cc)

  pub right_sends : AreRightSends machine key.time sends
  right_sends = by event refl at.of_node
    where
      by : (e : Event Msg) → event ≡ e → IsEventOf sim world.pending at.node key e → AreRightSends machine key.time (react machine at.node e).1
      by Step e of_node = subst (λ (time : ℕ). AreRightSends machine time (react machine at.node Step).1) (step_now e).1 (sends_are_right_law.step machine at.node sound)
      by (Arrival message) e of_node = subst (λ (k : Key). AreRightSends machine k.time (react machine at.node (Arrival message)).1) (sym of_node.0) (sends_are_right_law.message machine at.node message.0 message.1 sound)

  -- one of the messages, where it goes and when it leaves
  pub record IsNews (message : Message Msg) : Type 0 where
    pub from : message.0.from ≡ at.node.number
    pub goes : GoesRight machine message.0.from message.0.to message.1.block message.1.body
    pub time : message.0.time ≡ stamp_of machine message.0.from message.0.to right_sends.at
    pub in_time : IsInTime machine message.0 key.time message.1.body

  news_time : (body : Body) (k : Key) → LeavesAt key.time right_sends.at body → k.time ≡ stamp_of machine k.from k.to right_sends.at → IsInTime machine k key.time body
  news_time Inv k leaves stamp = tt
  news_time GetS k leaves stamp = omega (arith, leaves, stamp)
  news_time (GetX had) k leaves stamp = omega (arith, leaves, stamp)
  news_time PutS k leaves stamp = omega (arith, leaves, stamp)
  news_time (PutX bytes) k leaves stamp = omega (arith, leaves, stamp)
  news_time (DataS bytes) k leaves stamp = omega (arith, leaves, stamp)
  news_time (DataX bytes) k leaves stamp = omega (arith, leaves, stamp)
  news_time (InvAck bytes) k leaves stamp = omega (arith, leaves, stamp)
  news_time Wake k leaves stamp = omega (arith, leaves, stamp)
  news_time Arrive k leaves stamp = omega (arith, leaves, stamp)
  news_time Leave k leaves stamp = omega (arith, leaves, stamp)
  news_time Go k leaves stamp = omega (arith, leaves, stamp)

  pub news_is : (message : Message Msg) → IsIn message news → IsNews message
  news_is message h = of (from_map message_under_key message sends h)
    where
      of : (send : Stamped) × IsIn send sends × (message ≡ message_under_key send) → IsNews message
      of (send, member, e) =
          let right = all_in (IsRightSend machine key.time right_sends.at) send sends right_sends.all member in
          subst IsNews (sym e) (record {
            from = (sent_is (message_under_key send) (in_map message_under_key send sends member)).source;
            goes = right.goes;
            time = right.stamp;
            in_time = news_time send.msg.body (message_under_key send).0 right.leaves right.stamp;
          })

  pub in_sequence : AreInSequence at.node.counters.sent news
  in_sequence = reacted.numbered

  -- ---- what was under way

  -- a message that is left once the event is taken
  pub was_there : (q : Key) (msg : Msg) → get (taken event world.pending) q ≡ Some msg → (get world.pending q ≡ Some msg) × (q ≢ key)
  was_there q msg there = left_over sim (IsNode machine) (Fits machine) laws world.pending at.node key event ok.fitting at.of_node q msg there

  -- no message to its node is before it
  pub least_here : (q : Key) (msg : Msg) → get world.pending q ≡ Some msg → q.to ≡ at.node.number → IsUpTo key q
  least_here q msg there to = by (not_before sim (IsNode machine) (Fits machine) laws sim.budget world.nodes world.pending key event is_least at station q msg there to)
    where
      by : IsUpTo key q ⊎ (sim.budget ≤ q.time) → IsUpTo key q
      by (inl up) = up
      by (inr late) = less_upto key q (earlier_less key q (let early : key.time < sim.budget = due.early in omega (arith, early, late)))

  -- Its last event is at its time, which is no earlier than the one before.
  pub last_after : last_time_of after ≡ key.time
  last_after = ap time_of_last reacted.last

  pub last_before : last_time_of at.node ≤ key.time
  last_before = by at.node.last refl due.later
    where
      by : (last : Option Key) → at.node.last ≡ last → IsAfter last key → last_time_of at.node ≤ key.time
      by None e later = let t = ap time_of_last e in omega (arith, t)
      by (Some k) e later = let t = ap time_of_last e in let u = less_time k key later in omega (arith, t, u)

  -- Its node alone sends, and about a block only its home sends what comes from a home.
  pub none_from : (block number : ℕ) → (number == at.node.number) ≡ false → line (goes_from block number) news ≡ []
  none_from block number apart = length_none (goes_from block number) news (λ message h.
      let away : (message.0.from == number) ≡ false = ne_eqb message.0.from number (λ e. let t : (number == at.node.number) ≡ true = eq-eqb number at.node.number (sym e ∙ (news_is message h).from) in let f : true ≡ false = sym t ∙ apart in cc) in
      rw away refl)

  pub none_to : (block number : ℕ) → (at.node.number == home_of machine block) ≡ false → line (comes_to block number) news ≡ []
  none_to block number apart = length_none (comes_to block number) news each
    where
      each : (message : Key × Msg) → IsIn message news → comes_to block number message ≡ false
      each message h = elim (cases_Bool (comes_to block number message)) [
        | inl t ↦
            let parts = comes_to_is block number message t in
            let n = news_is message h in
            let e : at.node.number ≡ home_of machine block = sym n.from ∙ from_its_home machine message.1.body message.0.from message.0.to block parts.2 (subst (λ (b : ℕ). GoesRight machine message.0.from message.0.to b message.1.body) parts.1 n.goes) in
            absurd (let t : (at.node.number == home_of machine block) ≡ true = eq-eqb at.node.number (home_of machine block) e in let f : true ≡ false = sym t ∙ apart in cc)
        | inr f ↦ f
      ]

  -- ---- lines rise

  module _ (right : AreRight machine world) where
    -- an older message of its node to the same place, but for Inv, arrives no later than a new one
    older : (body : Body) (q : Key) (last : ℕ) → last ≤ right_sends.at → (mark_of body ≡ 0) ⊎ (not_to_home_of body ≡ 0) → IsInTime machine q last body → q.time ≤ stamp_of machine q.from q.to right_sends.at
    older Inv q last before (inl none) in_time = absurd cc
    older Inv q last before (inr none) in_time = absurd cc
    older GetS q last before kind in_time = omega (arith, before, in_time)
    older (GetX had) q last before kind in_time = omega (arith, before, in_time)
    older PutS q last before kind in_time = omega (arith, before, in_time)
    older (PutX bytes) q last before kind in_time = omega (arith, before, in_time)
    older (DataS bytes) q last before kind in_time = omega (arith, before, in_time)
    older (DataX bytes) q last before kind in_time = omega (arith, before, in_time)
    older (InvAck bytes) q last before kind in_time = omega (arith, before, in_time)
    older Wake q last before kind in_time = omega (arith, before, in_time)
    older Arrive q last before kind in_time = omega (arith, before, in_time)
    older Leave q last before kind in_time = omega (arith, before, in_time)
    older Go q last before kind in_time = omega (arith, before, in_time)

    -- Messages of its node to one place: those under way are not Inv, or go to a home.
    pub line_rises : (is_of : Key × Msg → Bool) (to : ℕ) →
        ((other : Key × Msg) → IsIn other (line is_of (entries (taken event world.pending))) → (other.0.from ≡ at.node.number) × (other.0.to ≡ to) × ((mark_of other.1.body ≡ 0) ⊎ (not_to_home_of other.1.body ≡ 0))) →
        ((message : Key × Msg) → IsIn message news → is_of message ≡ true → message.0.to ≡ to) →
        RiseAfter (line is_of (entries (taken event world.pending))) (line is_of news)
    line_rises is_of to old new =
        rises_after is_of (line is_of (entries (taken event world.pending))) news at.node.number to (stamp_of machine at.node.number to right_sends.at) at.node.counters.sent
        (λ other h.
        let there = was_there other.0 other.1 (in_line is_of (taken event world.pending) other h).0 in
        let o = old other h in
        let t = older other.1.body other.0 (last_time_of at.node) (let b = last_before in let a = right_sends.not_before in omega (arith, a, b)) o.2 (right.in_time other.0 other.1 at.node there.0 at.member o.0) in
        (o.0, o.1, subst (λ (n : ℕ). other.0.time ≤ stamp_of machine n to right_sends.at) o.0 (subst (λ (n : ℕ). other.0.time ≤ stamp_of machine other.0.from n right_sends.at) o.1 t), station.numbered other.0 other.1 there.0 o.0))
        in_sequence
        (λ message h.
        let among = from_filter is_of message news h in
        let n = news_is message among.0 in
        let to_is = new message among.0 among.1 in
        (n.from, to_is, n.time ∙ ap (λ (k : ℕ). stamp_of machine k message.0.to right_sends.at) n.from ∙ ap (λ (k : ℕ). stamp_of machine at.node.number k right_sends.at) to_is))

    -- ---- the two lines of a block and a node

    pub home_rises : (block number : ℕ) → RiseAfter (line (goes_from block number) (entries (taken event world.pending))) (line (goes_from block number) news)
    home_rises block number = elim (cases_Bool (number == at.node.number)) [
      | inl here ↦ line_rises (goes_from block number) (home_of machine block)
          (λ other h.
          let there = in_line (goes_from block number) (taken event world.pending) other h in
          let parts = goes_from_is block number other there.1 in
          (parts.0 ∙ eqb-true number at.node.number here, to_its_home machine other.1.body other.0.from other.0.to block parts.2 (subst (λ (b : ℕ). GoesRight machine other.0.from other.0.to b other.1.body) parts.1 (right.goes other.0 other.1 (was_there other.0 other.1 there.0).0)), inr parts.2))
          (λ message h is_of.
          let parts = goes_from_is block number message is_of in
          to_its_home machine message.1.body message.0.from message.0.to block parts.2 (subst (λ (b : ℕ). GoesRight machine message.0.from message.0.to b message.1.body) parts.1 (news_is message h).goes))
      | inr apart ↦ subst (RiseAfter (line (goes_from block number) (entries (taken event world.pending)))) (sym (none_from block number apart)) tt
    ]

    pub comes_rises : (block number : ℕ) → total mark_of (bodies (line (comes_to block number) (entries (taken event world.pending)))) ≡ 0 →
        RiseAfter (line (comes_to block number) (entries (taken event world.pending))) (line (comes_to block number) news)
    comes_rises block number none = elim (cases_Bool (at.node.number == home_of machine block)) [
      | inl here ↦ line_rises (comes_to block number) number
          (λ other h.
          let there = in_line (comes_to block number) (taken event world.pending) other h in
          let parts = comes_to_is block number other there.1 in
          (from_its_home machine other.1.body other.0.from other.0.to block parts.2 (subst (λ (b : ℕ). GoesRight machine other.0.from other.0.to b other.1.body) parts.1 (right.goes other.0 other.1 (was_there other.0 other.1 there.0).0)) ∙ sym (eqb-true at.node.number (home_of machine block) here), parts.0, inl (no_mark other (line (comes_to block number) (entries (taken event world.pending))) h none)))
          (λ message h is_of. (comes_to_is block number message is_of).0)
      | inr apart ↦ subst (RiseAfter (line (comes_to block number) (entries (taken event world.pending)))) (sym (none_to block number apart)) tt
    ]

  -- ---- a world after it

  module _ (later : World) (nodes_is : later.nodes ≡ map (node_after sim key event) world.nodes) (pending_is : later.pending ≡ placed (taken event world.pending) news) where
    pub later_line : (is_of : Key × Msg → Bool) → RiseAfter (line is_of (entries (taken event world.pending))) (line is_of news) → under_way is_of later ≡ line is_of (entries (taken event world.pending)) ++ line is_of news
    later_line is_of rises = ap (λ (q : Queue Msg). line is_of (entries q)) pending_is ∙ line_placed is_of (taken event world.pending) news are_new rises

    pub later_passed : (is_of : Key × Msg → Bool) → line is_of news ≡ [] → under_way is_of later ≡ line is_of (entries (taken event world.pending))
    later_passed is_of none = ap (λ (q : Queue Msg). line is_of (entries q)) pending_is ∙ line_passed is_of (taken event world.pending) news are_new none

    pub later_count : (is_of : Key × Msg → Bool) → length (under_way is_of later) ≡ length (line is_of (entries (taken event world.pending))) + length (line is_of news)
    later_count is_of = ap (λ (q : Queue Msg). length (line is_of (entries q))) pending_is ∙ count_placed is_of (taken event world.pending) news are_new

    later_node : (number : ℕ) → node_in number later.nodes ≡ option_map (node_after sim key event) (node_in number world.nodes)
    later_node number = ap (node_in number) nodes_is ∙ node_in_map (node_after sim key event) number world.nodes same_number

    pub later_here : node_in at.node.number later.nodes ≡ Some after
    later_here = later_node at.node.number ∙ ap (option_map (node_after sim key event)) (node_is machine 0 world.nodes at.node ok.numbered at.member) ∙ ap Some node_here

    pub later_elsewhere : (number : ℕ) → (number == at.node.number) ≡ false → node_in number later.nodes ≡ node_in number world.nodes
    later_elsewhere number apart = later_node number ∙ by (node_in number world.nodes) refl
      where
        by : (found : Option NodeState) → node_in number world.nodes ≡ found → option_map (node_after sim key event) found ≡ found
        by None e = refl
        by (Some other) e = ap Some (node_elsewhere other (λ same. let n = (in_node number world.nodes other e).1 in let t : (number == at.node.number) ≡ true = eq-eqb number at.node.number (sym n ∙ same) in let f : true ≡ false = sym t ∙ apart in cc))

    -- a node after it is its node, or another that stays as it was
    pub in_later : (other : NodeState) → IsIn other later.nodes → (other ≡ after) ⊎ (IsIn other world.nodes × (other.number ≢ at.node.number))
    in_later other h = of (from_map (node_after sim key event) other world.nodes (subst (IsIn other) nodes_is h))
      where
        of : (before : NodeState) × IsIn before world.nodes × (other ≡ node_after sim key event before) → (other ≡ after) ⊎ (IsIn other world.nodes × (other.number ≢ at.node.number))
        of (before, member, e) = elim (cases_Bool (before.number == at.node.number)) [
          | inl here ↦ inl (e ∙ ap (node_after sim key event) (numbered_same sim 0 world.nodes before at.node ok.numbered member at.member (eqb-true before.number at.node.number here)) ∙ node_here)
          | inr apart ↦
              let differ : before.number ≢ at.node.number = λ same. let t : (before.number == at.node.number) ≡ true = eq-eqb before.number at.node.number same in let f : true ≡ false = sym t ∙ apart in cc in
              let stays : other ≡ before = e ∙ node_elsewhere before differ in
              inr (subst (λ (n : NodeState). IsIn n world.nodes) (sym stays) member, λ same. differ (ap (λ (n : NodeState). n.number) (sym stays) ∙ same))
        ]

    -- what is under way then was sent by the event, or was under way before
    pub from_later : (q : Key) (msg : Msg) → get later.pending q ≡ Some msg → IsIn (q, msg) news ⊎ ((get world.pending q ≡ Some msg) × (q ≢ key))
    from_later q msg there = by (from_placed (taken event world.pending) news q msg (ap (λ (m : Queue Msg). get m q) (sym pending_is) ∙ there))
      where
        by : IsIn (q, msg) news ⊎ (get (taken event world.pending) q ≡ Some msg) → IsIn (q, msg) news ⊎ ((get world.pending q ≡ Some msg) × (q ≢ key))
        by (inl h) = inl h
        by (inr h) = inr (was_there q msg h)

    -- later events of a node let no message be late
    still_in_time : (q : Key) (last now : ℕ) (body : Body) → last ≤ now → IsInTime machine q last body → IsInTime machine q now body
    still_in_time q last now Inv up in_time = tt
    still_in_time q last now GetS up in_time = omega (arith, up, in_time)
    still_in_time q last now (GetX had) up in_time = omega (arith, up, in_time)
    still_in_time q last now PutS up in_time = omega (arith, up, in_time)
    still_in_time q last now (PutX bytes) up in_time = omega (arith, up, in_time)
    still_in_time q last now (DataS bytes) up in_time = omega (arith, up, in_time)
    still_in_time q last now (DataX bytes) up in_time = omega (arith, up, in_time)
    still_in_time q last now (InvAck bytes) up in_time = omega (arith, up, in_time)
    still_in_time q last now Wake up in_time = omega (arith, up, in_time)
    still_in_time q last now Arrive up in_time = omega (arith, up, in_time)
    still_in_time q last now Leave up in_time = omega (arith, up, in_time)
    still_in_time q last now Go up in_time = omega (arith, up, in_time)

    pub right_later : AreRight machine world → AreRight machine later
    right_later right = record { goes = goes; in_time = in_time }
      where
        goes : (q : Key) (msg : Msg) → get later.pending q ≡ Some msg → GoesRight machine q.from q.to msg.block msg.body
        goes q msg there = by (from_later q msg there)
          where
            by : IsIn (q, msg) news ⊎ ((get world.pending q ≡ Some msg) × (q ≢ key)) → GoesRight machine q.from q.to msg.block msg.body
            by (inl h) = (news_is (q, msg) h).goes
            by (inr h) = right.goes q msg h.0

        in_time : (q : Key) (msg : Msg) (other : NodeState) → get later.pending q ≡ Some msg → IsIn other later.nodes → q.from ≡ other.number → IsInTime machine q (last_time_of other) msg.body
        in_time q msg other there member from = by (from_later q msg there) (in_later other member)
          where
            by : IsIn (q, msg) news ⊎ ((get world.pending q ≡ Some msg) × (q ≢ key)) → (other ≡ after) ⊎ (IsIn other world.nodes × (other.number ≢ at.node.number)) → IsInTime machine q (last_time_of other) msg.body
            by (inl h) (inl e) = subst (λ (t : ℕ). IsInTime machine q t msg.body) (sym (ap last_time_of e ∙ last_after)) (news_is (q, msg) h).in_time
            by (inl h) (inr o) = absurd (o.1 (sym from ∙ (news_is (q, msg) h).from))
            by (inr h) (inl e) = still_in_time q (last_time_of at.node) (last_time_of other) msg.body (let l = ap last_time_of e ∙ last_after in let b = last_before in omega (arith, l, b))
                (right.in_time q msg at.node h.0 at.member (from ∙ ap (λ (n : NodeState). n.number) e ∙ reacted.number))
            by (inr h) (inr o) = right.in_time q msg other h.0 o.0 from

  -- ---- the next world of the serial run

  quantum_nodes : (now : World) → (with_quantum sim key.time now).nodes ≡ now.nodes
  quantum_nodes now = elim (cases_Bool (nat_le now.kept_end key.time)) [
    | inl t ↦ rw t refl
    | inr f ↦ rw f refl
  ]

  quantum_pending : (now : World) → (with_quantum sim key.time now).pending ≡ now.pending
  quantum_pending now = elim (cases_Bool (nat_le now.kept_end key.time)) [
    | inl t ↦ rw t refl
    | inr f ↦ rw f refl
  ]

  pub next_nodes : (serial_step sim world).nodes ≡ map (node_after sim key event) world.nodes
  next_nodes = ap (λ (o : Option (Key × Event Msg)). (after_least sim world o).nodes) is_least ∙ quantum_nodes _

  pub next_pending : (serial_step sim world).pending ≡ placed (taken event world.pending) news
  next_pending = ap (λ (o : Option (Key × Event Msg)). (after_least sim world o).pending) is_least ∙ quantum_pending _ ∙ ap (placed (taken event world.pending)) all_sent
