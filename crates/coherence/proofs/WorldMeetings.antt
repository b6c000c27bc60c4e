-- An event of a whole machine keeps its barrier orderly, and no message about the barrier is stray.
use Rattle.std.proofs.Common.{◌≡◌, ◌≢◌, ℕ, ◌+◌, ◌-◌, ◌<◌, ◌≤◌, ◌⊎◌, inl, inr, Bool, true, false, cond, List, [], ◌∷◌, length, map, Some, refl, ap, sym, ◌∙◌, subst, arith}
use Rattle.std.specs.Prelude.{◌==◌, ◌&&◌}
use Rattle.std.proofs.lemmas.Bool.{cases_Bool, eqb-true, eq-eqb, ne_eqb}
use Rattle.std.specs.FinMap.{get, entries}
use Rattle.wt_params.specs.declared.parts.MachineParts.{MachineParts}
use Rattle.wt_params.specs.Machine.{IsMachine}
use Rattle.wt_proto.specs.declared.key.Key.{Key}
use Rattle.wt_proto.specs.declared.message.Body.{Body}
use Rattle.wt_proto.specs.declared.message.Body.TheVariants.{DataS, DataX, Inv, Arrive, Leave, Go}
use Rattle.wt_proto.specs.declared.message.Msg.{Msg}
use Rattle.wt_proto.specs.declared.message.Stamped.{Stamped}
use Rattle.wt_proto.specs.declared.mode.Cause.{Cause}
use Rattle.wt_proto.specs.declared.mode.Cause.TheVariants.{Exit}
use Rattle.wt_proto.specs.declared.mode.Mode.{Mode}
use Rattle.wt_proto.specs.declared.mode.Mode.TheVariants.{Running, Waiting, InBarrier, Stopped}
use Rattle.dir_list.specs.Lists.{with_node}
use Rattle.wt_proto.specs.NodeSets.{has_node}
use Rattle.target_barrier.specs.declared.barrier.Release.{Release}
use Rattle.target_barrier.specs.declared.barrier.Release.TheVariants as releases
use Rattle.target_barrier.specs.Barrier.{Barrier, is_known, is_complete, opened, arrive_of, leave_of}
use Rattle.discrete_events.specs.Simulation.{Event, Step, Arrival, Message}
use Rattle.discrete_events.specs.World.{least, events_in}
use Rattle.discrete_events.specs.Serial.{placed, taken, node_after}
use Rattle.discrete_events.specs.Laws.{IsIn, IsNumbered}
use Rattle.discrete_events.proofs.Lists.{in_map}
use Rattle.discrete_events.proofs.Events.{IsEventOf}
use Rattle.node.specs.declared.state.NodeState.{NodeState}
use Rattle.node.specs.BarrierMessage.{has_unit}
use Rattle.node.specs.React.{react, message_under_key, wind_tunnel}
use Rattle.coherence.specs.Lines.{line}
use Rattle.coherence.specs.Deals.{IsWantedIn}
use Rattle.coherence.specs.RowDeals.{is_for_directory}
use Rattle.coherence.specs.Meetings.{Stand, Part, Meeting, with_part, once, with_gos, told_of, move_of, waits_once, gone_once, HasPlace, HavePlaces}
use Rattle.coherence.specs.Meetings.Stand.{Away, Waits, Gone}
use Rattle.coherence.specs.Meetings.Move.{Come, Quit, ArriveComes, LeaveComes, GoComes}
use Rattle.coherence.specs.Moves.{stand_in, arrive_in, leave_in, go_in, arrives_in, leaves_in, gos_in, Tells, IsLeft, IsStepMove, IsNoMove, is_stray_release, IsUnitMove, IsGoMove, answer_to, is_for_unit, comes_from_home, after_message, sent_at_message}
use Rattle.coherence.specs.Sends.{GoesRight}
use Rattle.coherence.specs.Worlds.{World, under_way, arrives_from, leaves_from, goes_to, stand_of, part_in, meeting_in, IsOrderly, AreRight}
use Rattle.coherence.proofs.Meetings.{meetings_orderly}
use Rattle.coherence.proofs.Moves.{events_move_law}
use Rattle.coherence.proofs.RowSends.{is_of_barrier}
use Rattle.coherence.proofs.Placed.{count_taken, line_left}
use Rattle.coherence.proofs.WorldEvents.{IsWorldOf, node_is, at, sound, after, sends, news, reacted, step_now, news_is, later_count, later_here, later_elsewhere, in_later}

-- ---- how many messages are of a line

-- Numbers may be compared either way round.
flipped : (a b : ℕ) → (a == b) ≡ (b == a)
flipped a b = elim (cases_Bool (a == b)) [
  | inl same ↦ same ∙ sym (eq-eqb b a (sym (eqb-true a b same)))
  | inr apart ↦ apart ∙ sym (ne_eqb b a (λ e. let t : (a == b) ≡ true = eq-eqb a b (sym e) in let f : true ≡ false = sym t ∙ apart in cc))
]

-- none, whatever is asked
nothing : (test : Bool) → ◌≡◌ {A = ℕ} (cond test 0 0) 0
nothing true = refl
nothing false = refl

-- Two counts under one test are one.
both_counted : (test : Bool) (one other : ℕ) → cond test one 0 + cond test other 0 ≡ cond test (one + other) 0
both_counted true one other = refl
both_counted false one other = refl

-- A message counts once in its line.
count_first : (is_of : Key × Msg → Bool) (first : Key × Msg) (rest : List (Key × Msg)) → length (line is_of (first ∷ rest)) ≡ once (is_of first) + length (line is_of rest)
count_first is_of first rest = elim (cases_Bool (is_of first)) [
  | inl t ↦ rw t (omega arith)
  | inr f ↦ rw f (omega arith)
]

-- A count of at most one is what is counted where it is 1.
once_once : (test : Bool) → once (once test == 1) ≡ once test
once_once true = refl
once_once false = refl

-- the same of Arrive and of Leave, under a test
arrive_if : (test : Bool) (body : Body) → once (test && (arrive_in body == 1)) ≡ cond test (arrive_in body) 0
arrive_if false body = refl
arrive_if true Arrive = refl
arrive_if true body = refl

leave_if : (test : Bool) (body : Body) → once (test && (leave_in body == 1)) ≡ cond test (leave_in body) 0
leave_if false body = refl
leave_if true Leave = refl
leave_if true body = refl

-- the same of Go to a node
go_once : (node to : ℕ) (body : Body) → once (go_in node to body == 1) ≡ go_in node to body
go_once node to Go = once_once (to == node)
go_once node to body = refl

-- ---- of those that a node sends

module _ (number : ℕ) where
  -- All are from one node.
  abbrev AreFrom : List Stamped → Type 0
  AreFrom sends = (send : Stamped) → IsIn send sends → send.from ≡ number

  -- What a node sends is in its own lines alone: what is counted by its body,
  from_new : (count : Body → ℕ) (sum : List Stamped → ℕ) → ((test : Bool) (body : Body) → once (test && (count body == 1)) ≡ cond test (count body) 0) → sum [] ≡ 0 → ((first : Stamped) (rest : List Stamped) → sum (first ∷ rest) ≡ count first.msg.body + sum rest) →
      (node : ℕ) (sends : List Stamped) → AreFrom sends → length (line (λ (message : Key × Msg). (message.0.from == node) && (count message.1.body == 1)) (map message_under_key sends)) ≡ cond (node == number) (sum sends) 0
  from_new count sum counts none more node [] from = sym (ap (λ (k : ℕ). cond (node == number) k 0) none ∙ nothing (node == number))
  from_new count sum counts none more node (first ∷ rest) from =
      let is_of : Key × Msg → Bool = λ message. (message.0.from == node) && (count message.1.body == 1) in
      let all = count_first is_of (message_under_key first) (map message_under_key rest) in
      let later = from_new count sum counts none more node rest (λ send h. from send (inr h)) in
      let same : (first.from == node) ≡ (node == number) = ap (λ (k : ℕ). k == node) (from first (inl refl)) ∙ flipped number node in
      let one : once (is_of (message_under_key first)) ≡ cond (node == number) (count first.msg.body) 0 = ap (λ (test : Bool). once (test && (count first.msg.body == 1))) same ∙ counts (node == number) first.msg.body in
      let both = both_counted (node == number) (count first.msg.body) (sum rest) ∙ ap (λ (k : ℕ). cond (node == number) k 0) (sym (more first rest)) in
      omega (arith, all, later, one, both)

  -- so Arrive,
  pub arrives_new : (node : ℕ) (sends : List Stamped) → AreFrom sends → length (line (arrives_from node) (map message_under_key sends)) ≡ cond (node == number) (arrives_in sends) 0
  arrives_new = from_new arrive_in arrives_in arrive_if refl (λ first rest. refl)

  -- and Leave.
  pub leaves_new : (node : ℕ) (sends : List Stamped) → AreFrom sends → length (line (leaves_from node) (map message_under_key sends)) ≡ cond (node == number) (leaves_in sends) 0
  leaves_new = from_new leave_in leaves_in leave_if refl (λ first rest. refl)

-- Go is in the line of each that it goes to.
pub gos_new : (node : ℕ) (sends : List Stamped) → length (line (goes_to node) (map message_under_key sends)) ≡ gos_in node sends
gos_new node [] = refl
gos_new node (first ∷ rest) =
    let more = count_first (goes_to node) (message_under_key first) (map message_under_key rest) in
    let later = gos_new node rest in
    let one : once (goes_to node (message_under_key first)) ≡ go_in node first.to first.msg.body = go_once node first.to first.msg.body in
    omega (arith, more, later, one)

-- ---- parts of a meeting

-- Parts with the same fields are the same.
same_part : (one other : Part) → one.stand ≡ other.stand → one.arrives ≡ other.arrives → one.leaves ≡ other.leaves → one.gos ≡ other.gos → one ≡ other
same_part one other stand arrives leaves gos = λ i. record { stand = stand i; arrives = arrives i; leaves = leaves i; gos = gos i }

-- Places are kept where the unit and each part are the same.
alike_places : (one other : Meeting) → other.unit ≡ one.unit → ((node : ℕ) → other.part node ≡ one.part node) → HavePlaces one → HavePlaces other
alike_places one other unit part are node =
    subst (λ (u : Barrier). HasPlace u node (other.part node)) (sym unit)
    (subst (λ (p : Part). HasPlace one.unit node p) (sym (part node)) (are node))

-- A part from which so many Arrive and Leave are taken.
record IsLess (before after : Part) (arrives leaves : ℕ) : Type 0 where
  stand : before.stand ≡ after.stand
  arrives_are : before.arrives ≡ after.arrives + arrives
  leaves_are : before.leaves ≡ after.leaves + leaves
  gos_are : before.gos ≡ after.gos

-- Such a part in place of its own takes them there and nowhere else.
less_at : (from : ℕ) (less : Part) (part : ℕ → Part) (arrives leaves : ℕ) → IsLess (part from) less arrives leaves → (node : ℕ) → IsLess (part node) (with_part from less part node) (cond (from == node) arrives 0) (cond (from == node) leaves 0)
less_at from less part arrives leaves is node = by (node == from) refl
  where
    by : (same : Bool) → (node == from) ≡ same → IsLess (part node) (cond same less (part node)) (cond (from == node) arrives 0) (cond (from == node) leaves 0)
    by true same =
        rw (flipped from node ∙ same)
        (subst (λ (n : ℕ). IsLess (part n) less arrives leaves) (sym (eqb-true node from same)) is)
    by false apart = rw (flipped from node ∙ apart) (record { stand = refl; arrives_are = omega arith; leaves_are = omega arith; gos_are = refl })

-- A unit that may open calls nobody stray,
opened_expected : (unit : Barrier) → is_stray_release (opened unit).1 ≡ false
opened_expected unit = by (is_complete unit)
  where
    by : (complete : Bool) → is_stray_release (cond {A = Barrier × Release} complete (record unit { arrived = [] }, releases.Go unit.arrived) (unit, releases.Hold)).1 ≡ false
    by true = refl
    by false = refl

-- so who is new to it isn't, at an Arrive or a Leave.
arrive_expected : (unit : Barrier) (from : ℕ) → is_known unit from ≡ false → is_stray_release (arrive_of unit from).1 ≡ false
arrive_expected unit from fresh = rw fresh (opened_expected (record unit { arrived = with_node from unit.arrived }))

leave_expected : (unit : Barrier) (from : ℕ) → is_known unit from ≡ false → is_stray_release (leave_of unit from).1 ≡ false
leave_expected unit from fresh = rw fresh (opened_expected (record unit { left = with_node from unit.left }))

-- only who is in the barrier waits there
waits_in : (mode : Mode) → stand_in mode ≡ Waits → mode ≡ InBarrier
waits_in InBarrier waits = refl
waits_in Running waits = absurd cc
waits_in (Waiting block exclusive) waits = absurd cc
waits_in (Stopped cause) waits = absurd (gone cause waits)
  where
    gone : (cause : Cause) → stand_in (Stopped cause) ≡ Waits → ⊥
    gone (Exit code) stands = cc
    gone other stands = cc

-- There is a node 0.
first_node : (machine : MachineParts) (nodes : List NodeState) (node : NodeState) → IsNumbered (wind_tunnel machine) 0 nodes → IsIn node nodes → (first : NodeState) × IsIn first nodes × (first.number ≡ 0)
first_node machine [] node numbered h = absurd h
first_node machine (first ∷ rest) node numbered h = (first, inl refl, numbered.0)

-- how many messages of a line an event takes
abbrev pub count_taken_by : (Key × Msg → Bool) → Event Msg → ℕ
count_taken_by is_of Step = 0
count_taken_by is_of (Arrival message) = once (is_of message)

-- ---- the event

module _ (machine : MachineParts) (is : IsMachine machine) (world : World) (ok : IsWorldOf machine world) (key : Key) (event : Event Msg) (is_least : least (events_in (wind_tunnel machine) world) ≡ Some (key, event)) where
  -- the node that handles the event, what it sends, the node after it, and what is left under way
  abbrev it : NodeState
  it = (at machine is world ok key event is_least).node

  abbrev its_sends : List Stamped
  its_sends = sends machine is world ok key event is_least

  abbrev new : NodeState
  new = after machine is world ok key event is_least

  abbrev left : List (Key × Msg)
  left = entries (taken event world.pending)

  -- It is of the world, and what it sends is from it.
  its_member : IsIn it world.nodes
  its_member = (at machine is world ok key event is_least).member

  its_from : AreFrom it.number its_sends
  its_from send h = (news_is machine is world ok key event is_least (message_under_key send) (in_map message_under_key send its_sends h)).from

  -- ---- what it takes

  -- What was in a line is taken or left.
  pub count_left : (is_of : Key × Msg → Bool) → length (under_way is_of world) ≡ count_taken_by is_of event + length (line is_of left)
  count_left is_of = by event (at machine is world ok key event is_least).of_node
    where
      by : (e : Event Msg) → IsEventOf (wind_tunnel machine) world.pending it key e → length (under_way is_of world) ≡ count_taken_by is_of e + length (line is_of (entries (taken e world.pending)))
      by Step of_node = omega arith
      by (Arrival message) of_node =
          let there : get world.pending message.0 ≡ Some message.1 = ap (get world.pending) (sym of_node.0) ∙ of_node.2 in
          elim (cases_Bool (is_of message)) [
            | inl t ↦ let c = count_taken is_of world.pending message there t in let o : once (is_of message) ≡ 1 = ap once t in omega (arith, c, o)
            | inr f ↦ let c = ap (λ (l : List (Key × Msg)). length l) (line_left is_of world.pending message there f) in let o : once (is_of message) ≡ 0 = ap once f in omega (arith, c, o)
          ]

  -- So many Arrive and Leave of each number, and so many Go to it, are taken.
  pub record IsTaken (arrives leaves gos : ℕ → ℕ) : Type 0 where
    pub arrives_are : (node : ℕ) → count_taken_by (arrives_from node) event ≡ arrives node
    pub leaves_are : (node : ℕ) → count_taken_by (leaves_from node) event ≡ leaves node
    pub gos_are : (node : ℕ) → count_taken_by (goes_to node) event ≡ gos node

  -- A step takes nothing,
  step_takes : event ≡ Step → IsTaken (λ node. 0) (λ node. 0) (λ node. 0)
  step_takes e = record {
    arrives_are = λ node. ap (count_taken_by (arrives_from node)) e;
    leaves_are = λ node. ap (count_taken_by (leaves_from node)) e;
    gos_are = λ node. ap (count_taken_by (goes_to node)) e;
  }

  module _ (message : Message Msg) (e : event ≡ Arrival message) where
    -- a message itself,
    message_takes : IsTaken (λ node. cond (message.0.from == node) (arrive_in message.1.body) 0) (λ node. cond (message.0.from == node) (leave_in message.1.body) 0) (λ node. go_in node message.0.to message.1.body)
    message_takes = record {
      arrives_are = λ node. ap (count_taken_by (arrives_from node)) e ∙ arrive_if (message.0.from == node) message.1.body;
      leaves_are = λ node. ap (count_taken_by (leaves_from node)) e ∙ leave_if (message.0.from == node) message.1.body;
      gos_are = λ node. ap (count_taken_by (goes_to node)) e ∙ go_once node message.0.to message.1.body;
    }

    -- said by its body.
    body_takes : (body : Body) → message.1.body ≡ body → IsTaken (λ node. cond (message.0.from == node) (arrive_in body) 0) (λ node. cond (message.0.from == node) (leave_in body) 0) (λ node. go_in node message.0.to body)
    body_takes body b = subst (λ (now : Body). IsTaken (λ node. cond (message.0.from == node) (arrive_in now) 0) (λ node. cond (message.0.from == node) (leave_in now) 0) (λ node. go_in node message.0.to now)) b message_takes

    -- What isn't about the barrier takes nothing of it.
    takes_none : (body : Body) → message.1.body ≡ body → is_of_barrier body ≡ false → IsTaken (λ node. 0) (λ node. 0) (λ node. 0)
    takes_none Arrive b other = absurd cc
    takes_none Leave b other = absurd cc
    takes_none Go b other = absurd cc
    takes_none body b other = record {
      arrives_are = λ node. (body_takes body b).arrives_are node ∙ nothing (message.0.from == node);
      leaves_are = λ node. (body_takes body b).leaves_are node ∙ nothing (message.0.from == node);
      gos_are = λ node. (body_takes body b).gos_are node;
    }

    -- It was under way to its node.
    of_node : (key ≡ message.0) × (key.to ≡ it.number) × (get world.pending key ≡ Some message.1)
    of_node = subst (λ (v : Event Msg). IsEventOf (wind_tunnel machine) world.pending it key v) e (at machine is world ok key event is_least).of_node

    -- so under its own key, and it is from a node of the machine
    was_pending : get world.pending message.0 ≡ Some message.1
    was_pending = ap (get world.pending) (sym of_node.0) ∙ of_node.2

    comes_here : message.0.to ≡ it.number
    comes_here = ap (λ (k : Key). k.to) (sym of_node.0) ∙ of_node.1

    from_below : message.0.from < machine.nodes
    from_below = (ok.fitting message.0 message.1 was_pending).from

  -- where its processor stands before the event
  its_stand : (part_in world it.number).stand ≡ stand_in it.mode
  its_stand = ap stand_of (node_is machine 0 world.nodes it ok.numbered its_member)

  itself : (it.number == it.number) ≡ true
  itself = eq-eqb it.number it.number refl

  -- ---- a message about the barrier

  module _ (right : AreRight machine world) (message : Message Msg) (e : event ≡ Arrival message) where
    -- A message goes where it should.
    goes : (body : Body) → message.1.body ≡ body → GoesRight machine message.0.from message.0.to message.1.block body
    goes body b = subst (GoesRight machine message.0.from message.0.to message.1.block) b (right.goes message.0 message.1 (was_pending message e))

    same_source : (message.0.from == message.0.from) ≡ true
    same_source = eq-eqb message.0.from message.0.from refl

    -- Arrive, Leave or Go is under way from its source, or to its node.
    an_arrive : message.1.body ≡ Arrive → 1 ≤ (part_in world message.0.from).arrives
    an_arrive b =
        let l = count_left (arrives_from message.0.from) in
        let t = (body_takes message e Arrive b).arrives_are message.0.from ∙ ap (λ (same : Bool). cond same 1 0) same_source in
        omega (arith, l, t)

    a_leave : message.1.body ≡ Leave → 1 ≤ (part_in world message.0.from).leaves
    a_leave b =
        let l = count_left (leaves_from message.0.from) in
        let t = (body_takes message e Leave b).leaves_are message.0.from ∙ ap (λ (same : Bool). cond same 1 0) same_source in
        omega (arith, l, t)

    a_go : message.1.body ≡ Go → 1 ≤ (part_in world it.number).gos
    a_go b =
        let l = count_left (goes_to it.number) in
        let t = (body_takes message e Go b).gos_are it.number ∙ ap once (eq-eqb message.0.to it.number (comes_here message e)) in
        omega (arith, l, t)

    -- What is for the unit comes to it.
    module _ (body : Body) (b : message.1.body ≡ body) (kind : is_for_unit body ≡ true) (there : (message.0.to ≡ 0) × ((machine.nodes == 1) ≡ false)) where
      -- Its node is node 0,
      is_first : it.number ≡ 0
      is_first = sym (comes_here message e) ∙ there.0

      -- has the unit,
      its_unit : has_unit machine it ≡ true
      its_unit = rw (eq-eqb it.number 0 is_first, there.1) refl

      -- and the unit answers.
      unit_moves : IsUnitMove (answer_to body message.0.from it.barrier) it new its_sends
      unit_moves =
          let law : IsUnitMove (answer_to message.1.body message.0.from it.barrier) it (after_message machine it message.0 message.1) (sent_at_message machine it message.0 message.1) =
          events_move_law.answer machine it message.0 message.1 (sound machine is world ok key event is_least) (ap is_for_unit b ∙ kind) its_unit (from_below message e) in
          subst (λ (v : Event Msg). IsUnitMove (answer_to body message.0.from it.barrier) it (react machine it v).0 (react machine it v).1) (sym e)
          (subst (λ (now : Body). IsUnitMove (answer_to now message.0.from it.barrier) it (after_message machine it message.0 message.1) (sent_at_message machine it message.0 message.1)) b law)

    -- Go comes to who waits.
    go_moves : (unit : Barrier) → HavePlaces (meeting_in world unit) → message.1.body ≡ Go → IsGoMove it new its_sends
    go_moves unit are b =
        let waits : (part_in world it.number).stand ≡ Waits = meetings_orderly.expected (meeting_in world unit) (GoComes it.number) are (a_go b) in
        let law : IsGoMove it (after_message machine it message.0 (record { block = message.1.block; body = Go })) (sent_at_message machine it message.0 (record { block = message.1.block; body = Go })) =
        events_move_law.go machine it message.0 message.1.block (waits_in it.mode (sym its_stand ∙ waits)) in
        subst (λ (v : Event Msg). IsGoMove it (react machine it v).0 (react machine it v).1) (sym e)
        (subst (λ (now : Body). IsGoMove it (after_message machine it message.0 (record { block = message.1.block; body = now })) (sent_at_message machine it message.0 (record { block = message.1.block; body = now }))) (sym b) law)

    -- None is stray, and none touches the directory.
    record IsMet : Type 0 where
      stray : new.counters.stray ≡ it.counters.stray
      directory : new.directory ≡ it.directory

    -- A message about the barrier is expected.
    met : IsOrderly machine world → (body : Body) → message.1.body ≡ body → is_of_barrier body ≡ true → IsMet
    met orderly Arrive b kind =
        let there : (message.0.to ≡ 0) × ((machine.nodes == 1) ≡ false) = goes Arrive b in
        let moves : IsUnitMove (arrive_of it.barrier message.0.from) it new its_sends = unit_moves Arrive b refl there in
        let fresh : is_known it.barrier message.0.from ≡ false = meetings_orderly.expected (meeting_in world it.barrier) (ArriveComes message.0.from) (orderly there.1 it its_member (is_first Arrive b refl there)) (an_arrive b) in
        let none = ap once (arrive_expected it.barrier message.0.from fresh) in
        record { stray = (let s = moves.stray in omega (arith, s, none)); directory = moves.directory }
    met orderly Leave b kind =
        let there : (message.0.to ≡ 0) × ((machine.nodes == 1) ≡ false) = goes Leave b in
        let moves : IsUnitMove (leave_of it.barrier message.0.from) it new its_sends = unit_moves Leave b refl there in
        let fresh : is_known it.barrier message.0.from ≡ false = meetings_orderly.expected (meeting_in world it.barrier) (LeaveComes message.0.from) (orderly there.1 it its_member (is_first Leave b refl there)) (a_leave b) in
        let none = ap once (leave_expected it.barrier message.0.from fresh) in
        record { stray = (let s = moves.stray in omega (arith, s, none)); directory = moves.directory }
    met orderly Go b kind =
        let there : (message.0.from ≡ 0) × ((machine.nodes == 1) ≡ false) = goes Go b in
        let first = first_node machine world.nodes it ok.numbered its_member in
        let moves = go_moves first.0.barrier (orderly there.1 first.0 first.1 first.2) b in
        record { stray = moves.left.stray; directory = moves.left.directory }
    met orderly body b kind = absurd cc

  -- Where the barrier is orderly, no message about it is stray,
  pub none_stray_of_barrier : AreRight machine world → IsOrderly machine world → (message : Message Msg) → event ≡ Arrival message → is_of_barrier message.1.body ≡ true → new.counters.stray ≡ it.counters.stray
  none_stray_of_barrier right orderly message e kind = (met right message e orderly message.1.body refl kind).stray

  -- nor touches the directory.
  pub directory_left_by_barrier : AreRight machine world → IsOrderly machine world → (message : Message Msg) → event ≡ Arrival message → is_of_barrier message.1.body ≡ true → new.directory ≡ it.directory
  directory_left_by_barrier right orderly message e kind = (met right message e orderly message.1.body refl kind).directory

  -- ---- how the parts change

  module _ (later : World) (nodes_is : later.nodes ≡ map (node_after (wind_tunnel machine) key event) world.nodes) (pending_is : later.pending ≡ placed (taken event world.pending) (news machine is world ok key event is_least)) where
    -- Its processor alone may stand elsewhere,
    stand_then : (node : ℕ) → (part_in later node).stand ≡ cond (node == it.number) (stand_in new.mode) (part_in world node).stand
    stand_then node = elim (cases_Bool (node == it.number)) [
      | inl here ↦ rw here (ap (λ (n : ℕ). (part_in later n).stand) (eqb-true node it.number here) ∙ ap stand_of (later_here machine is world ok key event is_least later nodes_is pending_is))
      | inr apart ↦ rw apart (ap stand_of (later_elsewhere machine is world ok key event is_least later nodes_is pending_is node apart))
    ]

    -- or none does.
    stand_still : stand_in new.mode ≡ stand_in it.mode → (node : ℕ) → (part_in later node).stand ≡ (part_in world node).stand
    stand_still still node = by (node == it.number) refl (stand_then node)
      where
        by : (here : Bool) → (node == it.number) ≡ here → (part_in later node).stand ≡ cond here (stand_in new.mode) (part_in world node).stand → (part_in later node).stand ≡ (part_in world node).stand
        by true here is_then = is_then ∙ still ∙ sym its_stand ∙ ap (λ (n : ℕ). (part_in world n).stand) (sym (eqb-true node it.number here))
        by false apart is_then = is_then

    module _ (taken_arrives taken_leaves taken_gos : ℕ → ℕ) (takes : IsTaken taken_arrives taken_leaves taken_gos) (arrives leaves : ℕ) (gos : List ℕ) (tells : Tells arrives leaves gos its_sends) (node : ℕ) where
      -- how many Arrive, Leave and Go are under way after it
      arrives_then : (part_in later node).arrives + taken_arrives node ≡ (part_in world node).arrives + cond (node == it.number) arrives 0
      arrives_then =
          let c = later_count machine is world ok key event is_least later nodes_is pending_is (arrives_from node) in
          let l = count_left (arrives_from node) in
          let t = takes.arrives_are node in
          let n = arrives_new it.number node its_sends its_from ∙ ap (λ (k : ℕ). cond (node == it.number) k 0) tells.arrives_is in
          omega (arith, c, l, t, n)

      leaves_then : (part_in later node).leaves + taken_leaves node ≡ (part_in world node).leaves + cond (node == it.number) leaves 0
      leaves_then =
          let c = later_count machine is world ok key event is_least later nodes_is pending_is (leaves_from node) in
          let l = count_left (leaves_from node) in
          let t = takes.leaves_are node in
          let n = leaves_new it.number node its_sends its_from ∙ ap (λ (k : ℕ). cond (node == it.number) k 0) tells.leaves_is in
          omega (arith, c, l, t, n)

      gos_then : (part_in later node).gos + taken_gos node ≡ (part_in world node).gos + once (has_node gos node)
      gos_then =
          let c = later_count machine is world ok key event is_least later nodes_is pending_is (goes_to node) in
          let l = count_left (goes_to node) in
          let t = takes.gos_are node in
          let n = gos_new node its_sends ∙ tells.gos_are node in
          omega (arith, c, l, t, n)

    -- Where a part is left, none of its messages are taken or sent.
    module _ (taken_arrives taken_leaves taken_gos : ℕ → ℕ) (takes : IsTaken taken_arrives taken_leaves taken_gos) (arrives leaves : ℕ) (tells : Tells arrives leaves [] its_sends) where
      part_left : (node : ℕ) → (part_in later node).stand ≡ (part_in world node).stand → taken_arrives node ≡ cond (node == it.number) arrives 0 → taken_leaves node ≡ cond (node == it.number) leaves 0 → taken_gos node ≡ 0 →
          part_in later node ≡ part_in world node
      part_left node stand a l g =
          same_part (part_in later node) (part_in world node) stand
          (let c = arrives_then taken_arrives taken_leaves taken_gos takes arrives leaves [] tells node in omega (arith, c, a))
          (let c = leaves_then taken_arrives taken_leaves taken_gos takes arrives leaves [] tells node in omega (arith, c, l))
          (let c : (part_in later node).gos + taken_gos node ≡ (part_in world node).gos + 0 = gos_then taken_arrives taken_leaves taken_gos takes arrives leaves [] tells node in omega (arith, c, g))

      -- All but its node's part are left.
      one_part : (part : Part) → part_in later it.number ≡ part → ((node : ℕ) → (node == it.number) ≡ false → (taken_arrives node ≡ 0) × (taken_leaves node ≡ 0) × (taken_gos node ≡ 0)) →
          (node : ℕ) → part_in later node ≡ with_part it.number part (part_in world) node
      one_part part here others node = by (node == it.number) refl
        where
          by : (same : Bool) → (node == it.number) ≡ same → part_in later node ≡ cond same part (part_in world node)
          by true same = ap (part_in later) (eqb-true node it.number same) ∙ here
          by false apart =
              let none = others node apart in
              part_left node (stand_then node ∙ ap (λ (b : Bool). cond b (stand_in new.mode) (part_in world node).stand) apart)
              (none.0 ∙ sym (ap (λ (b : Bool). cond b arrives 0) apart)) (none.1 ∙ sym (ap (λ (b : Bool). cond b leaves 0) apart)) none.2

    -- ---- moves

    module _ (unit : Barrier) (are : HavePlaces (meeting_in world unit)) where
      -- the part of its node
      abbrev mine : Part
      mine = part_in world it.number

      -- where its processor stands after it
      stand_here : (stand : Stand) → stand_in new.mode ≡ stand → (part_in later it.number).stand ≡ stand
      stand_here stand is_now = stand_then it.number ∙ ap (λ (b : Bool). cond b (stand_in new.mode) mine.stand) itself ∙ is_now

      -- The places are kept where nobody moves,
      nobody_moves : stand_in new.mode ≡ stand_in it.mode → Tells 0 0 [] its_sends → IsTaken (λ node. 0) (λ node. 0) (λ node. 0) → HavePlaces (meeting_in later unit)
      nobody_moves stand tells takes =
          alike_places (meeting_in world unit) (meeting_in later unit) refl
          (λ node. part_left (λ n. 0) (λ n. 0) (λ n. 0) takes 0 0 tells node (stand_still stand node) (sym (nothing (node == it.number))) (sym (nothing (node == it.number))) refl)
          are

      -- where a processor comes to the barrier,
      comes : it.mode ≡ Running → stand_in new.mode ≡ Waits → Tells 1 0 [] its_sends → IsTaken (λ node. 0) (λ node. 0) (λ node. 0) → HavePlaces (meeting_in later unit)
      comes running stand tells takes =
          let moved : Part = record mine { stand = Waits; arrives = mine.arrives + 1 } in
          let one : once (it.number == it.number) ≡ 1 = ap once itself in
          let a = arrives_then (λ n. 0) (λ n. 0) (λ n. 0) takes 1 0 [] tells it.number in
          let l = leaves_then (λ n. 0) (λ n. 0) (λ n. 0) takes 1 0 [] tells it.number in
          let g : (part_in later it.number).gos + 0 ≡ mine.gos + 0 = gos_then (λ n. 0) (λ n. 0) (λ n. 0) takes 1 0 [] tells it.number in
          let none = nothing (it.number == it.number) in
          alike_places (move_of (Come it.number) (meeting_in world unit)) (meeting_in later unit) refl
          (one_part (λ n. 0) (λ n. 0) (λ n. 0) takes 1 0 tells moved
          (same_part (part_in later it.number) moved (stand_here Waits stand) (omega (arith, a, one)) (omega (arith, l, none)) (omega (arith, g)))
          (λ node apart. (refl, refl, refl)))
          (meetings_orderly.move (meeting_in world unit) (Come it.number) are (its_stand ∙ ap stand_in running))

      -- where it leaves for good,
      quits : it.mode ≡ Running → stand_in new.mode ≡ Gone → Tells 0 1 [] its_sends → IsTaken (λ node. 0) (λ node. 0) (λ node. 0) → HavePlaces (meeting_in later unit)
      quits running stand tells takes =
          let moved : Part = record mine { stand = Gone; leaves = mine.leaves + 1 } in
          let one : once (it.number == it.number) ≡ 1 = ap once itself in
          let a = arrives_then (λ n. 0) (λ n. 0) (λ n. 0) takes 0 1 [] tells it.number in
          let l = leaves_then (λ n. 0) (λ n. 0) (λ n. 0) takes 0 1 [] tells it.number in
          let g : (part_in later it.number).gos + 0 ≡ mine.gos + 0 = gos_then (λ n. 0) (λ n. 0) (λ n. 0) takes 0 1 [] tells it.number in
          let none = nothing (it.number == it.number) in
          alike_places (move_of (Quit it.number) (meeting_in world unit)) (meeting_in later unit) refl
          (one_part (λ n. 0) (λ n. 0) (λ n. 0) takes 0 1 tells moved
          (same_part (part_in later it.number) moved (stand_here Gone stand) (omega (arith, a, none)) (omega (arith, l, one)) (omega (arith, g)))
          (λ node apart. (refl, refl, refl)))
          (meetings_orderly.move (meeting_in world unit) (Quit it.number) are (its_stand ∙ ap stand_in running))

      -- so at each step,
      steps : it.mode ≡ Running → IsTaken (λ node. 0) (λ node. 0) (λ node. 0) → (stand : Stand) → stand_in new.mode ≡ stand → Tells (waits_once stand) (gone_once stand) [] its_sends → HavePlaces (meeting_in later unit)
      steps running takes Away stand tells = nobody_moves (stand ∙ sym (ap stand_in running)) tells takes
      steps running takes Waits stand tells = comes running stand tells takes
      steps running takes Gone stand tells = quits running stand tells takes

      -- and where Go comes.
      go_comes : (message : Message Msg) → event ≡ Arrival message → message.1.body ≡ Go → 1 ≤ mine.gos → IsGoMove it new its_sends → HavePlaces (meeting_in later unit)
      go_comes message e b some move =
          let came : ℕ → ℕ = λ n. cond (message.0.from == n) 0 0 in
          let to : ℕ → ℕ = λ n. go_in n message.0.to Go in
          let takes : IsTaken came came to = body_takes message e Go b in
          let moved : Part = record mine { stand = Away; gos = mine.gos - 1 } in
          let a = arrives_then came came to takes 0 0 [] move.tells it.number in
          let l = leaves_then came came to takes 0 0 [] move.tells it.number in
          let g : (part_in later it.number).gos + once (message.0.to == it.number) ≡ mine.gos + 0 = gos_then came came to takes 0 0 [] move.tells it.number in
          let one : once (message.0.to == it.number) ≡ 1 = ap once (eq-eqb message.0.to it.number (comes_here message e)) in
          let none = nothing (message.0.from == it.number) in
          let none_new = nothing (it.number == it.number) in
          alike_places (move_of (GoComes it.number) (meeting_in world unit)) (meeting_in later unit) refl
          (one_part came came to takes 0 0 move.tells moved
          (same_part (part_in later it.number) moved (stand_here Away move.stand) (omega (arith, a, none, none_new)) (omega (arith, l, none, none_new)) (omega (arith, g, one, some)))
          (λ node apart. (nothing (message.0.from == node), nothing (message.0.from == node), ap once (ap (λ (k : ℕ). k == node) (comes_here message e) ∙ flipped it.number node ∙ apart))))
          (meetings_orderly.move (meeting_in world unit) (GoComes it.number) are some)

    -- ---- the unit answers

    module _ (came_arrives came_leaves : ℕ → ℕ) (takes : IsTaken came_arrives came_leaves (λ node. 0)) (answer : Barrier × Release) (move : IsUnitMove answer it new its_sends) where
      -- A part is as before, but for what was taken and the Go that was sent to it.
      part_answered : (part : ℕ → Part) (node : ℕ) → IsLess (part_in world node) (part node) (came_arrives node) (came_leaves node) → part_in later node ≡ with_gos (told_of answer.1) part node
      part_answered part node less =
          let a = arrives_then came_arrives came_leaves (λ n. 0) takes 0 0 (told_of answer.1) move.tells node in
          let l = leaves_then came_arrives came_leaves (λ n. 0) takes 0 0 (told_of answer.1) move.tells node in
          let g : (part_in later node).gos + 0 ≡ (part_in world node).gos + once (has_node (told_of answer.1) node) = gos_then came_arrives came_leaves (λ n. 0) takes 0 0 (told_of answer.1) move.tells node in
          let none = nothing (node == it.number) in
          let before_arrives = less.arrives_are in
          let before_leaves = less.leaves_are in
          let before_gos = less.gos_are in
          same_part (part_in later node) (with_gos (told_of answer.1) part node) (stand_still move.stand node ∙ less.stand)
          (omega (arith, a, none, before_arrives)) (omega (arith, l, none, before_leaves)) (omega (arith, g, before_gos))

    module _ (message : Message Msg) (e : event ≡ Arrival message) where
      -- the source of the message, and its part
      abbrev from : ℕ
      from = message.0.from

      abbrev its_part : Part
      its_part = part_in world from

      -- The places are kept where Arrive comes,
      arrive_comes : message.1.body ≡ Arrive → HavePlaces (meeting_in world it.barrier) → 1 ≤ its_part.arrives → IsUnitMove (arrive_of it.barrier from) it new its_sends → HavePlaces (meeting_in later (arrive_of it.barrier from).0)
      arrive_comes b are some move =
          let less : Part = record its_part { arrives = its_part.arrives - 1 } in
          let is_less : IsLess its_part less 1 0 = record { stand = refl; arrives_are = omega (arith, some); leaves_are = omega arith; gos_are = refl } in
          alike_places (move_of (ArriveComes from) (meeting_in world it.barrier)) (meeting_in later (arrive_of it.barrier from).0) refl
          (λ node. part_answered (λ n. cond (from == n) 1 0) (λ n. cond (from == n) 0 0) (body_takes message e Arrive b) (arrive_of it.barrier from) move
          (with_part from less (part_in world)) node (less_at from less (part_in world) 1 0 is_less node))
          (meetings_orderly.move (meeting_in world it.barrier) (ArriveComes from) are some)

      -- and where Leave does.
      leave_comes : message.1.body ≡ Leave → HavePlaces (meeting_in world it.barrier) → 1 ≤ its_part.leaves → IsUnitMove (leave_of it.barrier from) it new its_sends → HavePlaces (meeting_in later (leave_of it.barrier from).0)
      leave_comes b are some move =
          let less : Part = record its_part { leaves = its_part.leaves - 1 } in
          let is_less : IsLess its_part less 0 1 = record { stand = refl; arrives_are = omega arith; leaves_are = omega (arith, some); gos_are = refl } in
          alike_places (move_of (LeaveComes from) (meeting_in world it.barrier)) (meeting_in later (leave_of it.barrier from).0) refl
          (λ node. part_answered (λ n. cond (from == n) 0 0) (λ n. cond (from == n) 1 0) (body_takes message e Leave b) (leave_of it.barrier from) move
          (with_part from less (part_in world)) node (less_at from less (part_in world) 0 1 is_less node))
          (meetings_orderly.move (meeting_in world it.barrier) (LeaveComes from) are some)

    -- ---- the barrier after it

    module _ (right : AreRight machine world) (orderly : IsOrderly machine world) (several : (machine.nodes == 1) ≡ false) where
      -- in order, in a machine of several nodes
      abbrev IsInOrder : Type 0
      IsInOrder = (node : NodeState) → IsIn node later.nodes → node.number ≡ 0 → HavePlaces (meeting_in later node.barrier)

      -- The unit stays,
      same_unit : new.barrier ≡ it.barrier → ((unit : Barrier) → HavePlaces (meeting_in world unit) → HavePlaces (meeting_in later unit)) → IsInOrder
      same_unit stays keeps node member first = by (in_later machine is world ok key event is_least later nodes_is pending_is node member)
        where
          by : (node ≡ new) ⊎ (IsIn node world.nodes × (node.number ≢ it.number)) → HavePlaces (meeting_in later node.barrier)
          by (inl same) =
              subst (λ (unit : Barrier). HavePlaces (meeting_in later unit)) (sym (ap (λ (n : NodeState). n.barrier) same ∙ stays))
              (keeps it.barrier (orderly several it its_member (sym (ap (λ (n : NodeState). n.number) same ∙ (reacted machine is world ok key event is_least).number) ∙ first)))
          by (inr other) = keeps node.barrier (orderly several node other.0 first)

      -- or answers.
      its_answer : (answer : Barrier) → it.number ≡ 0 → new.barrier ≡ answer → HavePlaces (meeting_in later answer) → IsInOrder
      its_answer answer at_first stands are node member first = by (in_later machine is world ok key event is_least later nodes_is pending_is node member)
        where
          by : (node ≡ new) ⊎ (IsIn node world.nodes × (node.number ≢ it.number)) → HavePlaces (meeting_in later node.barrier)
          by (inl same) = subst (λ (unit : Barrier). HavePlaces (meeting_in later unit)) (sym (ap (λ (n : NodeState). n.barrier) same ∙ stands)) are
          by (inr other) = absurd (other.1 (first ∙ sym at_first))

      -- A step keeps the barrier in order,
      step_in_order : event ≡ Step → IsInOrder
      step_in_order e =
          let running = (step_now machine is world ok key event is_least e).0 in
          let left : IsLeft it new = subst (λ (v : Event Msg). IsLeft it (react machine it v).0) (sym e) (events_move_law.step_left machine it running) in
          let move : IsStepMove it new its_sends = subst (λ (v : Event Msg). IsStepMove it (react machine it v).0 (react machine it v).1) (sym e) (events_move_law.step machine it several running) in
          same_unit left.unit (λ unit are. steps unit are running (step_takes e) (stand_in new.mode) refl move.tells)

      module _ (message : Message Msg) (e : event ≡ Arrival message) where
        -- a message that isn't about it,
        no_move_in_order : is_of_barrier message.1.body ≡ false → IsNoMove it (after_message machine it message.0 message.1) (sent_at_message machine it message.0 message.1) → IsInOrder
        no_move_in_order other law =
            let move : IsNoMove it new its_sends = subst (λ (v : Event Msg). IsNoMove it (react machine it v).0 (react machine it v).1) (sym e) law in
            same_unit move.unit (λ unit are. nobody_moves unit are move.stand move.tells (takes_none message e message.1.body refl other))

        -- and any message,
        message_in_order : IsWantedIn it.mode message.1 → (body : Body) → message.1.body ≡ body → IsInOrder
        message_in_order wanted Arrive b =
            let there : (message.0.to ≡ 0) × ((machine.nodes == 1) ≡ false) = goes right message e Arrive b in
            let first = is_first right message e Arrive b refl there in
            let move : IsUnitMove (arrive_of it.barrier message.0.from) it new its_sends = unit_moves right message e Arrive b refl there in
            its_answer (arrive_of it.barrier message.0.from).0 first move.unit (arrive_comes message e b (orderly several it its_member first) (an_arrive right message e b) move)
        message_in_order wanted Leave b =
            let there : (message.0.to ≡ 0) × ((machine.nodes == 1) ≡ false) = goes right message e Leave b in
            let first = is_first right message e Leave b refl there in
            let move : IsUnitMove (leave_of it.barrier message.0.from) it new its_sends = unit_moves right message e Leave b refl there in
            its_answer (leave_of it.barrier message.0.from).0 first move.unit (leave_comes message e b (orderly several it its_member first) (a_leave right message e b) move)
        message_in_order wanted Go b =
            let first = first_node machine world.nodes it ok.numbered its_member in
            let move = go_moves right message e first.0.barrier (orderly several first.0 first.1 first.2) b in
            same_unit move.left.unit (λ unit are. go_comes unit are message e b (a_go right message e b) move)
        message_in_order wanted (DataS bytes) b = no_move_in_order (ap is_of_barrier b) (events_move_law.copy machine it message.0 message.1 (ap comes_from_home b) wanted)
        message_in_order wanted (DataX bytes) b = no_move_in_order (ap is_of_barrier b) (events_move_law.copy machine it message.0 message.1 (ap comes_from_home b) wanted)
        message_in_order wanted Inv b = no_move_in_order (ap is_of_barrier b) (events_move_law.copy machine it message.0 message.1 (ap comes_from_home b) wanted)
        message_in_order wanted body b = no_move_in_order (ap is_of_barrier b) (events_move_law.row machine it message.0 message.1 (ap is_for_directory b))

      -- so each event does.
      in_order : ((message : Message Msg) → event ≡ Arrival message → IsWantedIn it.mode message.1) → (happened : Event Msg) → event ≡ happened → IsInOrder
      in_order asked Step e = step_in_order e
      in_order asked (Arrival message) e = message_in_order message e (asked message e) message.1.body refl

    -- Where Data that comes is asked for, the barrier stays orderly.
    pub orderly_later : AreRight machine world → IsOrderly machine world → ((message : Message Msg) → event ≡ Arrival message → IsWantedIn it.mode message.1) → IsOrderly machine later
    orderly_later right orderly asked several = in_order right orderly several asked event refl
