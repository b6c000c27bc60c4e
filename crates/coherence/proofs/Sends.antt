-- Where the messages of an event go, and when they leave.
use Rattle.std.proofs.Common.{◌≡◌, ℕ, ◌≤◌, inl, inr, true, false, List, [], ◌∷◌, ◌++◌, map, Option, Some, None, refl, ap, sym, ◌∙◌, arith}
use Rattle.std.specs.Prelude.{◌==◌}
use Rattle.std.proofs.lemmas.Bool.{cases_Bool, eqb-true}
use Rattle.wt_params.specs.declared.parts.MachineParts.{MachineParts}
use Rattle.wt_params.specs.Machine.{home_of}
use Rattle.rv_exec.specs.declared.effect.Effect.{Effect}
use Rattle.rv_exec.specs.declared.effect.Effect.TheVariants.{Next, Load, Store, Cico, Call, Break, BadTarget, Illegal}
use Rattle.wt_proto.specs.declared.directory.TrapPlan.{TrapPlan}
use Rattle.wt_proto.specs.declared.key.Key.{Key}
use Rattle.wt_proto.specs.declared.message.Body.{Body}
use Rattle.wt_proto.specs.declared.message.Body.TheVariants.{GetS, GetX, PutS, PutX, DataS, DataX, Inv, InvAck, Wake, Arrive, Leave, Go}
use Rattle.wt_proto.specs.declared.message.Msg.{Msg}
use Rattle.wt_proto.specs.declared.message.Outgoing.{Outgoing}
use Rattle.wt_proto.specs.declared.mode.Mode.{Mode}
use Rattle.wt_proto.specs.declared.mode.Mode.TheVariants.{Running, Waiting, InBarrier}
use Rattle.target_cache.specs.declared.line.Line.{Line}
use Rattle.target_cache.specs.Cached.{line_of, replaced_of, install_of}
use Rattle.dir1sw.specs.declared.home.DirAct.{DirAct}
use Rattle.dir1sw.specs.declared.home.DirAct.TheVariants.{Done, Trap, Stray}
use Rattle.dir1sw.specs.Homes.{row_of, place_of, block_of, with_block}
use Rattle.target_barrier.specs.declared.barrier.Release.{Release}
use Rattle.target_barrier.specs.declared.barrier.Release.TheVariants as releases
use Rattle.target_barrier.specs.Barrier.{Barrier, arrive_of, leave_of}
use Rattle.trap_handler.specs.Trap.{invalidation, targets_of, busy_after}
use Rattle.node.specs.declared.state.NodeState.{NodeState}
use Rattle.node.specs.State.{in_mode, with_cache, step_time, next_key}
use Rattle.node.specs.Handled.{Handled, sent_at}
use Rattle.node.specs.Processor.{step_of}
use Rattle.node.specs.DirectoryMessage.{act_by, trap_sends, directory_message_of}
use Rattle.node.specs.DataMessage.{effect_at, resumed, replacing, installed, data_message_of}
use Rattle.node.specs.InvMessage.{inv_by, inv_message_of}
use Rattle.node.specs.BarrierMessage.{go_to, release_by, with_barrier, has_unit, arrive_message_of, leave_message_of, go_message_of}
use Rattle.node.specs.React.{react_to_step, message_by, message_of, react_to_message, counted_step, counted_message}
use Rattle.node.specs.Sound.{IsNode}
use Rattle.node.proofs.TrapRows.{Silence, silent_trap}
use Rattle.std.specs.List.{AllByRecursion}
use Rattle.std.proofs.Common.{subst}
use Rattle.node.specs.DataMessage.{asks_for}
use Rattle.node.specs.BarrierMessage.{go_by}
use Rattle.wt_proto.specs.declared.mode.Mode.TheVariants.{Stopped}
use Rattle.coherence.specs.RowDeals.{is_for_directory}
use Rattle.coherence.specs.Sends.{AreRightSends, IsNotOfHome, SendsAreRight}
use Rattle.coherence.proofs.Sent.{IsRight, AreRight, AreOwn, ArePlain, plain_right, plain_own, back_plain, stamped_right, stamped_own}
use Rattle.coherence.proofs.StepWalk.{walked}
use Rattle.coherence.proofs.RowSends.{ComesBack, AllGoBack, row_goes_back}

-- what a row of the directory sends from the home of its block
row_right : (machine : MachineParts) (from time block : ℕ) (sends : List Outgoing) → from ≡ home_of machine block → AllGoBack machine.nodes block sends → AreRight machine from time time (map (sent_at time) sends)
row_right machine from time block [] home back = tt
row_right machine from time block (first ∷ rest) home back = (one first.msg.body back.0.comes, row_right machine from time block rest home back.1)
  where
    about : first.msg.block ≡ block
    about = back.0.block

    here : from ≡ home_of machine first.msg.block
    here = home ∙ ap (λ (b : ℕ). home_of machine b) (sym about)

    one : (body : Body) → ComesBack machine.nodes block first.to body → IsRight machine from time time (record { at = time; to = first.to; msg = record { block = first.msg.block; body = body } })
    one (DataS bytes) comes = record { leaving = refl; leaves = refl; goes = here }
    one (DataX bytes) comes = record { leaving = refl; leaves = refl; goes = here }
    one Inv comes = record { leaving = refl; leaves = tt; goes = here }
    one Wake comes = record { leaving = refl; leaves = refl; goes = (here, comes ∙ ap (λ (b : ℕ). home_of machine b) (sym about)) }
    one GetS comes = absurd comes
    one (GetX had) comes = absurd comes
    one PutS comes = absurd comes
    one (PutX bytes) comes = absurd comes
    one (InvAck bytes) comes = absurd comes
    one Arrive comes = absurd comes
    one Leave comes = absurd comes
    one Go comes = absurd comes

-- calls of a trap, whenever they leave
calls_right : (machine : MachineParts) (from time at block : ℕ) (nodes : List ℕ) → from ≡ home_of machine block → AreRight machine from time at (map (sent_at at) (map (invalidation block) nodes))
calls_right machine from time at block [] home = tt
calls_right machine from time at block (first ∷ rest) home = (record { leaving = refl; leaves = tt; goes = home }, calls_right machine from time at block rest home)

-- ---- a step

step_law : (machine : MachineParts) (node : NodeState) → AreRightSends machine (step_time node) (react_to_step machine node).1
unfolding react_to_step
step_law machine node =
    let handled = step_of machine (step_time node) (counted_step (next_key machine node) node) in
    record {
      at = step_time node;
      not_before = omega arith;
      all = stamped_right machine handled.node.number (step_time node) (step_time node) handled.node.counters.sent handled.sends
          (subst (λ (n : ℕ). AreRight machine n (step_time node) (step_time node) handled.sends) (sym (walked machine node).number) (walked machine node).right);
    }

step_out_law : (machine : MachineParts) (node : NodeState) → AllByRecursion IsNotOfHome (react_to_step machine node).1
unfolding react_to_step
step_out_law machine node =
    let handled = step_of machine (step_time node) (counted_step (next_key machine node) node) in
    stamped_own machine handled.node.number handled.node.counters.sent handled.sends (walked machine node).own

-- ---- messages

-- The node keeps its number, and what it sends is right and leaves at one time.
pub record SendsRight (machine : MachineParts) (time : ℕ) (old : NodeState) (handled : Handled) : Type 0 where
  pub number : handled.node.number ≡ old.number
  pub at : ℕ
  pub not_before : time ≤ at
  pub sends : AreRight machine old.number time at handled.sends

-- So it is at once, and nothing of it is a home's.
pub record SendsOwn (machine : MachineParts) (time : ℕ) (old : NodeState) (handled : Handled) : Type 0 where
  pub number : handled.node.number ≡ old.number
  pub sends : AreRight machine old.number time time handled.sends
  pub own : AreOwn handled.sends

at_once : (machine : MachineParts) (time : ℕ) (old : NodeState) (handled : Handled) → handled.node.number ≡ old.number → AreRight machine old.number time time handled.sends → SendsRight machine time old handled
at_once machine time old handled number sends = record { number = number; at = time; not_before = omega arith; sends = sends }

own_right : (machine : MachineParts) (time : ℕ) (old : NodeState) (handled : Handled) → SendsOwn machine time old handled → SendsRight machine time old handled
own_right machine time old handled own = at_once machine time old handled own.number own.sends

-- what goes to a home
plain_sends : (machine : MachineParts) (time : ℕ) (old : NodeState) (handled : Handled) → handled.node.number ≡ old.number → ArePlain machine old.number time handled.sends → SendsOwn machine time old handled
plain_sends machine time old handled number plain =
    record { number = number; sends = plain_right machine old.number time handled.sends plain; own = plain_own machine old.number time handled.sends plain }

-- a block that has come
resumed_number : (machine : MachineParts) (time : ℕ) (line : Line) (old : NodeState) (effect : Option Effect) → (resumed machine time line.block (installed line old) effect).node.number ≡ old.number
resumed_number machine time line old effect = by (replaced_of line old.cache) effect
  where
    by : (replaced : Option Line) (e : Option Effect) → (resumed machine time line.block (in_mode Running (replacing replaced (with_cache (install_of line old.cache) old))) e).node.number ≡ old.number
    by None (Some (Load op rd address)) = refl
    by None (Some (Store op address value)) = refl
    by None (Some (Cico op address)) = refl
    by None (Some (Next pc cost)) = refl
    by None (Some Call) = refl
    by None (Some Break) = refl
    by None (Some (BadTarget target)) = refl
    by None (Some Illegal) = refl
    by None None = refl
    by (Some other) (Some (Load op rd address)) = refl
    by (Some other) (Some (Store op address value)) = refl
    by (Some other) (Some (Cico op address)) = refl
    by (Some other) (Some (Next pc cost)) = refl
    by (Some other) (Some Call) = refl
    by (Some other) (Some Break) = refl
    by (Some other) (Some (BadTarget target)) = refl
    by (Some other) (Some Illegal) = refl
    by (Some other) None = refl

data_own : (machine : MachineParts) (time : ℕ) (line : Line) (old : NodeState) → SendsOwn machine time old (data_message_of machine time line old)
unfolding data_message_of
data_own machine time line old = elim (cases_Bool (asks_for old.mode line.block line.writable)) [
  | inl asks ↦ rw asks (plain_sends machine time old _ (resumed_number machine time line old (effect_at machine old)) (back_plain machine old.number time (replaced_of line old.cache)))
  | inr astray ↦ rw astray (plain_sends machine time old _ refl (back_plain machine old.number time (Some line)))
]

inv_own : (machine : MachineParts) (time block : ℕ) (old : NodeState) → SendsOwn machine time old (inv_message_of machine time block old)
unfolding inv_message_of
inv_own machine time block old = by (line_of old.cache block)
  where
    by : (line : Option Line) → SendsOwn machine time old (inv_by machine time block old line)
    by None = record { number = refl; sends = (record { leaving = refl; leaves = refl; goes = refl }, tt); own = (refl, tt) }
    by (Some line) = record { number = refl; sends = (record { leaving = refl; leaves = refl; goes = refl }, tt); own = (refl, tt) }

-- A row sends at once, but one with a trap sends nothing itself: its messages are the trap's.
directory_right : (machine : MachineParts) (time from : ℕ) (msg : Msg) (old : NodeState) → old.directory.machine ≡ machine → SendsRight machine time old (directory_message_of machine time from msg old)
unfolding directory_message_of
directory_right machine time from msg old is = elim (cases_Bool (home_of machine msg.block == old.number)) [
  | inl here ↦ rw here (acts (sym (eqb-true (home_of machine msg.block) old.number here)) (row_of old.directory from msg).act refl)
  | inr away ↦ rw away (at_once machine time old _ refl tt)
]
  where
    sends : old.number ≡ home_of machine msg.block → AreRight machine old.number time time (map (sent_at time) (row_of old.directory from msg).sends)
    sends home = row_right machine old.number time msg.block (row_of old.directory from msg).sends home
        (subst (λ (m : MachineParts). AllGoBack m.nodes msg.block (row_of old.directory from msg).sends) is (row_goes_back (place_of old.directory msg.block from) msg.body (block_of old.directory msg.block)))

    calls : old.number ≡ home_of machine msg.block → (plan : TrapPlan) (at : ℕ) → Silence msg.block plan (row_of old.directory from msg) →
        AreRight machine old.number time at (map (sent_at time) (row_of old.directory from msg).sends ++ trap_sends machine at plan)
    calls home plan at silent = subst (λ (l : List Outgoing). AreRight machine old.number time at (map (sent_at time) l ++ trap_sends machine at plan)) (sym silent.sends)
        (calls_right machine old.number time at plan.block (targets_of machine.nodes plan.targets) (home ∙ ap (λ (b : ℕ). home_of machine b) (sym silent.block)))

    acts : old.number ≡ home_of machine msg.block → (act : DirAct) → (row_of old.directory from msg).act ≡ act →
        SendsRight machine time old (act_by machine time (map (sent_at time) (row_of old.directory from msg).sends) (record old { directory = with_block msg.block (row_of old.directory from msg).home old.directory }) act)
    acts home Done at = record { number = refl; at = time; not_before = omega arith; sends = sends home }
    acts home Stray at = record { number = refl; at = time; not_before = omega arith; sends = sends home }
    acts home (Trap plan) at = record {
      number = refl;
      at = busy_after machine plan time old.busy;
      not_before = omega arith;
      sends = calls home plan (busy_after machine plan time old.busy) (silent_trap (place_of old.directory msg.block from) msg.body (block_of old.directory msg.block) plan at);
    }

gos_right : (machine : MachineParts) (from time : ℕ) (nodes : List ℕ) → from ≡ 0 → (machine.nodes == 1) ≡ false → AreRight machine from time time (go_to time nodes)
gos_right machine from time [] first several = tt
gos_right machine from time (node ∷ nodes) first several = (record { leaving = refl; leaves = refl; goes = (first, several) }, gos_right machine from time nodes first several)

gos_own : (time : ℕ) (nodes : List ℕ) → AreOwn (go_to time nodes)
gos_own time [] = tt
gos_own time (node ∷ nodes) = (refl, gos_own time nodes)

unit_own : (machine : MachineParts) (time : ℕ) (old : NodeState) (barrier : Barrier) (release : Release) → old.number ≡ 0 → (machine.nodes == 1) ≡ false → SendsOwn machine time old (release_by time (with_barrier barrier old) release)
unit_own machine time old barrier releases.Hold first several = record { number = refl; sends = tt; own = tt }
unit_own machine time old barrier releases.Stray first several = record { number = refl; sends = tt; own = tt }
unit_own machine time old barrier (releases.Go nodes) first several = record { number = refl; sends = gos_right machine old.number time nodes first several; own = gos_own time nodes }

-- the unit is at node 0 of several
has_unit_where : (machine : MachineParts) (old : NodeState) → has_unit machine old ≡ true → (old.number ≡ 0) × ((machine.nodes == 1) ≡ false)
has_unit_where machine old is = elim (cases_Bool (old.number == 0)) [
  | inl first ↦ elim (cases_Bool (machine.nodes == 1)) [
    | inl alone ↦ absurd (let e : false ≡ true = rw (first, alone) at is in cc)
    | inr several ↦ (eqb-true old.number 0 first, several)
  ]
  | inr other ↦ absurd (let e : false ≡ true = rw other at is in cc)
]

arrive_own : (machine : MachineParts) (time from : ℕ) (old : NodeState) → SendsOwn machine time old (arrive_message_of machine time from old)
unfolding arrive_message_of
arrive_own machine time from old = elim (cases_Bool (has_unit machine old)) [
  | inl unit ↦ let at = has_unit_where machine old unit in rw unit (unit_own machine time old (arrive_of old.barrier from).0 (arrive_of old.barrier from).1 at.0 at.1)
  | inr none ↦ rw none (record { number = refl; sends = tt; own = tt })
]

leave_own : (machine : MachineParts) (time from : ℕ) (old : NodeState) → SendsOwn machine time old (leave_message_of machine time from old)
unfolding leave_message_of
leave_own machine time from old = elim (cases_Bool (has_unit machine old)) [
  | inl unit ↦ let at = has_unit_where machine old unit in rw unit (unit_own machine time old (leave_of old.barrier from).0 (leave_of old.barrier from).1 at.0 at.1)
  | inr none ↦ rw none (record { number = refl; sends = tt; own = tt })
]

go_own : (machine : MachineParts) (time : ℕ) (old : NodeState) → SendsOwn machine time old (go_message_of machine time old)
unfolding go_message_of
go_own machine time old = by old.mode
  where
    by : (mode : Mode) → SendsOwn machine time old (go_by machine time old mode)
    by Running = record { number = refl; sends = tt; own = tt }
    by (Waiting block exclusive) = record { number = refl; sends = tt; own = tt }
    by (Stopped cause) = record { number = refl; sends = tt; own = tt }
    by InBarrier = record { number = refl; sends = tt; own = tt }

-- a message that isn't the directory's
own_law : (machine : MachineParts) (time from : ℕ) (msg : Msg) (old : NodeState) → is_for_directory msg.body ≡ false → SendsOwn machine time old (message_by machine time from msg.block msg.body old)
own_law machine time from msg old kind = by msg.body kind
  where
    by : (body : Body) → is_for_directory body ≡ false → SendsOwn machine time old (message_by machine time from msg.block body old)
    by (DataS bytes) k = data_own machine time (record { block = msg.block; writable = false; bytes = bytes }) old
    by (DataX bytes) k = data_own machine time (record { block = msg.block; writable = true; bytes = bytes }) old
    by Inv k = inv_own machine time msg.block old
    by Arrive k = arrive_own machine time from old
    by Leave k = leave_own machine time from old
    by Go k = go_own machine time old
    by GetS k = absurd cc
    by (GetX had) k = absurd cc
    by PutS k = absurd cc
    by (PutX bytes) k = absurd cc
    by (InvAck bytes) k = absurd cc
    by Wake k = absurd cc

right_law : (machine : MachineParts) (time from : ℕ) (msg : Msg) (old : NodeState) → old.directory.machine ≡ machine → SendsRight machine time old (message_by machine time from msg.block msg.body old)
right_law machine time from msg old is = by msg.body
  where
    about : Body → Msg
    about body = record { block = msg.block; body = body }

    others : (body : Body) → is_for_directory body ≡ false → SendsRight machine time old (message_by machine time from msg.block body old)
    others body kind = own_right machine time old (message_by machine time from msg.block body old) (own_law machine time from (about body) old kind)

    by : (body : Body) → SendsRight machine time old (message_by machine time from msg.block body old)
    by (DataS bytes) = others (DataS bytes) refl
    by (DataX bytes) = others (DataX bytes) refl
    by Inv = others Inv refl
    by Arrive = others Arrive refl
    by Leave = others Leave refl
    by Go = others Go refl
    by GetS = directory_right machine time from (about GetS) old is
    by (GetX had) = directory_right machine time from (about (GetX had)) old is
    by PutS = directory_right machine time from (about PutS) old is
    by (PutX bytes) = directory_right machine time from (about (PutX bytes)) old is
    by (InvAck bytes) = directory_right machine time from (about (InvAck bytes)) old is
    by Wake = directory_right machine time from (about Wake) old is

message_law : (machine : MachineParts) (node : NodeState) (key : Key) (msg : Msg) → IsNode machine node → AreRightSends machine key.time (react_to_message machine node key msg).1
unfolding react_to_message message_of
message_law machine node key msg is =
    let right = right_law machine key.time key.from msg (counted_message key node) is.directory.machine_is in
    let handled = message_by machine key.time key.from msg.block msg.body (counted_message key node) in
    record {
      at = right.at;
      not_before = right.not_before;
      all = stamped_right machine handled.node.number key.time right.at handled.node.counters.sent handled.sends
          (subst (λ (n : ℕ). AreRight machine n key.time right.at handled.sends) (sym right.number) right.sends);
    }

message_out_law : (machine : MachineParts) (node : NodeState) (key : Key) (msg : Msg) → is_for_directory msg.body ≡ false → AllByRecursion IsNotOfHome (react_to_message machine node key msg).1
unfolding react_to_message message_of
message_out_law machine node key msg kind =
    let handled = message_by machine key.time key.from msg.block msg.body (counted_message key node) in
    stamped_own machine handled.node.number handled.node.counters.sent handled.sends (own_law machine key.time key.from msg (counted_message key node) kind).own

pub sends_are_right_law : SendsAreRight
sends_are_right_law = record {
  step = λ machine node is. step_law machine node;
  message = message_law;
  step_out = step_out_law;
  message_out = message_out_law;
}
