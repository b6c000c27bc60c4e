-- What an event of a node does at the barrier.
use Rattle.std.proofs.Common.{◌≡◌, ℕ, ◌+◌, ◌<◌, inl, inr, Bool, true, false, List, [], ◌∷◌, ◌++◌, map, Option, Some, None, refl, ap, sym, ◌∙◌, arith}
use Rattle.std.specs.Prelude.{◌==◌}
use Rattle.std.proofs.lemmas.Bool.{cases_Bool, ne_eqb, eqb-true}
use Rattle.wt_params.specs.declared.parts.MachineParts.{MachineParts}
use Rattle.wt_params.specs.Machine.{home_of}
use Rattle.dir_list.specs.Lists.{AreRising}
use Rattle.rv_exec.specs.declared.effect.Effect.{Effect}
use Rattle.rv_exec.specs.declared.effect.Effect.TheVariants.{Next, Load, Store, Cico, Call, Break, BadTarget, Illegal}
use Rattle.wt_proto.specs.declared.key.Key.{Key}
use Rattle.wt_proto.specs.declared.message.Body.{Body}
use Rattle.wt_proto.specs.declared.message.Body.TheVariants.{GetS, GetX, PutS, PutX, DataS, DataX, Inv, InvAck, Wake, Arrive, Leave, Go}
use Rattle.wt_proto.specs.declared.message.Msg.{Msg}
use Rattle.wt_proto.specs.declared.message.Outgoing.{Outgoing}
use Rattle.wt_proto.specs.declared.mode.Mode.{Mode}
use Rattle.wt_proto.specs.declared.mode.Mode.TheVariants.{Running, Waiting, InBarrier}
use Rattle.wt_proto.specs.NodeSets.{has_node}
use Rattle.target_cache.specs.declared.line.Line.{Line}
use Rattle.target_cache.specs.Cached.{line_of, replaced_of, install_of}
use Rattle.dir1sw.specs.declared.home.DirAct.{DirAct}
use Rattle.dir1sw.specs.declared.home.DirAct.TheVariants.{Done, Trap, Stray}
use Rattle.dir1sw.specs.Homes.{row_of, place_of, block_of, with_block}
use Rattle.target_barrier.specs.declared.barrier.Release.{Release}
use Rattle.target_barrier.specs.declared.barrier.Release.TheVariants as releases
use Rattle.target_barrier.specs.Barrier.{Barrier, arrive_of, leave_of}
use Rattle.trap_handler.specs.Trap.{invalidation, targets_of, busy_after}
use Rattle.node.specs.declared.state.NodeState.{NodeState}
use Rattle.node.specs.declared.state.Send.{Send}
use Rattle.node.specs.State.{in_mode, with_cache, step_time, next_key}
use Rattle.node.specs.Handled.{Handled, sent_at, gives_back}
use Rattle.node.specs.Processor.{step_of}
use Rattle.node.specs.DirectoryMessage.{act_by, directory_message_of}
use Rattle.node.specs.DataMessage.{effect_at, resumed, replacing, installed, data_message_of}
use Rattle.node.specs.InvMessage.{inv_by, inv_message_of}
use Rattle.node.specs.BarrierMessage.{go_to, release_by, with_barrier, has_unit, arrive_message_of, leave_message_of, go_message_of}
use Rattle.node.specs.React.{stamped_from, react_to_step, message_by, message_of, react_to_message, counted_step, counted_message}
use Rattle.node.specs.Sound.{IsNode}
use Rattle.node.proofs.Barriers.{ReleaseFits, arrive_fits, leave_fits}
use Rattle.coherence.specs.Deals.{wanted_in, IsWantedIn}
use Rattle.coherence.specs.RowDeals.{is_for_directory}
use Rattle.coherence.specs.Meetings.{once, told_of}
use Rattle.coherence.specs.Meetings.Stand.{Away}
use Rattle.coherence.specs.Moves.{stand_in, Tells, IsLeft, IsStepMove, IsNoMove, is_stray_release, IsUnitMove, IsGoMove, answer_to, is_for_unit, comes_from_home, EventsMove}
use Rattle.coherence.proofs.RowSends.{AllGoBack, calls_back, row_goes_back}
use Rattle.coherence.proofs.Sent.{AreOthers, plain_others, back_plain, tells_none}
use Rattle.coherence.proofs.StepWalk.{walked}
use Rattle.coherence.proofs.MessageDeals.{waits_for}

outgoing_others : (time nodes about : ℕ) (sends : List Outgoing) → AllGoBack nodes about sends → AreOthers (map (sent_at time) sends)
outgoing_others time nodes about [] back = tt
outgoing_others time nodes about (first ∷ rest) back = (back.0.other, outgoing_others time nodes about rest back.1)

both_others : (one two : List Send) → AreOthers one → AreOthers two → AreOthers (one ++ two)
both_others [] two is_one is_two = is_two
both_others (first ∷ rest) two is_one is_two = (is_one.0, both_others rest two is_one.1 is_two)

-- ---- a step

step_law : (machine : MachineParts) (node : NodeState) → (machine.nodes == 1) ≡ false → node.mode ≡ Running →
    IsStepMove node (react_to_step machine node).0 (react_to_step machine node).1
unfolding react_to_step
step_law machine node several running =
    let handled = step_of machine (step_time node) (counted_step (next_key machine node) node) in
    record { tells = (walked machine node).told several running machine handled.node.number handled.node.counters.sent }

step_left_law : (machine : MachineParts) (node : NodeState) → IsLeft node (react_to_step machine node).0
unfolding react_to_step
step_left_law machine node =
    let left = (walked machine node).left in
    record { directory = left.directory; unit = left.unit; stray = left.stray }

-- ---- a message that isn't about the barrier

-- The processor stands where it stood, and nothing about the barrier is sent.
pub record IsStill (old : NodeState) (handled : Handled) : Type 0 where
  pub stand : stand_in handled.node.mode ≡ stand_in old.mode
  pub unit : handled.node.barrier ≡ old.barrier
  pub others : AreOthers handled.sends

no_move : (machine : MachineParts) (old : NodeState) (handled : Handled) (from sequence : ℕ) → IsStill old handled → Tells 0 0 [] (stamped_from machine from sequence handled.sends)
no_move machine old handled from sequence still = tells_none machine from sequence handled.sends still.others

-- a block that has come
resumed_mode : (machine : MachineParts) (time : ℕ) (line : Line) (old : NodeState) (effect : Option Effect) →
    ((resumed machine time line.block (installed line old) effect).node.mode ≡ Running) × ((resumed machine time line.block (installed line old) effect).node.barrier ≡ (installed line old).barrier)
    × ((resumed machine time line.block (installed line old) effect).node.directory ≡ (installed line old).directory) × ((resumed machine time line.block (installed line old) effect).node.counters.stray ≡ (installed line old).counters.stray)
resumed_mode machine time line old (Some (Load op rd address)) = (refl, refl, refl, refl)
resumed_mode machine time line old (Some (Store op address value)) = (refl, refl, refl, refl)
resumed_mode machine time line old (Some (Cico op address)) = (refl, refl, refl, refl)
resumed_mode machine time line old (Some (Next pc cost)) = (refl, refl, refl, refl)
resumed_mode machine time line old (Some Call) = (refl, refl, refl, refl)
resumed_mode machine time line old (Some Break) = (refl, refl, refl, refl)
resumed_mode machine time line old (Some (BadTarget target)) = (refl, refl, refl, refl)
resumed_mode machine time line old (Some Illegal) = (refl, refl, refl, refl)
resumed_mode machine time line old None = (refl, refl, refl, refl)

installed_left : (line : Line) (old : NodeState) → IsLeft old (installed line old)
installed_left line old = by (replaced_of line old.cache)
  where
    by : (replaced : Option Line) → IsLeft old (in_mode Running (replacing replaced (with_cache (install_of line old.cache) old)))
    by None = record { directory = refl; unit = refl; stray = refl }
    by (Some other) = record { directory = refl; unit = refl; stray = refl }

waiting_stand : (mode : Mode) (block : ℕ) (exclusive : Bool) → mode ≡ Waiting block exclusive → stand_in mode ≡ Away
waiting_stand mode block exclusive is = ap stand_in is

data_still : (machine : MachineParts) (time : ℕ) (line : Line) (old : NodeState) → wanted_in line.block old.mode ≡ Some line.writable →
    IsStill old (data_message_of machine time line old) × IsLeft old (data_message_of machine time line old).node
unfolding data_message_of
data_still machine time line old wants =
    let waits = waits_for old.mode line.block line.writable wants in
    let is = resumed_mode machine time line old (effect_at machine old) in
    let left = installed_left line old in
    rw waits.1 (
      record {
        stand = ap stand_in is.0 ∙ sym (waiting_stand old.mode line.block line.writable waits.0);
        unit = is.1 ∙ left.unit;
        others = plain_others machine old.number time (gives_back machine time (replaced_of line old.cache)) (back_plain machine old.number time (replaced_of line old.cache));
      },
      record { directory = is.2 ∙ left.directory; unit = is.1 ∙ left.unit; stray = is.3 ∙ left.stray },
    )

inv_still : (machine : MachineParts) (time block : ℕ) (old : NodeState) → IsStill old (inv_message_of machine time block old) × IsLeft old (inv_message_of machine time block old).node
unfolding inv_message_of
inv_still machine time block old = by (line_of old.cache block)
  where
    by : (line : Option Line) → IsStill old (inv_by machine time block old line) × IsLeft old (inv_by machine time block old line).node
    by None = (record { stand = refl; unit = refl; others = (refl, tt) }, record { directory = refl; unit = refl; stray = refl })
    by (Some line) = (record { stand = refl; unit = refl; others = (refl, tt) }, record { directory = refl; unit = refl; stray = refl })

row_still : (machine : MachineParts) (time from : ℕ) (msg : Msg) (old : NodeState) → IsStill old (directory_message_of machine time from msg old)
unfolding directory_message_of
row_still machine time from msg old = elim (cases_Bool (home_of machine msg.block == old.number)) [
  | inl here ↦ rw here (acts (row_of old.directory from msg).act)
  | inr away ↦ rw away (record { stand = refl; unit = refl; others = tt })
]
  where
    sends : AreOthers (map (sent_at time) (row_of old.directory from msg).sends)
    sends = outgoing_others time old.directory.machine.nodes msg.block (row_of old.directory from msg).sends (row_goes_back (place_of old.directory msg.block from) msg.body (block_of old.directory msg.block))

    acts : (act : DirAct) → IsStill old (act_by machine time (map (sent_at time) (row_of old.directory from msg).sends) (record old { directory = with_block msg.block (row_of old.directory from msg).home old.directory }) act)
    acts Done = record { stand = refl; unit = refl; others = sends }
    acts Stray = record { stand = refl; unit = refl; others = sends }
    acts (Trap plan) = record {
      stand = refl;
      unit = refl;
      others = both_others (map (sent_at time) (row_of old.directory from msg).sends) _ sends
          (outgoing_others (busy_after machine plan time old.busy) machine.nodes plan.block (map (invalidation plan.block) (targets_of machine.nodes plan.targets)) (calls_back machine.nodes plan.block (targets_of machine.nodes plan.targets)));
    }

copy_law : (machine : MachineParts) (node : NodeState) (key : Key) (msg : Msg) → comes_from_home msg.body ≡ true → IsWantedIn node.mode msg →
    IsNoMove node (react_to_message machine node key msg).0 (react_to_message machine node key msg).1 × IsLeft node (react_to_message machine node key msg).0
unfolding react_to_message message_of
copy_law machine node key msg kind wants = by msg.body kind wants
  where
    about : Body → Msg
    about body = record { block = msg.block; body = body }

    stamped : (body : Body) → IsStill (counted_message key node) (message_by machine key.time key.from msg.block body (counted_message key node)) × IsLeft (counted_message key node) (message_by machine key.time key.from msg.block body (counted_message key node)).node →
        IsNoMove node (react_to_message machine node key (about body)).0 (react_to_message machine node key (about body)).1 × IsLeft node (react_to_message machine node key (about body)).0
    stamped body is =
        let handled = message_by machine key.time key.from msg.block body (counted_message key node) in (
          record { stand = is.0.stand; unit = is.0.unit; tells = no_move machine (counted_message key node) handled handled.node.number handled.node.counters.sent is.0 },
          record { directory = is.1.directory; unit = is.1.unit; stray = is.1.stray },
        )

    by : (body : Body) → comes_from_home body ≡ true → IsWantedIn node.mode (about body) →
        IsNoMove node (react_to_message machine node key (about body)).0 (react_to_message machine node key (about body)).1 × IsLeft node (react_to_message machine node key (about body)).0
    by (DataS bytes) k w = stamped (DataS bytes) (data_still machine key.time (record { block = msg.block; writable = false; bytes = bytes }) (counted_message key node) w)
    by (DataX bytes) k w = stamped (DataX bytes) (data_still machine key.time (record { block = msg.block; writable = true; bytes = bytes }) (counted_message key node) w)
    by Inv k w = stamped Inv (inv_still machine key.time msg.block (counted_message key node))
    by GetS k w = absurd cc
    by (GetX had) k w = absurd cc
    by PutS k w = absurd cc
    by (PutX bytes) k w = absurd cc
    by (InvAck bytes) k w = absurd cc
    by Wake k w = absurd cc
    by Arrive k w = absurd cc
    by Leave k w = absurd cc
    by Go k w = absurd cc

row_law : (machine : MachineParts) (node : NodeState) (key : Key) (msg : Msg) → is_for_directory msg.body ≡ true →
    IsNoMove node (react_to_message machine node key msg).0 (react_to_message machine node key msg).1
unfolding react_to_message message_of
row_law machine node key msg kind = by msg.body kind
  where
    about : Body → Msg
    about body = record { block = msg.block; body = body }

    stamped : (body : Body) → IsStill (counted_message key node) (message_by machine key.time key.from msg.block body (counted_message key node)) →
        IsNoMove node (react_to_message machine node key (about body)).0 (react_to_message machine node key (about body)).1
    stamped body is =
        let handled = message_by machine key.time key.from msg.block body (counted_message key node) in
        record { stand = is.stand; unit = is.unit; tells = no_move machine (counted_message key node) handled handled.node.number handled.node.counters.sent is }

    by : (body : Body) → is_for_directory body ≡ true → IsNoMove node (react_to_message machine node key (about body)).0 (react_to_message machine node key (about body)).1
    by GetS k = stamped GetS (row_still machine key.time key.from (about GetS) (counted_message key node))
    by (GetX had) k = stamped (GetX had) (row_still machine key.time key.from (about (GetX had)) (counted_message key node))
    by PutS k = stamped PutS (row_still machine key.time key.from (about PutS) (counted_message key node))
    by (PutX bytes) k = stamped (PutX bytes) (row_still machine key.time key.from (about (PutX bytes)) (counted_message key node))
    by (InvAck bytes) k = stamped (InvAck bytes) (row_still machine key.time key.from (about (InvAck bytes)) (counted_message key node))
    by Wake k = stamped Wake (row_still machine key.time key.from (about Wake) (counted_message key node))
    by (DataS bytes) k = absurd cc
    by (DataX bytes) k = absurd cc
    by Inv k = absurd cc
    by Arrive k = absurd cc
    by Leave k = absurd cc
    by Go k = absurd cc

-- ---- messages about the barrier

-- a node below the first isn't in a rising list
absent : (limit below : ℕ) (nodes : List ℕ) (node : ℕ) → AreRising limit below nodes → node < below → has_node nodes node ≡ false
absent limit below [] node rising under = refl
absent limit below (first ∷ rest) node rising under =
    let apart : (first == node) ≡ false = ne_eqb first node (λ e. let r = rising.0 in omega (arith, r, e)) in
    rw apart (absent limit (first + 1) rest node rising.2 (let r = rising.0 in omega (arith, r)))

-- Go to each of some nodes, each of which stands in the list once
gos_told : (machine : MachineParts) (from sequence time limit below : ℕ) (nodes : List ℕ) → AreRising limit below nodes → Tells 0 0 nodes (stamped_from machine from sequence (go_to time nodes))
gos_told machine from sequence time limit below [] rising = record { arrives_is = refl; leaves_is = refl; gos_are = λ node. refl }
gos_told machine from sequence time limit below (first ∷ rest) rising =
    let later = gos_told machine from (sequence + 1) time limit (first + 1) rest rising.2 in
    record {
      arrives_is = let a = later.arrives_is in omega (arith, a);
      leaves_is = let a = later.leaves_is in omega (arith, a);
      gos_are = λ node. elim (cases_Bool (first == node)) [
        | inl same ↦
            let at : first ≡ node = eqb-true first node same in
            let none = later.gos_are node ∙ ap once (absent limit (first + 1) rest node rising.2 (omega (arith, at))) in
            rw same (omega (arith, none))
        | inr apart ↦ let a = later.gos_are node in rw apart (omega (arith, a))
      ];
    }

-- The unit has answered.
pub record IsAnswered (answer : Barrier × Release) (old : NodeState) (handled : Handled) : Type 0 where
  pub stand : stand_in handled.node.mode ≡ stand_in old.mode
  pub directory : handled.node.directory ≡ old.directory
  pub unit : handled.node.barrier ≡ answer.0
  pub told : (machine : MachineParts) (from sequence : ℕ) → Tells 0 0 (told_of answer.1) (stamped_from machine from sequence handled.sends)
  pub stray : handled.node.counters.stray ≡ old.counters.stray + once (is_stray_release answer.1)

answers : (limit time : ℕ) (old : NodeState) (barrier : Barrier) (release : Release) → ReleaseFits limit release → IsAnswered (barrier, release) old (release_by time (with_barrier barrier old) release)
answers limit time old barrier releases.Hold fits = record { stand = refl; directory = refl; unit = refl; told = λ m from sequence. tells_none m from sequence [] tt; stray = omega arith }
answers limit time old barrier releases.Stray fits = record { stand = refl; directory = refl; unit = refl; told = λ m from sequence. tells_none m from sequence [] tt; stray = omega arith }
answers limit time old barrier (releases.Go nodes) fits = record { stand = refl; directory = refl; unit = refl; told = λ m from sequence. gos_told m from sequence time limit 0 nodes fits; stray = omega arith }

arrive_answer : (machine : MachineParts) (time from : ℕ) (old : NodeState) → has_unit machine old ≡ true → ReleaseFits machine.nodes (arrive_of old.barrier from).1 →
    IsAnswered (arrive_of old.barrier from) old (arrive_message_of machine time from old)
unfolding arrive_message_of
arrive_answer machine time from old unit fits = rw unit (answers machine.nodes time old (arrive_of old.barrier from).0 (arrive_of old.barrier from).1 fits)

leave_answer : (machine : MachineParts) (time from : ℕ) (old : NodeState) → has_unit machine old ≡ true → ReleaseFits machine.nodes (leave_of old.barrier from).1 →
    IsAnswered (leave_of old.barrier from) old (leave_message_of machine time from old)
unfolding leave_message_of
leave_answer machine time from old unit fits = rw unit (answers machine.nodes time old (leave_of old.barrier from).0 (leave_of old.barrier from).1 fits)

unit_law : (machine : MachineParts) (node : NodeState) (key : Key) (msg : Msg) → IsNode machine node → is_for_unit msg.body ≡ true → has_unit machine node ≡ true → key.from < machine.nodes →
    IsUnitMove (answer_to msg.body key.from node.barrier) node (react_to_message machine node key msg).0 (react_to_message machine node key msg).1
unfolding react_to_message message_of
unit_law machine node key msg is kind unit there = by msg.body kind
  where
    about : Body → Msg
    about body = record { block = msg.block; body = body }

    stamped : (body : Body) → IsAnswered (answer_to body key.from node.barrier) (counted_message key node) (message_by machine key.time key.from msg.block body (counted_message key node)) →
        IsUnitMove (answer_to body key.from node.barrier) node (react_to_message machine node key (about body)).0 (react_to_message machine node key (about body)).1
    stamped body done =
        let handled = message_by machine key.time key.from msg.block body (counted_message key node) in
        record { stand = done.stand; directory = done.directory; unit = done.unit; tells = done.told machine handled.node.number handled.node.counters.sent; stray = done.stray }

    by : (body : Body) → is_for_unit body ≡ true → IsUnitMove (answer_to body key.from node.barrier) node (react_to_message machine node key (about body)).0 (react_to_message machine node key (about body)).1
    by Arrive k = stamped Arrive (arrive_answer machine key.time key.from (counted_message key node) unit (arrive_fits machine node.barrier key.from is.barrier there).1)
    by Leave k = stamped Leave (leave_answer machine key.time key.from (counted_message key node) unit (leave_fits machine node.barrier key.from is.barrier).1)
    by GetS k = absurd cc
    by (GetX had) k = absurd cc
    by PutS k = absurd cc
    by (PutX bytes) k = absurd cc
    by (InvAck bytes) k = absurd cc
    by Wake k = absurd cc
    by (DataS bytes) k = absurd cc
    by (DataX bytes) k = absurd cc
    by Inv k = absurd cc
    by Go k = absurd cc

go_law : (machine : MachineParts) (node : NodeState) (key : Key) (block : ℕ) → node.mode ≡ InBarrier →
    IsGoMove node (react_to_message machine node key (record { block = block; body = Go })).0 (react_to_message machine node key (record { block = block; body = Go })).1
unfolding react_to_message message_of go_message_of
go_law machine node key block at = rw at (record {
  left = record { directory = refl; unit = refl; stray = refl };
  stand = refl;
  tells = record { arrives_is = refl; leaves_is = refl; gos_are = λ node. refl };
})

pub events_move_law : EventsMove
events_move_law = record {
  step = step_law;
  step_left = λ machine node running. step_left_law machine node;
  copy = λ machine node key msg kind wants. (copy_law machine node key msg kind wants).0;
  copy_left = λ machine node key msg kind wants. (copy_law machine node key msg kind wants).1;
  row = row_law;
  answer = unit_law;
  go = go_law;
}
