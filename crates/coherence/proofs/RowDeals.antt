-- A message at the home of its block does what the row of the directory's tables says.
use Rattle.std.proofs.Common.{◌≡◌, ◌≢◌, ℕ, ◌+◌, ◌/◌, ◌%◌, ◌<◌, ◌≤◌, true, List, [], ◌∷◌, ◌++◌, length, map, refl, ap, sym, ◌∙◌, subst, arith}
use Rattle.std.specs.List.{AllByRecursion}
use Rattle.std.proofs.lemmas.Bool.{eq-eqb}
use Rattle.std.proofs.lemmas.List.{append-nil, get_or-set_same, get_or-set_other}
use Rattle.wt_params.specs.declared.parts.MachineParts.{MachineParts}
use Rattle.wt_params.specs.Machine.{IsMachine, home_of}
use Rattle.wt_proto.specs.declared.message.Body.{Body}
use Rattle.wt_proto.specs.declared.message.Body.TheVariants.{GetS, GetX, PutS, PutX, DataS, DataX, Inv, InvAck, Wake, Arrive, Leave, Go}
use Rattle.wt_proto.specs.declared.message.Msg.{Msg}
use Rattle.wt_proto.specs.declared.message.Outgoing.{Outgoing}
use Rattle.wt_proto.specs.declared.message.Stamped.{Stamped}
use Rattle.dir1sw.specs.declared.home.DirAct.{DirAct}
use Rattle.dir1sw.specs.declared.home.DirAct.TheVariants.{Done, Trap, Stray}
use Rattle.dir1sw.specs.Homes.{count_of, row_of, place_of, block_of, with_block, fresh_block}
use Rattle.trap_handler.specs.Trap.{invalidation, targets_of, busy_after}
use Rattle.node.specs.declared.state.NodeState.{NodeState}
use Rattle.node.specs.declared.state.Send.{Send}
use Rattle.node.specs.Handled.{Handled, sent_at}
use Rattle.node.specs.DirectoryMessage.{trap_sends, act_by, directory_message_of}
use Rattle.node.specs.React.{stamped_from, message_by, message_of, react_to_message, counted_message}
use Rattle.node.proofs.TrapRows.{silent_trap}
use Rattle.coherence.specs.Entries.{called_by, all_sends, is_stray}
use Rattle.coherence.specs.Meetings.{once}
use Rattle.coherence.specs.Pipes.{not_to_home_of}
use Rattle.coherence.specs.RowDeals.{is_for_directory, outgoing, IsRowDone, RowsDeal}
use Rattle.coherence.proofs.RowSends.{AllGoBack, all_go_back}

-- sends without their times
abbrev pub unsent : List Send → List Outgoing
unsent sends = map (λ (send : Send). record { to = send.to; msg = send.msg }) sends

stamped_unsent : (machine : MachineParts) (from sequence : ℕ) (sends : List Send) → outgoing (stamped_from machine from sequence sends) ≡ unsent sends
stamped_unsent machine from sequence [] = refl
stamped_unsent machine from sequence (send ∷ sends) = ap (λ (rest : List Outgoing). record { to = send.to; msg = send.msg } ∷ rest) (stamped_unsent machine from (sequence + 1) sends)

unsent_at : (time : ℕ) (sends : List Outgoing) → unsent (map (sent_at time) sends) ≡ sends
unsent_at time [] = refl
unsent_at time (first ∷ rest) = ap (λ (l : List Outgoing). first ∷ l) (unsent_at time rest)

unsent_both : (one other : List Send) → unsent (one ++ other) ≡ unsent one ++ unsent other
unsent_both [] other = refl
unsent_both (first ∷ rest) other = ap (λ (l : List Outgoing). record { to = first.to; msg = first.msg } ∷ l) (unsent_both rest other)

-- messages of a row, with their stamps
about_block : (nodes block : ℕ) (sends : List Stamped) → AllGoBack nodes block (outgoing sends) → AllByRecursion (λ (send : Stamped). (send.msg.block ≡ block) × (not_to_home_of send.msg.body ≡ 1)) sends
about_block nodes block [] back = tt
about_block nodes block (first ∷ rest) back = ((back.0.block, back.0.back), about_block nodes block rest back.1)

pub place_inside : (machine : MachineParts) (block number : ℕ) → IsMachine machine → block < machine.blocks → home_of machine block ≡ number → block / machine.nodes < count_of machine number
place_inside machine block number is exists home = grind arith

-- two blocks of one home stand at different places
apart_places : (nodes block other : ℕ) → 1 ≤ nodes → other % nodes ≡ block % nodes → (other ≢ block) → (other / nodes ≢ block / nodes)
apart_places nodes block other some same apart at = apart (grind arith)

-- what is done before the sends are stamped
pub record IsDone (machine : MachineParts) (from : ℕ) (msg : Msg) (old : NodeState) (handled : Handled) : Type 0 where
  pub home : block_of handled.node.directory msg.block ≡ (row_of old.directory from msg).home
  pub others : (other : ℕ) → home_of machine other ≡ old.number → (other ≢ msg.block) → block_of handled.node.directory other ≡ block_of old.directory other
  pub sent : unsent handled.sends ≡ all_sends (place_of old.directory msg.block from) (row_of old.directory from msg)
  pub stray : handled.node.counters.stray ≡ old.counters.stray + once (is_stray (row_of old.directory from msg).act)
  pub mode : handled.node.mode ≡ old.mode
  pub cache : handled.node.cache ≡ old.cache

module _ (machine : MachineParts) (time from : ℕ) (msg : Msg) (old : NodeState) (is : IsMachine machine) (machine_is : old.directory.machine ≡ machine) (count : length old.directory.blocks ≡ count_of machine old.number)
    (exists : msg.block < machine.blocks) (home : home_of machine msg.block ≡ old.number) where
  nodes_is : old.directory.machine.nodes ≡ machine.nodes
  nodes_is = ap (λ (m : MachineParts). m.nodes) machine_is

  kept : block_of (with_block msg.block (row_of old.directory from msg).home old.directory) msg.block ≡ (row_of old.directory from msg).home
  kept =
      get_or-set_same old.directory.blocks (msg.block / old.directory.machine.nodes) (row_of old.directory from msg).home (fresh_block old.directory.machine)
      (rw nodes_is (let inside = place_inside machine msg.block old.number is exists home in omega (arith, count)))

  beside : (other : ℕ) → home_of machine other ≡ old.number → (other ≢ msg.block) → block_of (with_block msg.block (row_of old.directory from msg).home old.directory) other ≡ block_of old.directory other
  beside other here apart =
      get_or-set_other old.directory.blocks (msg.block / old.directory.machine.nodes) (other / old.directory.machine.nodes) (row_of old.directory from msg).home (fresh_block old.directory.machine)
      (subst (λ (n : ℕ). other / n ≢ msg.block / n) (sym nodes_is) (apart_places machine.nodes msg.block other is.nodes.at_least (here ∙ sym home) apart))

  acts : (act : DirAct) → (row_of old.directory from msg).act ≡ act →
      IsDone machine from msg old (act_by machine time (map (sent_at time) (row_of old.directory from msg).sends) (record old { directory = with_block msg.block (row_of old.directory from msg).home old.directory }) act)
  acts Done at = record {
    home = kept;
    others = beside;
    sent = unsent_at time (row_of old.directory from msg).sends ∙ sym (ap (λ (a : DirAct). (row_of old.directory from msg).sends ++ called_by old.directory.machine.nodes msg.block a) at ∙ append-nil (row_of old.directory from msg).sends);
    stray = rw at (omega arith);
    mode = refl;
    cache = refl;
  }
  acts Stray at = record {
    home = kept;
    others = beside;
    sent = unsent_at time (row_of old.directory from msg).sends ∙ sym (ap (λ (a : DirAct). (row_of old.directory from msg).sends ++ called_by old.directory.machine.nodes msg.block a) at ∙ append-nil (row_of old.directory from msg).sends);
    stray = rw at (omega arith);
    mode = refl;
    cache = refl;
  }
  acts (Trap plan) at = record {
    home = kept;
    others = beside;
    sent = unsent_both (map (sent_at time) (row_of old.directory from msg).sends) (trap_sends machine (busy_after machine plan time old.busy) plan)
        ∙ ap (λ (l : List Outgoing). l ++ unsent (trap_sends machine (busy_after machine plan time old.busy) plan)) (unsent_at time (row_of old.directory from msg).sends)
        ∙ ap (λ (l : List Outgoing). (row_of old.directory from msg).sends ++ l)
        (unsent_at (busy_after machine plan time old.busy) (map (invalidation plan.block) (targets_of machine.nodes plan.targets))
        ∙ ap (λ (b : ℕ). map (invalidation b) (targets_of machine.nodes plan.targets)) (silent_trap (place_of old.directory msg.block from) msg.body (block_of old.directory msg.block) plan at).block
        ∙ ap (λ (n : ℕ). map (invalidation msg.block) (targets_of n plan.targets)) (sym nodes_is))
        ∙ sym (ap (λ (a : DirAct). (row_of old.directory from msg).sends ++ called_by old.directory.machine.nodes msg.block a) at);
    stray = rw at (omega arith);
    mode = refl;
    cache = refl;
  }

  pub row_done : IsDone machine from msg old (directory_message_of machine time from msg old)
  unfolding directory_message_of
  row_done = rw (eq-eqb (home_of machine msg.block) old.number home) (acts (row_of old.directory from msg).act refl)

pub rows_deal_law : RowsDeal
unfolding react_to_message message_of
rows_deal_law machine node key msg is kind exists home = by msg.body kind
  where
    about : Body → Msg
    about body = record { block = msg.block; body = body }

    stamped : (body : Body) → IsDone machine key.from (about body) (counted_message key node) (message_by machine key.time key.from msg.block body (counted_message key node)) →
        IsRowDone machine node key.from (about body) (react_to_message machine node key (about body)).0 (react_to_message machine node key (about body)).1
    stamped body done =
        let handled = message_by machine key.time key.from msg.block body (counted_message key node) in
        let place = place_of node.directory msg.block key.from in
        let sent = stamped_unsent machine handled.node.number handled.node.counters.sent handled.sends ∙ done.sent in
        record {
          home = done.home;
          others = done.others;
          sent = sent;
          about = about_block place.nodes msg.block (react_to_message machine node key (about body)).1
              (subst (λ (l : List Outgoing). AllGoBack place.nodes msg.block l) (sym sent) (all_go_back place body (block_of node.directory msg.block)));
          stray = done.stray;
          mode = done.mode;
          cache = done.cache;
        }

    done : (body : Body) → IsDone machine key.from (about body) (counted_message key node) (directory_message_of machine key.time key.from (about body) (counted_message key node))
    done body = row_done machine key.time key.from (about body) (counted_message key node) is.numbers is.directory.machine_is is.directory.count exists home

    by : (body : Body) → is_for_directory body ≡ true → IsRowDone machine node key.from (about body) (react_to_message machine node key (about body)).0 (react_to_message machine node key (about body)).1
    by GetS k = stamped GetS (done GetS)
    by (GetX had) k = stamped (GetX had) (done (GetX had))
    by PutS k = stamped PutS (done PutS)
    by (PutX bytes) k = stamped (PutX bytes) (done (PutX bytes))
    by (InvAck bytes) k = stamped (InvAck bytes) (done (InvAck bytes))
    by Wake k = stamped Wake (done Wake)
    by (DataS bytes) k = absurd cc
    by (DataX bytes) k = absurd cc
    by Inv k = absurd cc
    by Arrive k = absurd cc
    by Leave k = absurd cc
    by Go k = absurd cc
