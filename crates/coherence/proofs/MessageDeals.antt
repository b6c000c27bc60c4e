-- What a message does to a block at the node to which it comes is some deals.
use Rattle.std.proofs.Common.{◌≡◌, ◌≢◌, ℕ, ◌≤◌, ◌⊎◌, Bool, true, false, cond, List, [], ◌∷◌, ◌++◌, map, length, Option, Some, None, refl, ap, sym, ◌∙◌, subst, inl, inr, append-nil}
use Rattle.std.specs.Prelude.{◌==◌, ◌&&◌, IfSome}
use Rattle.std.proofs.lemmas.Bool.{cases_Bool, cases_eq, eq-eqb, ne_eqb, eqb-true}
use Rattle.wt_params.specs.declared.parts.MachineParts.{MachineParts}
use Rattle.wt_params.specs.Machine.{IsMachine, home_of}
use Rattle.rv_exec.specs.declared.effect.Effect.{Effect}
use Rattle.rv_exec.specs.declared.effect.Effect.TheVariants.{Next, Load, Store, Cico, Call, Break, BadTarget, Illegal}
use Rattle.rv_exec.specs.Widths.{store_width_of}
use Rattle.wt_proto.specs.declared.directory.TrapPlan.{TrapPlan}
use Rattle.wt_proto.specs.declared.key.Key.{Key}
use Rattle.wt_proto.specs.declared.message.Body.{Body}
use Rattle.wt_proto.specs.declared.message.Body.TheVariants.{GetS, GetX, PutS, PutX, DataS, DataX, Inv, InvAck, Wake, Arrive, Leave, Go}
use Rattle.wt_proto.specs.declared.message.Msg.{Msg}
use Rattle.wt_proto.specs.declared.message.Outgoing.{Outgoing}
use Rattle.wt_proto.specs.Messages.{data_of}
use Rattle.wt_proto.specs.declared.mode.Mode.{Mode}
use Rattle.wt_proto.specs.declared.mode.Mode.TheVariants.{Running, Waiting, InBarrier, Stopped}
use Rattle.block_tags.specs.declared.tag.Tag.TheVariants.{Invalid}
use Rattle.discrete_events.specs.Simulation.{Arrival}
use Rattle.target_cache.specs.declared.line.Line.{Line}
use Rattle.target_cache.specs.Lines.{written_line, tag_by}
use Rattle.target_cache.specs.Cached.{Cached, line_of, write_of, replaced_of, install_of}
use Rattle.target_cache.proofs.CacheLaws.{line_after_install}
use Rattle.dir1sw.specs.declared.home.DirAct.{DirAct}
use Rattle.dir1sw.specs.declared.home.DirAct.TheVariants.{Done, Trap, Stray}
use Rattle.dir1sw.specs.Table.{grant_body}
use Rattle.dir1sw.specs.Homes.{row_of, place_of, block_of, with_block}
use Rattle.target_barrier.specs.declared.barrier.Release.{Release}
use Rattle.target_barrier.specs.declared.barrier.Release.TheVariants as releases
use Rattle.target_barrier.specs.Barrier.{Barrier, arrive_of, leave_of}
use Rattle.trap_handler.specs.Trap.{invalidation, targets_of, busy_after}
use Rattle.node.specs.declared.state.NodeState.{NodeState}
use Rattle.node.specs.declared.state.Send.{Send}
use Rattle.node.specs.State.{with_cache, one_stray}
use Rattle.node.specs.Handled.{Handled, quiet, sending, sent_at, gives_back}
use Rattle.node.specs.SharedAccess.{offset_of, stored_value}
use Rattle.node.specs.DirectoryMessage.{trap_sends, act_by, directory_message_of}
use Rattle.node.specs.DataMessage.{asks_for, effect_at, resumed, replacing, installed, fill_with, data_message_of}
use Rattle.node.specs.InvMessage.{dirty_bytes, inv_by, inv_message_of}
use Rattle.node.specs.BarrierMessage.{go_to, release_by, with_barrier, has_unit, arrive_message_of, leave_message_of, go_by, go_message_of}
use Rattle.node.specs.React.{message_by, message_of, react_to_message, record_of, counted_message}
use Rattle.node.specs.Sound.{CacheFits, ModeFits, WaitsFor, Asks}
use Rattle.node.proofs.Accesses.{some_sets, installed_fits}
use Rattle.node.proofs.DataKept.{asked}
use Rattle.coherence.specs.Block.{Copy}
use Rattle.coherence.specs.Pipes.{not_to_home_of, not_from_home_of}
use Rattle.coherence.specs.Steps.{ack_body}
use Rattle.coherence.specs.Deals.{wanted_in, copy_by, copy_of, cell_of, is_from_home, body_if, sent_home, said, DealsWith, stores_to, IsWantedIn, MessagesDeal}
use Rattle.coherence.specs.Deals.Deal.{Gives, Writes, Fills, Drops}
use Rattle.coherence.proofs.CacheCopies.{copy_none, copy_dropped, other_dropped, line_written, other_written, IsReplaced, other_installed, replaced_differs}
use Rattle.coherence.proofs.RowSends.{AllGoBack, calls_back, row_goes_back}
use Rattle.coherence.proofs.StepDeals.{told, IsDealt, stores_here, stamped_said, sent_here, sent_elsewhere, same_part, waiting_here, waiting_elsewhere, put_body_goes}

-- ---- messages that don't go to a home

told_outgoing : (time : ℕ) (sends : List Outgoing) → told (map (sent_at time) sends) ≡ map (λ (o : Outgoing). o.msg) sends
told_outgoing time [] = refl
told_outgoing time (first ∷ rest) = ap (λ (l : List Msg). first.msg ∷ l) (told_outgoing time rest)

not_for_home : (block : ℕ) (msg : Msg) → not_to_home_of msg.body ≡ 1 → body_if ((msg.block == block) && (not_to_home_of msg.body == 0)) msg ≡ []
not_for_home block msg back = by (msg.block == block)
  where
    by : (here : Bool) → body_if (here && (not_to_home_of msg.body == 0)) msg ≡ []
    by true = rw back refl
    by false = refl

none_home : (block nodes about : ℕ) (sends : List Outgoing) → AllGoBack nodes about sends → sent_home block (map (λ (o : Outgoing). o.msg) sends) ≡ []
none_home block nodes about [] back = refl
none_home block nodes about (first ∷ rest) back = rw (not_for_home block first.msg back.0.back) (none_home block nodes about rest back.1)

home_append : (block : ℕ) (one other : List Msg) → sent_home block one ≡ [] → sent_home block other ≡ [] → sent_home block (one ++ other) ≡ []
home_append block [] other none_one none_other = none_other
home_append block (first ∷ rest) other none_one none_other = elim (cases_Bool ((first.block == block) && (not_to_home_of first.body == 0))) [
  | inl is ↦ absurd (let e : first.body ∷ sent_home block rest ≡ [] = rw is at none_one in cc)
  | inr is ↦ rw is (home_append block rest other (rw is at none_one) none_other)
]

gos_home : (block time : ℕ) (nodes : List ℕ) → sent_home block (told (go_to time nodes)) ≡ []
gos_home block time [] = refl
gos_home block time (first ∷ rest) = rw (not_for_home block (record { block = 0; body = Go }) refl) (gos_home block time rest)

-- a message that doesn't come from a home
pub not_of_home : (block : ℕ) (msg : Msg) → not_from_home_of msg.body ≡ 1 → body_if (is_from_home block msg) msg ≡ []
not_of_home block msg other = by (msg.block == block)
  where
    by : (here : Bool) → body_if (here && (not_from_home_of msg.body == 0)) msg ≡ []
    by true = rw other refl
    by false = refl

-- that comes from this block's
of_home : (block : ℕ) (body : Body) → not_from_home_of body ≡ 0 → body_if (is_from_home block (record { block = block; body = body })) (record { block = block; body = body }) ≡ body ∷ []
of_home block body comes = rw (eq-eqb block block refl, comes) refl

-- or from another's
of_another : (block other : ℕ) (body : Body) → (other ≢ block) → body_if (is_from_home block (record { block = other; body = body })) (record { block = other; body = body }) ≡ []
of_another block other body apart = rw (ne_eqb other block apart) refl

-- who waits for a block of this kind asks for it
pub waits_for : (mode : Mode) (block : ℕ) (exclusive : Bool) → wanted_in block mode ≡ Some exclusive → (mode ≡ Waiting block exclusive) × (asks_for mode block exclusive ≡ true)
waits_for Running block exclusive is = absurd (let e : None ≡ Some exclusive = is in cc)
waits_for InBarrier block exclusive is = absurd (let e : None ≡ Some exclusive = is in cc)
waits_for (Stopped cause) block exclusive is = absurd (let e : None ≡ Some exclusive = is in cc)
waits_for (Waiting wanted x) block exclusive is = elim (cases_Bool (wanted == block)) [
  | inl same ↦
      let e : Some x ≡ Some exclusive = rw same at is in
      let kind : x ≡ exclusive = cc in
      (ap (λ (b : ℕ). Waiting b x) (eqb-true wanted block same) ∙ ap (λ (y : Bool). Waiting block y) kind, asks x exclusive kind same)
  | inr apart ↦ absurd (let e : None ≡ Some exclusive = rw apart at is in cc)
]
  where
    asks : (x y : Bool) → x ≡ y → (wanted == block) ≡ true → asks_for (Waiting wanted x) block y ≡ true
    asks true true kind same = rw same refl
    asks false false kind same = rw same refl
    asks true false kind same = absurd cc
    asks false true kind same = absurd cc

-- ---- a block that has come

-- The processor runs again, with the line in its cache, or with it and a store in it.
record IsWritten (machine : MachineParts) (line : Line) (old : NodeState) (handled : Handled) : Type 0 where
  offset : ℕ
  width : ℕ
  value : ℕ
  cache : handled.node.cache ≡ write_of line.block offset width value (install_of line old.cache)
  writable : line.writable ≡ true
  at : stores_to machine handled.deed line.block ≡ true

record IsResumed (machine : MachineParts) (line : Line) (old : NodeState) (handled : Handled) : Type 0 where
  mode : handled.node.mode ≡ Running
  cache : (handled.node.cache ≡ install_of line old.cache) ⊎ IsWritten machine line old handled

installed_mode : (line : Line) (old : NodeState) → (installed line old).mode ≡ Running
installed_mode line old = refl

pub installed_cache : (line : Line) (old : NodeState) → (installed line old).cache ≡ install_of line old.cache
installed_cache line old = by (replaced_of line old.cache)
  where
    by : (replaced : Option Line) → (replacing replaced (with_cache (install_of line old.cache) old)).cache ≡ install_of line old.cache
    by None = refl
    by (Some other) = refl

resumes : (machine : MachineParts) (time : ℕ) (line : Line) (old : NodeState) (sends : List Send) (effect : Option Effect) → Asks machine line.block line.writable effect →
    IsResumed machine line old (sending sends (resumed machine time line.block (installed line old) effect))
resumes machine time line old sends (Some (Load op rd address)) asks = record { mode = refl; cache = inl (installed_cache line old) }
resumes machine time line old sends (Some (Store op address value)) asks = record {
  mode = refl;
  cache = inr (record {
    offset = offset_of machine address;
    width = store_width_of op;
    value = value;
    cache = ap (λ (c : Cached). write_of line.block (offset_of machine address) (store_width_of op) value c) (installed_cache line old);
    writable = asks.0;
    at = stores_here machine address (store_width_of op) (stored_value op value) line.block asks.1.here;
  });
}
resumes machine time line old sends (Some (Cico op address)) asks = record { mode = refl; cache = inl (installed_cache line old) }
resumes machine time line old sends (Some (Next pc cost)) asks = absurd asks
resumes machine time line old sends (Some Call) asks = absurd asks
resumes machine time line old sends (Some Break) asks = absurd asks
resumes machine time line old sends (Some (BadTarget target)) asks = absurd asks
resumes machine time line old sends (Some Illegal) asks = absurd asks
resumes machine time line old sends None asks = absurd asks

module _ (machine : MachineParts) (block time : ℕ) (up rest : List Body) (old : NodeState) (is : IsMachine machine) (fits : CacheFits machine old.cache) (mode_fits : ModeFits machine old old.mode) where
  some : 1 ≤ old.cache.machine.sets
  some = some_sets machine old.cache is fits

  ways : 1 ≤ old.cache.machine.ways
  ways = subst (λ (m : MachineParts). 1 ≤ m.ways) (sym fits.machine_is) is.ways.at_least

  abbrev Dealt : List Body → Handled → Type 0
  Dealt down handled = IsDealt machine block up down rest old handled

  -- Nothing is done to the block.
  stays : (down : List Body) (handled : Handled) → down ≡ rest → wanted_in block handled.node.mode ≡ wanted_in block old.mode → copy_of handled.node.cache block ≡ copy_of old.cache block →
      sent_home block (told handled.sends) ≡ [] → Dealt down handled
  stays down handled front wants copy sends = rw front (record {
    deal = record {
      deals = [];
      may = tt;
      is = same_part _ _ _ _ _ _ rest wants copy (ap (λ (l : List Body). up ++ l) sends ∙ append-nil up);
      keeps = λ none value. refl;
    };
  })

  -- nor by what isn't from a home
  passes : (msg : Msg) (handled : Handled) → not_from_home_of msg.body ≡ 1 → wanted_in block handled.node.mode ≡ wanted_in block old.mode → handled.node.cache ≡ old.cache →
      sent_home block (told handled.sends) ≡ [] → Dealt (body_if (is_from_home block msg) msg ++ rest) handled
  passes msg handled other wants cache sends =
      stays _ handled (ap (λ (l : List Body). l ++ rest) (not_of_home block msg other)) wants (ap (λ (c : Cached). copy_of c block) cache) sends

  -- ---- Inv

  drops_here : (line : Option Line) → line_of old.cache block ≡ line → Dealt (Inv ∷ rest) (inv_by machine time block old line)
  drops_here None held = record {
    deal = record {
      deals = Drops rest ∷ [];
      may = (refl, tt);
      is = same_part _ _ _ _ _ _ rest refl (copy_dropped old.cache block fits.sound some)
          (ap (λ (l : List Body). up ++ l) (sent_here block (InvAck None) refl ∙ ap (λ (c : Option Copy). ack_body c ∷ []) (ap copy_by (sym held))));
      keeps = λ none value. refl;
    };
  }
  drops_here (Some line) held = record {
    deal = record {
      deals = Drops rest ∷ [];
      may = (refl, tt);
      is = same_part _ _ _ _ _ _ rest refl (copy_dropped old.cache block fits.sound some)
          (ap (λ (l : List Body). up ++ l) (sent_here block (InvAck (dirty_bytes line)) refl ∙ ap (λ (c : Option Copy). ack_body c ∷ []) (ap copy_by (sym held))));
      keeps = λ none value. refl;
    };
  }

  drops_another : (target : ℕ) (line : Option Line) → (target ≢ block) → Dealt rest (inv_by machine time target old line)
  drops_another target None apart = stays _ _ refl refl (other_dropped old.cache target block fits.sound some (λ e. apart (sym e))) (sent_elsewhere block target (InvAck None) apart)
  drops_another target (Some line) apart = stays _ _ refl refl (other_dropped old.cache target block fits.sound some (λ e. apart (sym e))) (sent_elsewhere block target (InvAck (dirty_bytes line)) apart)

  pub drops : (target : ℕ) → Dealt (body_if (is_from_home block (record { block = target; body = Inv })) (record { block = target; body = Inv }) ++ rest) (inv_message_of machine time target old)
  unfolding inv_message_of
  drops target = elim (cases_eq target block) [
    | inl same ↦ subst (λ (b : ℕ). Dealt (body_if (is_from_home block (record { block = b; body = Inv })) (record { block = b; body = Inv }) ++ rest) (inv_by machine time b old (line_of old.cache b))) (sym same)
        (rw (of_home block Inv refl) (drops_here (line_of old.cache block) refl))
    | inr apart ↦ rw (of_another block target Inv apart) (drops_another target (line_of old.cache target) apart)
  ]

  -- ---- Data

  module _ (line : Line) (size : length line.bytes ≡ machine.block_bytes) (waiting : WaitsFor machine old line.block line.writable) (asks : old.mode ≡ Waiting line.block line.writable) (handled : Handled) (resumed : IsResumed machine line old handled) where
    -- the cache with the line
    stored_fits : CacheFits machine (install_of line old.cache)
    stored_fits = installed_fits machine old.cache line is fits waiting.exists size waiting.absent

    stored_some : 1 ≤ (install_of line old.cache).machine.sets
    stored_some = some_sets machine (install_of line old.cache) is stored_fits

    is_there : line_of (install_of line old.cache) line.block ≡ Some line
    is_there = line_after_install old.cache line fits.sound some ways waiting.absent

    was_absent : copy_of old.cache line.block ≡ None
    was_absent = copy_none (line_of old.cache line.block) waiting.absent

    no_line : line_of old.cache line.block ≡ None
    no_line = by (line_of old.cache line.block) waiting.absent
      where
        by : (found : Option Line) → tag_by found ≡ Invalid → found ≡ None
        by None absent = refl
        by (Some other) absent = absurd (let e : Some (record { writable = other.writable; bytes = other.bytes }) ≡ None = copy_none (Some other) absent in cc)

    -- Another block is left, or goes where its line is replaced.
    another_copy : (line.block ≢ block) → copy_of handled.node.cache block ≡ copy_of (install_of line old.cache) block
    another_copy apart = by resumed.cache
      where
        by : (handled.node.cache ≡ install_of line old.cache) ⊎ IsWritten machine line old handled → copy_of handled.node.cache block ≡ copy_of (install_of line old.cache) block
        by (inl same) = ap (λ (c : Cached). copy_of c block) same
        by (inr written) =
            ap (λ (c : Cached). copy_of c block) written.cache
            ∙ other_written (install_of line old.cache) line.block written.offset written.width written.value block stored_fits.sound stored_some (λ e. apart (sym e))

    mode_before : (line.block ≢ block) → wanted_in block old.mode ≡ None
    mode_before apart = ap (λ (m : Mode). wanted_in block m) asks ∙ waiting_elsewhere block line.block line.writable apart

    mode_after : wanted_in block handled.node.mode ≡ None
    mode_after = ap (λ (m : Mode). wanted_in block m) resumed.mode

    fills_another : (line.block ≢ block) → (replaced : Option Line) → replaced_of line old.cache ≡ replaced → handled.sends ≡ gives_back machine time replaced → Dealt rest handled
    fills_another apart None found sends =
        stays rest handled refl (mode_after ∙ sym (mode_before apart))
        (another_copy apart ∙ ap copy_by ((other_installed old.cache line block fits.sound some ways (λ e. apart (sym e))).kept found))
        (ap (λ (l : List Send). sent_home block (told l)) sends)
    fills_another apart (Some gone) found sends = elim (cases_eq gone.block block) [
      | inl same ↦ record {
        deal = record {
          deals = Gives (record { writable = gone.writable; bytes = gone.bytes }) ∷ [];
          may = (ap copy_by (beside.gone gone found same).0, tt);
          is = same_part _ _ _ _ _ _ rest (mode_after ∙ sym (mode_before apart)) (another_copy apart ∙ ap copy_by (beside.gone gone found same).1)
              (ap (λ (l : List Body). up ++ l)
              (ap (λ (l : List Send). sent_home block (told l)) sends
              ∙ ap (λ (b : ℕ). sent_home block (record { block = b; body = cond gone.writable (PutX gone.bytes) PutS } ∷ [])) same
              ∙ sent_here block (cond gone.writable (PutX gone.bytes) PutS) (put_body_goes gone)));
          keeps = λ none value. refl;
        };
      }
      | inr differ ↦
          stays rest handled refl (mode_after ∙ sym (mode_before apart)) (another_copy apart ∙ ap copy_by (beside.other gone found differ))
          (ap (λ (l : List Send). sent_home block (told l)) sends ∙ sent_elsewhere block gone.block (cond gone.writable (PutX gone.bytes) PutS) differ)
    ]
      where
        beside : IsReplaced block (replaced_of line old.cache) (line_of old.cache block) (line_of (install_of line old.cache) block)
        beside = other_installed old.cache line block fits.sound some ways (λ e. apart (sym e))

    -- what is given back isn't about the block itself
    back_elsewhere : (replaced : Option Line) → replaced_of line old.cache ≡ replaced → handled.sends ≡ gives_back machine time replaced → sent_home line.block (told handled.sends) ≡ []
    back_elsewhere None found sends = ap (λ (l : List Send). sent_home line.block (told l)) sends
    back_elsewhere (Some gone) found sends =
        ap (λ (l : List Send). sent_home line.block (told l)) sends
        ∙ sent_elsewhere line.block gone.block (cond gone.writable (PutX gone.bytes) PutS) (replaced_differs old.cache line gone ways no_line found)

    fills_here : line.block ≡ block → handled.sends ≡ gives_back machine time (replaced_of line old.cache) → Dealt (grant_body line.writable line.bytes ∷ rest) handled
    fills_here same sends = by resumed.cache
      where
        quiet_home : up ++ sent_home block (told handled.sends) ≡ up
        quiet_home = ap (λ (l : List Body). up ++ l) (subst (λ (b : ℕ). sent_home b (told handled.sends) ≡ []) same (back_elsewhere (replaced_of line old.cache) refl sends)) ∙ append-nil up

        wants : wanted_in block old.mode ≡ Some line.writable
        wants = ap (λ (m : Mode). wanted_in block m) asks ∙ ap (λ (b : ℕ). wanted_in block (Waiting b line.writable)) same ∙ waiting_here block line.writable

        there : line_of (install_of line old.cache) block ≡ Some line
        there = subst (λ (b : ℕ). line_of (install_of line old.cache) b ≡ Some line) same is_there

        by : (handled.node.cache ≡ install_of line old.cache) ⊎ IsWritten machine line old handled → Dealt (grant_body line.writable line.bytes ∷ rest) handled
        by (inl kept) = record {
          deal = record {
            deals = Fills line.writable line.bytes rest ∷ [];
            may = ((wants, refl), tt);
            is = same_part _ _ _ _ _ _ rest mode_after (ap (λ (c : Cached). copy_of c block) kept ∙ ap copy_by there) quiet_home;
            keeps = λ none value. refl;
          };
        }
        by (inr written) =
            let new = (written_line written.offset written.width written.value line).bytes in
            record {
              deal = record {
                deals = Fills line.writable line.bytes rest ∷ Writes line.bytes new ∷ [];
                may = ((wants, refl), (ap (λ (x : Bool). let copy : Copy = record { writable = x; bytes = line.bytes } in Some copy) written.writable, tt));
                is = same_part _ _ _ _ _ _ rest mode_after
                    (ap (λ (c : Cached). copy_of c block) written.cache
                    ∙ ap (λ (b : ℕ). copy_of (write_of b written.offset written.width written.value (install_of line old.cache)) block) same
                    ∙ ap copy_by (line_written (install_of line old.cache) block written.offset written.width written.value line stored_fits.sound stored_some there written.writable)
                    ∙ ap (λ (x : Bool). let copy : Copy = record { writable = x; bytes = new } in Some copy) written.writable)
                    quiet_home;
                keeps = λ none value. absurd (let f : true ≡ false = sym (subst (λ (b : ℕ). stores_to machine handled.deed b ≡ true) same written.at) ∙ none in cc);
              };
            }

  abbrev data_msg : Line → Msg
  data_msg line = record { block = line.block; body = grant_body line.writable line.bytes }

  grant_comes : (exclusive : Bool) (bytes : List ℕ) → not_from_home_of (grant_body exclusive bytes) ≡ 0
  grant_comes true bytes = refl
  grant_comes false bytes = refl

  pub fills : (line : Line) → length line.bytes ≡ machine.block_bytes → wanted_in line.block old.mode ≡ Some line.writable →
      Dealt (body_if (is_from_home block (data_msg line)) (data_msg line) ++ rest) (data_message_of machine time line old)
  unfolding data_message_of
  fills line size wants = rw waits.1 (by (cases_eq line.block block))
    where
      waits : (old.mode ≡ Waiting line.block line.writable) × (asks_for old.mode line.block line.writable ≡ true)
      waits = waits_for old.mode line.block line.writable wants

      waiting : WaitsFor machine old line.block line.writable
      waiting = asked machine old line.block line.writable mode_fits waits.1

      resumed_so : IsResumed machine line old (fill_with machine time line old)
      resumed_so = resumes machine time line old (gives_back machine time (replaced_of line old.cache)) (effect_at machine old) waiting.asks

      by : (line.block ≡ block) ⊎ (line.block ≢ block) → Dealt (body_if (is_from_home block (data_msg line)) (data_msg line) ++ rest) (fill_with machine time line old)
      by (inl same) =
          rw (eq-eqb line.block block same, grant_comes line.writable line.bytes)
          (fills_here line size waiting waits.0 (fill_with machine time line old) resumed_so same refl)
      by (inr apart) =
          rw (ne_eqb line.block block apart)
          (fills_another line size waiting waits.0 (fill_with machine time line old) resumed_so apart (replaced_of line old.cache) refl refl)

  -- ---- the directory and the barrier

  acts : (nodes about : ℕ) (node : NodeState) (sends : List Outgoing) (act : DirAct) → node.mode ≡ old.mode → node.cache ≡ old.cache → AllGoBack nodes about sends →
      (msg : Msg) → not_from_home_of msg.body ≡ 1 → Dealt (body_if (is_from_home block msg) msg ++ rest) (act_by machine time (map (sent_at time) sends) node act)
  acts nodes about node sends act mode cache back msg other = by act
    where
      said_none : sent_home block (told (map (sent_at time) sends)) ≡ []
      said_none = ap (λ (l : List Msg). sent_home block l) (told_outgoing time sends) ∙ none_home block nodes about sends back

      told_both : (one two : List Send) → told (one ++ two) ≡ told one ++ told two
      told_both [] two = refl
      told_both (first ∷ more) two = ap (λ (l : List Msg). first.msg ∷ l) (told_both more two)

      trap_none : (plan : TrapPlan) → sent_home block (told (trap_sends machine (busy_after machine plan time node.busy) plan)) ≡ []
      trap_none plan =
          ap (λ (l : List Msg). sent_home block l) (told_outgoing (busy_after machine plan time node.busy) (map (invalidation plan.block) (targets_of machine.nodes plan.targets)))
          ∙ none_home block machine.nodes plan.block _ (calls_back machine.nodes plan.block (targets_of machine.nodes plan.targets))

      by : (a : DirAct) → Dealt (body_if (is_from_home block msg) msg ++ rest) (act_by machine time (map (sent_at time) sends) node a)
      by Done = passes msg (act_by machine time (map (sent_at time) sends) node Done) other (ap (λ (m : Mode). wanted_in block m) mode) cache said_none
      by Stray = passes msg (act_by machine time (map (sent_at time) sends) node Stray) other (ap (λ (m : Mode). wanted_in block m) mode) cache said_none
      by (Trap plan) =
          passes msg (act_by machine time (map (sent_at time) sends) node (Trap plan)) other (ap (λ (m : Mode). wanted_in block m) mode) cache
          (ap (λ (l : List Msg). sent_home block l) (told_both (map (sent_at time) sends) (trap_sends machine (busy_after machine plan time node.busy) plan))
          ∙ home_append block _ _ said_none (trap_none plan))

  strays : (msg : Msg) → not_from_home_of msg.body ≡ 1 → Dealt (body_if (is_from_home block msg) msg ++ rest) (quiet (one_stray old))
  strays msg other = passes msg (quiet (one_stray old)) other refl refl refl

  pub directs : (from : ℕ) (msg : Msg) → not_from_home_of msg.body ≡ 1 → Dealt (body_if (is_from_home block msg) msg ++ rest) (directory_message_of machine time from msg old)
  unfolding directory_message_of
  directs from msg other = elim (cases_Bool (home_of machine msg.block == old.number)) [
    | inl here ↦ rw here
        (acts old.directory.machine.nodes msg.block (record old { directory = with_block msg.block (row_of old.directory from msg).home old.directory }) (row_of old.directory from msg).sends (row_of old.directory from msg).act refl refl
        (row_goes_back (place_of old.directory msg.block from) msg.body (block_of old.directory msg.block)) msg other)
    | inr away ↦ rw away (strays msg other)
  ]

  units : (msg : Msg) → not_from_home_of msg.body ≡ 1 → (barrier : Barrier) (release : Release) → Dealt (body_if (is_from_home block msg) msg ++ rest) (release_by time (with_barrier barrier old) release)
  units msg other barrier releases.Hold = passes msg (release_by time (with_barrier barrier old) releases.Hold) other refl refl refl
  units msg other barrier releases.Stray = passes msg (release_by time (with_barrier barrier old) releases.Stray) other refl refl refl
  units msg other barrier (releases.Go nodes) = passes msg (release_by time (with_barrier barrier old) (releases.Go nodes)) other refl refl (gos_home block time nodes)

  either : (down : List Body) (test : Bool) (one two : Handled) → Dealt down one → Dealt down two → Dealt down (cond test one two)
  either down true one two is_one is_two = is_one
  either down false one two is_one is_two = is_two

  pub arrives : (from : ℕ) (msg : Msg) → not_from_home_of msg.body ≡ 1 → Dealt (body_if (is_from_home block msg) msg ++ rest) (arrive_message_of machine time from old)
  unfolding arrive_message_of
  arrives from msg other = either _ (has_unit machine old) _ _ (units msg other (arrive_of old.barrier from).0 (arrive_of old.barrier from).1) (strays msg other)

  pub leaves : (from : ℕ) (msg : Msg) → not_from_home_of msg.body ≡ 1 → Dealt (body_if (is_from_home block msg) msg ++ rest) (leave_message_of machine time from old)
  unfolding leave_message_of
  leaves from msg other = either _ (has_unit machine old) _ _ (units msg other (leave_of old.barrier from).0 (leave_of old.barrier from).1) (strays msg other)

  pub goes : (msg : Msg) → not_from_home_of msg.body ≡ 1 → Dealt (body_if (is_from_home block msg) msg ++ rest) (go_message_of machine time old)
  unfolding go_message_of
  goes msg other = by old.mode refl
    where
      by : (mode : Mode) → old.mode ≡ mode → Dealt (body_if (is_from_home block msg) msg ++ rest) (go_by machine time old mode)
      by Running at = strays msg other
      by (Waiting wanted exclusive) at = strays msg other
      by (Stopped cause) at = strays msg other
      by InBarrier at = passes msg (go_by machine time old InBarrier) other (sym (ap (λ (m : Mode). wanted_in block m) at)) refl refl

-- what a processor waits for doesn't depend on counts
pub counted_mode : (machine : MachineParts) (key : Key) (node : NodeState) (mode : Mode) → ModeFits machine node mode → ModeFits machine (counted_message key node) mode
counted_mode machine key node Running fits = tt
counted_mode machine key node (Waiting wanted exclusive) fits = record { exists = fits.exists; fetched = fits.fetched; absent = fits.absent; asks = fits.asks }
counted_mode machine key node InBarrier fits = fits
counted_mode machine key node (Stopped cause) fits = tt

pub messages_deal_law : MessagesDeal
unfolding react_to_message message_of record_of
messages_deal_law machine node key msg block up rest is wants size = by msg.body wants size
  where
    mode_fits : ModeFits machine (counted_message key node) node.mode
    mode_fits = counted_mode machine key node node.mode is.mode

    about : Body → Msg
    about body = record { block = msg.block; body = body }

    from_handled : (body : Body) → IsDealt machine block up (body_if (is_from_home block (about body)) (about body) ++ rest) rest (counted_message key node) (message_by machine key.time key.from msg.block body (counted_message key node)) →
        DealsWith (stores_to machine (record_of machine node (Arrival (key, about body))).deed block) (cell_of block up (body_if (is_from_home block (about body)) (about body) ++ rest) node)
        (cell_of block (up ++ sent_home block (said (react_to_message machine node key (about body)).1)) rest (react_to_message machine node key (about body)).0)
    from_handled body dealt =
        let handled = message_by machine key.time key.from msg.block body (counted_message key node) in
        subst (λ (msgs : List Msg). DealsWith (stores_to machine handled.deed block) (cell_of block up (body_if (is_from_home block (about body)) (about body) ++ rest) node) (cell_of block (up ++ sent_home block msgs) rest handled.node))
        (sym (stamped_said machine handled.node.number handled.node.counters.sent handled.sends))
        dealt.deal

    by : (body : Body) → IsWantedIn node.mode (about body) → IfSome (data_of body) (λ bytes. length bytes ≡ machine.block_bytes) →
        DealsWith (stores_to machine (record_of machine node (Arrival (key, about body))).deed block) (cell_of block up (body_if (is_from_home block (about body)) (about body) ++ rest) node)
        (cell_of block (up ++ sent_home block (said (react_to_message machine node key (about body)).1)) rest (react_to_message machine node key (about body)).0)
    by (DataS bytes) w s = from_handled (DataS bytes) (fills machine block key.time up rest (counted_message key node) is.numbers is.cache mode_fits (record { block = msg.block; writable = false; bytes = bytes }) s w)
    by (DataX bytes) w s = from_handled (DataX bytes) (fills machine block key.time up rest (counted_message key node) is.numbers is.cache mode_fits (record { block = msg.block; writable = true; bytes = bytes }) s w)
    by Inv w s = from_handled Inv (drops machine block key.time up rest (counted_message key node) is.numbers is.cache mode_fits msg.block)
    by Arrive w s = from_handled Arrive (arrives machine block key.time up rest (counted_message key node) is.numbers is.cache mode_fits key.from (about Arrive) refl)
    by Leave w s = from_handled Leave (leaves machine block key.time up rest (counted_message key node) is.numbers is.cache mode_fits key.from (about Leave) refl)
    by Go w s = from_handled Go (goes machine block key.time up rest (counted_message key node) is.numbers is.cache mode_fits (about Go) refl)
    by GetS w s = from_handled GetS (directs machine block key.time up rest (counted_message key node) is.numbers is.cache mode_fits key.from (about GetS) refl)
    by (GetX had) w s = from_handled (GetX had) (directs machine block key.time up rest (counted_message key node) is.numbers is.cache mode_fits key.from (about (GetX had)) refl)
    by PutS w s = from_handled PutS (directs machine block key.time up rest (counted_message key node) is.numbers is.cache mode_fits key.from (about PutS) refl)
    by (PutX bytes) w s = from_handled (PutX bytes) (directs machine block key.time up rest (counted_message key node) is.numbers is.cache mode_fits key.from (about (PutX bytes)) refl)
    by (InvAck bytes) w s = from_handled (InvAck bytes) (directs machine block key.time up rest (counted_message key node) is.numbers is.cache mode_fits key.from (about (InvAck bytes)) refl)
    by Wake w s = from_handled Wake (directs machine block key.time up rest (counted_message key node) is.numbers is.cache mode_fits key.from (about Wake) refl)
