-- What a step of a processor does to a block is some deals.
use Rattle.std.proofs.Common.{◌≡◌, ◌≢◌, ℕ, ◌+◌, ◌≤◌, Bool, true, false, cond, List, [], ◌∷◌, ◌++◌, map, Option, Some, None, Result, Ok, Err, refl, ap, sym, ◌∙◌, subst, inl, inr, append-nil}
use Rattle.std.specs.Prelude.{◌==◌, ◌&&◌}
use Rattle.std.proofs.lemmas.Bool.{cases_eq, eq-eqb, ne_eqb}
use Rattle.wt_params.specs.declared.parts.MachineParts.{MachineParts}
use Rattle.wt_params.specs.Machine.{IsMachine, shared_block}
use Rattle.rv_decode.specs.declared.instr.CicoOp.{CicoOp}
use Rattle.rv_decode.specs.declared.instr.CicoOp.TheVariants.{CheckOutS, CheckOutX, CheckIn}
use Rattle.rv_decode.specs.declared.instr.LoadOp.{LoadOp}
use Rattle.rv_decode.specs.declared.instr.StoreOp.{StoreOp}
use Rattle.rv_exec.specs.declared.effect.Effect.{Effect}
use Rattle.rv_exec.specs.declared.effect.Effect.TheVariants.{Next, Load, Store, Cico, Call, Break, BadTarget, Illegal}
use Rattle.rv_exec.specs.Meaning.{address_after}
use Rattle.rv_exec.specs.Widths.{load_width_of, store_width_of}
use Rattle.priv_mem.specs.declared.fault.MemFault.{MemFault}
use Rattle.priv_mem.specs.declared.fault.MemFault.TheVariants.{Misaligned, Outside}
use Rattle.priv_mem.specs.Memory.{load_of, store_of}
use Rattle.wt_proto.specs.declared.message.Body.{Body}
use Rattle.wt_proto.specs.declared.message.Body.TheVariants.{GetS, GetX, PutS, PutX, Arrive, Leave}
use Rattle.wt_proto.specs.declared.message.Msg.{Msg}
use Rattle.wt_proto.specs.declared.mode.Cause.TheVariants as causes
use Rattle.wt_proto.specs.declared.mode.Mode.{Mode}
use Rattle.wt_proto.specs.declared.mode.Mode.TheVariants.{Running, Waiting, InBarrier}
use Rattle.wt_trace.specs.declared.record.Deed.TheVariants.{Stored}
use Rattle.block_tags.specs.declared.tag.Tag.{Tag}
use Rattle.block_tags.specs.declared.tag.Tag.TheVariants.{Invalid, ReadOnly, Writable}
use Rattle.cico_ops.specs.Annotations.{action_of}
use Rattle.target_cache.specs.declared.line.Line.{Line}
use Rattle.target_cache.specs.Lines.{written_line, tag_by}
use Rattle.target_cache.specs.Cached.{Cached, line_of, tag_of, read_of, write_of}
use Rattle.target_cache.proofs.CacheLaws.{line_is_of_block}
use Rattle.node.specs.declared.state.NodeState.{NodeState}
use Rattle.node.specs.declared.state.Send.{Send}
use Rattle.node.specs.State.{register, in_mode, one_done, step_time, next_key}
use Rattle.node.specs.Handled.{Handled, quiet, sending, stopped, gives_back, moved_on, message_to}
use Rattle.node.specs.SharedAccess.{offset_of, missed, upgraded as upgraded_node, hit_load_by, shared_load_of, stored_value, hit_store_by, shared_store_of}
use Rattle.node.specs.PrivateAccess.{load_by, load_from, store_by, store_to}
use Rattle.node.specs.Annotation.{annotated, checked_in, annotate_by, annotate_block, annotate_of}
use Rattle.node.specs.Call.{barrier_call_of, exit_of, call_of}
use Rattle.node.specs.Processor.{fetch_of, meaning_in, effect_by, execute_of, step_by, step_of}
use Rattle.node.specs.React.{stamped_from, react_to_step, record_of, counted_step}
use Rattle.node.specs.Sound.{CacheFits}
use Rattle.node.proofs.Accesses.{some_sets, unread_absent}
use Rattle.coherence.specs.Block.{Copy}
use Rattle.coherence.specs.Pipes.{not_to_home_of}
use Rattle.coherence.specs.Deals.{wanted_in, copy_by, copy_of, cell_of, body_if, sent_home, said, all_dealt, DealsWith, stores_to, StepsDeal}
use Rattle.coherence.specs.Deals.Deal.{Asks, Upgrades, Gives, Writes}
use Rattle.coherence.proofs.Cells.{part}
use Rattle.coherence.proofs.CacheCopies.{copy_none, copy_readonly, line_writable, copy_dropped, other_dropped, line_written, other_written}

-- ---- messages

-- the messages of some sends, before they are stamped
abbrev pub told : List Send → List Msg
told sends = map (λ (send : Send). send.msg) sends

pub stamped_said : (machine : MachineParts) (from sequence : ℕ) (sends : List Send) → said (stamped_from machine from sequence sends) ≡ told sends
stamped_said machine from sequence [] = refl
stamped_said machine from sequence (send ∷ sends) = ap (λ (rest : List Msg). send.msg ∷ rest) (stamped_said machine from (sequence + 1) sends)

-- one message to the home of a block
pub sent_here : (block : ℕ) (body : Body) → not_to_home_of body ≡ 0 → sent_home block (record { block = block; body = body } ∷ []) ≡ body ∷ []
sent_here block body goes = rw (eq-eqb block block refl, goes) refl

-- and of another block
pub sent_elsewhere : (block other : ℕ) (body : Body) → (other ≢ block) → sent_home block (record { block = other; body = body } ∷ []) ≡ []
sent_elsewhere block other body apart = rw (ne_eqb other block apart) refl

-- the part of a node whose copy, wish and messages are these
pub same_part : (wants wants2 : Option Bool) (copy copy2 : Option Copy) (up up2 down : List Body) → wants ≡ wants2 → copy ≡ copy2 → up ≡ up2 →
    part wants copy up down ≡ part wants2 copy2 up2 down
same_part wants wants2 copy copy2 up up2 down w c u =
    ap (λ (x : Option Bool). part x copy up down) w ∙ ap (λ (x : Option Copy). part wants2 x up down) c ∙ ap (λ (x : List Body). part wants2 copy2 x down) u

pub waiting_here : (block : ℕ) (exclusive : Bool) → wanted_in block (Waiting block exclusive) ≡ Some exclusive
waiting_here block exclusive = rw (eq-eqb block block refl) refl

pub waiting_elsewhere : (block other : ℕ) (exclusive : Bool) → (other ≢ block) → wanted_in block (Waiting other exclusive) ≡ None
waiting_elsewhere block other exclusive apart = rw (ne_eqb other block apart) refl

pub put_body_goes : (line : Line) → not_to_home_of (cond line.writable (PutX line.bytes) PutS) ≡ 0
put_body_goes line = by line.writable
  where
    by : (writable : Bool) → not_to_home_of (cond writable (PutX line.bytes) PutS) ≡ 0
    by true = refl
    by false = refl

-- a message about the barrier isn't about a block
barrier_said : (block : ℕ) (body : Body) → not_to_home_of body ≡ 1 → sent_home block (record { block = 0; body = body } ∷ []) ≡ []
barrier_said block body other = by (0 == block)
  where
    by : (here : Bool) → body_if (here && (not_to_home_of body == 0)) (record { block = 0; body = body }) ++ [] ≡ []
    by true = rw other refl
    by false = refl

-- a store to an address of a block
pub stores_here : (machine : MachineParts) (address width value block : ℕ) → shared_block machine address ≡ Some block → stores_to machine (Stored address width value) block ≡ true
stores_here machine address width value block there = rw there (eq-eqb block block refl)

-- An event deals with a block, so that this is left of what is under way from its home.
pub record IsDealt (machine : MachineParts) (block : ℕ) (up down rest : List Body) (old : NodeState) (handled : Handled) : Type 0 where
  pub deal : DealsWith (stores_to machine handled.deed block) (cell_of block up down old) (cell_of block (up ++ sent_home block (told handled.sends)) rest handled.node)

module _ (machine : MachineParts) (block time : ℕ) (up down : List Body) (old : NodeState) (is : IsMachine machine) (fits : CacheFits machine old.cache) (running : old.mode ≡ Running) where
  abbrev Dealt : Handled → Type 0
  Dealt handled = IsDealt machine block up down down old handled

  some : 1 ≤ old.cache.machine.sets
  some = some_sets machine old.cache is fits

  waits_not : wanted_in block old.mode ≡ None
  waits_not = rw running refl

  -- Nothing is done to the block.
  stays : (handled : Handled) → wanted_in block handled.node.mode ≡ None → copy_of handled.node.cache block ≡ copy_of old.cache block → sent_home block (told handled.sends) ≡ [] → Dealt handled
  stays handled wants copy sends = record {
    deal = record {
      deals = [];
      may = tt;
      is = same_part _ _ _ _ _ _ down (wants ∙ sym waits_not) copy (ap (λ (l : List Body). up ++ l) sends ∙ append-nil up);
      keeps = λ none value. refl;
    };
  }

  goes_on : (handled : Handled) → handled.node.mode ≡ old.mode → handled.node.cache ≡ old.cache → handled.sends ≡ [] → Dealt handled
  goes_on handled mode cache sends =
      stays handled (ap (λ (m : Mode). wanted_in block m) mode ∙ waits_not) (ap (λ (c : Cached). copy_of c block) cache) (ap (λ (l : List Send). sent_home block (told l)) sends)

  stops : (handled : Handled) → wanted_in block handled.node.mode ≡ None → handled.node.cache ≡ old.cache → handled.sends ≡ [] → Dealt handled
  stops handled mode cache sends = stays handled mode (ap (λ (c : Cached). copy_of c block) cache) (ap (λ (l : List Send). sent_home block (told l)) sends)

  -- ---- misses and upgrades

  asks_here : (exclusive : Bool) → copy_of old.cache block ≡ None → Dealt (missed machine time block exclusive old)
  asks_here exclusive absent = record {
    deal = record {
      deals = Asks exclusive ∷ [];
      may = ((waits_not, absent), tt);
      is = by exclusive;
      keeps = λ none value. refl;
    };
  }
    where
      by : (x : Bool) → cell_of block (up ++ sent_home block (told (missed machine time block x old).sends)) down (missed machine time block x old).node ≡ all_dealt (Asks x ∷ []) (cell_of block up down old)
      by true = same_part _ _ _ _ _ _ down (waiting_here block true) refl (ap (λ (l : List Body). up ++ l) (sent_here block (GetX false) refl))
      by false = same_part _ _ _ _ _ _ down (waiting_here block false) refl (ap (λ (l : List Body). up ++ l) (sent_here block GetS refl))

  asks : (target : ℕ) (exclusive : Bool) → tag_of old.cache target ≡ Invalid → Dealt (missed machine time target exclusive old)
  asks target exclusive absent = elim (cases_eq target block) [
    | inl same ↦ subst (λ (b : ℕ). Dealt (missed machine time b exclusive old)) (sym same)
        (asks_here exclusive (copy_none (line_of old.cache block) (subst (λ (b : ℕ). tag_of old.cache b ≡ Invalid) same absent)))
    | inr apart ↦ stays (missed machine time target exclusive old) (waiting_elsewhere block target exclusive apart) refl (sent_elsewhere block target _ apart)
  ]

  upgrades_here : (bytes : List ℕ) → copy_of old.cache block ≡ Some (record { writable = false; bytes = bytes }) → Dealt (upgraded_node machine time block old)
  upgrades_here bytes held = record {
    deal = record {
      deals = Upgrades bytes ∷ [];
      may = ((waits_not, held), tt);
      is = same_part _ _ _ _ _ _ down (waiting_here block true) (copy_dropped old.cache block fits.sound some) (ap (λ (l : List Body). up ++ l) (sent_here block (GetX true) refl));
      keeps = λ none value. refl;
    };
  }

  upgrades : (target : ℕ) → tag_of old.cache target ≡ ReadOnly → Dealt (upgraded_node machine time target old)
  upgrades target held = elim (cases_eq target block) [
    | inl same ↦
        let copy = copy_readonly (line_of old.cache block) (subst (λ (b : ℕ). tag_of old.cache b ≡ ReadOnly) same held) in
        subst (λ (b : ℕ). Dealt (upgraded_node machine time b old)) (sym same) (upgrades_here copy.0 copy.1)
    | inr apart ↦ stays (upgraded_node machine time target old) (waiting_elsewhere block target true apart) (other_dropped old.cache target block fits.sound some (λ e. apart (sym e))) (sent_elsewhere block target (GetX true) apart)
  ]

  -- ---- stores

  writes_here : (offset width value : ℕ) (handled : Handled) → stores_to machine handled.deed block ≡ true → tag_of old.cache block ≡ Writable → handled.node.mode ≡ old.mode → handled.node.cache ≡ write_of block offset width value old.cache → handled.sends ≡ [] → Dealt handled
  writes_here offset width value handled at held mode cache sends =
      let line = line_writable (line_of old.cache block) held in
      let old_line = line.0 in
      let w = line.2 in
      let new = (written_line offset width value old_line).bytes in
      record {
        deal = record {
          deals = Writes old_line.bytes new ∷ [];
          may = (ap copy_by line.1 ∙ ap (λ (x : Bool). let copy : Copy = record { writable = x; bytes = old_line.bytes } in Some copy) w, tt);
          is = same_part _ _ _ _ _ _ down (ap (λ (m : Mode). wanted_in block m) mode)
              (ap (λ (c : Cached). copy_of c block) cache ∙ ap copy_by (line_written old.cache block offset width value old_line fits.sound some line.1 w)
              ∙ ap (λ (x : Bool). let copy : Copy = record { writable = x; bytes = new } in Some copy) w)
              (ap (λ (l : List Send). up ++ sent_home block (told l)) sends ∙ append-nil up);
          keeps = λ none value. absurd (let f : true ≡ false = sym at ∙ none in cc);
        };
      }

  writes : (target offset width value : ℕ) (handled : Handled) → stores_to machine handled.deed target ≡ true → tag_of old.cache target ≡ Writable → handled.node.mode ≡ old.mode → handled.node.cache ≡ write_of target offset width value old.cache → handled.sends ≡ [] → Dealt handled
  writes target offset width value handled at held mode cache sends = elim (cases_eq target block) [
    | inl same ↦ writes_here offset width value handled (subst (λ (b : ℕ). stores_to machine handled.deed b ≡ true) same at) (subst (λ (b : ℕ). tag_of old.cache b ≡ Writable) same held) mode (cache ∙ ap (λ (b : ℕ). write_of b offset width value old.cache) same) sends
    | inr apart ↦
        stays handled (ap (λ (m : Mode). wanted_in block m) mode ∙ waits_not)
        (ap (λ (c : Cached). copy_of c block) cache ∙ other_written old.cache target offset width value block fits.sound some (λ e. apart (sym e)))
        (ap (λ (l : List Send). sent_home block (told l)) sends)
  ]

  -- ---- accesses

  shared_loads : (op : LoadOp) (rd address : ℕ) (found : Option ℕ) → Dealt (shared_load_of machine time op rd address old found)
  shared_loads op rd address None = stops _ refl refl refl
  shared_loads op rd address (Some target) = by (read_of old.cache target (offset_of machine address) (load_width_of op)) refl
    where
      by : (number : Option ℕ) → read_of old.cache target (offset_of machine address) (load_width_of op) ≡ number → Dealt (hit_load_by machine time op rd address target old number)
      by (Some number) read = goes_on _ refl refl refl
      by None read = asks target false (unread_absent old.cache target (offset_of machine address) (load_width_of op) read)

  loads_from : (op : LoadOp) (rd address : ℕ) → Dealt (load_from machine time op rd address old)
  unfolding load_from
  loads_from op rd address = by (load_of old.private address (load_width_of op))
    where
      by : (answer : Result ℕ MemFault) → Dealt (load_by machine time op rd address old answer)
      by (Ok number) = goes_on _ refl refl refl
      by (Err Misaligned) = stops _ refl refl refl
      by (Err Outside) = shared_loads op rd address (shared_block machine address)

  shared_stores : (op : StoreOp) (address value : ℕ) (found : Option ℕ) → shared_block machine address ≡ found → Dealt (shared_store_of machine time op address value old found)
  shared_stores op address value None there = stops _ refl refl refl
  shared_stores op address value (Some target) there = by (tag_of old.cache target) refl
    where
      by : (tag : Tag) → tag_of old.cache target ≡ tag → Dealt (hit_store_by machine time op address value target old tag)
      by Writable held = writes target (offset_of machine address) (store_width_of op) value _ (stores_here machine address (store_width_of op) (stored_value op value) target there) held refl refl refl
      by ReadOnly held = upgrades target held
      by Invalid held = asks target true held

  stores_into : (op : StoreOp) (address value : ℕ) → Dealt (store_to machine time op address value old)
  unfolding store_to
  stores_into op address value = by (store_of old.private address (store_width_of op) value)
    where
      by : (answer : Result (List ℕ) MemFault) → Dealt (store_by machine time op address value old answer)
      by (Ok memory) = goes_on _ refl refl refl
      by (Err Misaligned) = stops _ refl refl refl
      by (Err Outside) = shared_stores op address value (shared_block machine address) refl

  -- ---- annotations

  goes_past : Dealt (quiet (annotated machine time old))
  goes_past = goes_on _ refl refl refl

  gives_here : (line : Line) → line_of old.cache block ≡ Some line → Dealt (checked_in machine time block old)
  gives_here line held =
      let of : line.block ≡ block = (line_is_of_block old.cache block line fits.sound some held).0 in
      record {
        deal = record {
          deals = Gives (record { writable = line.writable; bytes = line.bytes }) ∷ [];
          may = (ap copy_by held, tt);
          is = same_part _ _ _ _ _ _ down refl (copy_dropped old.cache block fits.sound some)
              (ap (λ (l : List Body). up ++ l)
              (ap (λ (l : Option Line). sent_home block (told (gives_back machine time l))) held
              ∙ ap (λ (b : ℕ). sent_home block (record { block = b; body = cond line.writable (PutX line.bytes) PutS } ∷ [])) of
              ∙ sent_here block (cond line.writable (PutX line.bytes) PutS) (put_body_goes line)));
          keeps = λ none value. refl;
        };
      }

  gives : (target : ℕ) → (tag_of old.cache target ≢ Invalid) → Dealt (checked_in machine time target old)
  gives target present = elim (cases_eq target block) [
    | inl same ↦ subst (λ (b : ℕ). Dealt (checked_in machine time b old)) (sym same) (here (line_of old.cache block) refl (λ e. present (subst (λ (b : ℕ). tag_of old.cache b ≡ Invalid) (sym same) e)))
    | inr apart ↦
        stays (checked_in machine time target old) waits_not (other_dropped old.cache target block fits.sound some (λ e. apart (sym e))) (elsewhere apart (line_of old.cache target) refl)
  ]
    where
      here : (line : Option Line) → line_of old.cache block ≡ line → (tag_of old.cache block ≢ Invalid) → Dealt (checked_in machine time block old)
      here None held there = absurd (there (ap tag_by held))
      here (Some line) held there = gives_here line held

      elsewhere : (target ≢ block) → (line : Option Line) → line_of old.cache target ≡ line → sent_home block (told (gives_back machine time line)) ≡ []
      elsewhere apart None held = refl
      elsewhere apart (Some line) held =
          sent_elsewhere block line.block _ (λ e. apart (sym (line_is_of_block old.cache target line fits.sound some held).0 ∙ e))

  annotates_by : (op : CicoOp) (target : ℕ) (tag : Tag) → tag_of old.cache target ≡ tag → Dealt (annotate_by machine time target old (action_of op tag))
  annotates_by CheckOutS target Invalid held = asks target false held
  annotates_by CheckOutS target ReadOnly held = goes_past
  annotates_by CheckOutS target Writable held = goes_past
  annotates_by CheckOutX target Invalid held = asks target true held
  annotates_by CheckOutX target ReadOnly held = upgrades target held
  annotates_by CheckOutX target Writable held = goes_past
  annotates_by CheckIn target Invalid held = goes_past
  annotates_by CheckIn target ReadOnly held = gives target (λ e. let f : ReadOnly ≡ Invalid = sym held ∙ e in absurd cc)
  annotates_by CheckIn target Writable held = gives target (λ e. let f : Writable ≡ Invalid = sym held ∙ e in absurd cc)

  annotates_at : (op : CicoOp) (address : ℕ) → Dealt (annotate_of machine time op address old)
  unfolding annotate_of
  annotates_at op address = by (shared_block machine address)
    where
      by : (found : Option ℕ) → Dealt (annotate_block machine time op old found)
      by None = goes_past
      by (Some target) = annotates_by op target (tag_of old.cache target) refl

  -- ---- environment calls

  barriers : Dealt (barrier_call_of machine time old)
  barriers = by (machine.nodes == 1)
    where
      by : (alone : Bool) → Dealt (cond alone (quiet (moved_on (address_after old.pc) (time + machine.costs.call) old)) (sending (message_to time 0 0 Arrive ∷ []) (quiet (in_mode InBarrier old))))
      by true = goes_on _ refl refl refl
      by false = stays _ refl refl (barrier_said block Arrive refl)

  exits : (code : ℕ) → Dealt (exit_of machine time code old)
  exits code = by (machine.nodes == 1)
    where
      by : (alone : Bool) → Dealt (cond alone (stopped (causes.Exit code) (one_done old)) (sending (message_to time 0 0 Leave ∷ []) (stopped (causes.Exit code) (one_done old))))
      by true = stops _ refl refl refl
      by false = stays _ refl refl (barrier_said block Leave refl)

  either : (test : Bool) (one other : Handled) → Dealt one → Dealt other → Dealt (cond test one other)
  either true one other is_one is_other = is_one
  either false one other is_one is_other = is_other

  calls : Dealt (call_of machine time old)
  unfolding call_of
  calls =
      let call = register old 17 in
      either (call == 1) _ _ (goes_on _ refl refl refl)
      (either (call == 2) _ _ (goes_on _ refl refl refl)
      (either (call == 3) _ _ (goes_on _ refl refl refl)
      (either (call == 4) _ _ (goes_on _ refl refl refl)
      (either (call == 5) _ _ barriers
      (either (call == 93) _ _ (exits (register old 10)) (stops _ refl refl refl))))))

  -- ---- the step

  does : (word : ℕ) (registers : List ℕ) (effect : Effect) → Dealt (effect_by machine time word old registers effect)
  does word registers (Next pc cost) = goes_on _ refl refl refl
  does word registers (Load op rd address) = loads_from op rd address
  does word registers (Store op address value) = stores_into op address value
  does word registers (Cico op address) = annotates_at op address
  does word registers Call = calls
  does word registers Break = stops _ refl refl refl
  does word registers (BadTarget target) = stops _ refl refl refl
  does word registers Illegal = stops _ refl refl refl

  pub step_deals : Dealt (step_of machine time old)
  unfolding execute_of
  step_deals = by (fetch_of machine old)
    where
      by : (found : Option ℕ) → Dealt (step_by machine time old found)
      by None = stops _ refl refl refl
      by (Some word) = does word (meaning_in machine word old).0 (meaning_in machine word old).1

pub steps_deal_law : StepsDeal
unfolding react_to_step record_of
steps_deal_law machine node block up down is running =
    let old = counted_step (next_key machine node) node in
    let handled = step_of machine (step_time node) old in
    subst (λ (msgs : List Msg). DealsWith (stores_to machine handled.deed block) (cell_of block up down node) (cell_of block (up ++ sent_home block msgs) down handled.node))
    (sym (stamped_said machine handled.node.number handled.node.counters.sent handled.sends))
    (step_deals machine block (step_time node) up down old is.numbers is.cache running).deal
