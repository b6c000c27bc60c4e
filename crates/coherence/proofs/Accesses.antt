-- What a message does with the bytes of shared memory, where it ends an instruction that waited for a block.
use Rattle.std.proofs.Common.{◌≡◌, ℕ, ◌≤◌, Bool, true, false, cond, List, map, length, Option, Some, None, option_map, refl, ap, sym, ◌∙◌, subst, inl, inr}
use Rattle.std.specs.Prelude.{◌==◌, IfSome, unwrap_or}
use Rattle.std.proofs.lemmas.Bool.{cases_Bool}
use Rattle.wt_params.specs.declared.parts.MachineParts.{MachineParts}
use Rattle.wt_params.specs.Machine.{IsMachine, home_of}
use Rattle.rv_decode.specs.Table.{decode_of}
use Rattle.rv_decode.specs.declared.instr.LoadOp.{LoadOp}
use Rattle.rv_decode.specs.declared.instr.StoreOp.{StoreOp}
use Rattle.rv_exec.specs.declared.effect.Effect.{Effect}
use Rattle.rv_exec.specs.declared.effect.Effect.TheVariants.{Next, Load, Store, Cico, Call, Break, BadTarget, Illegal}
use Rattle.rv_exec.specs.Widths.{load_width_of, store_width_of, widened}
use Rattle.priv_mem.specs.Memory.{overwritten}
use Rattle.wt_proto.specs.declared.key.Key.{Key}
use Rattle.wt_proto.specs.declared.message.Body.{Body}
use Rattle.wt_proto.specs.declared.message.Body.TheVariants.{GetS, GetX, PutS, PutX, DataS, DataX, Inv, InvAck, Wake, Arrive, Leave, Go}
use Rattle.wt_proto.specs.declared.message.Msg.{Msg}
use Rattle.wt_proto.specs.Messages.{data_of}
use Rattle.wt_proto.specs.declared.mode.Mode.{Mode}
use Rattle.wt_proto.specs.declared.mode.Mode.TheVariants.{Running, Waiting, InBarrier, Stopped}
use Rattle.wt_trace.specs.declared.record.Deed.TheVariants.{Loaded, Stored}
use Rattle.discrete_events.specs.Simulation.{Arrival}
use Rattle.target_cache.specs.declared.line.Line.{Line}
use Rattle.target_cache.specs.Lines.{number_in}
use Rattle.target_cache.specs.Cached.{Cached, line_of, read_of, write_of, replaced_of, install_of}
use Rattle.target_cache.proofs.CacheLaws.{line_after_install}
use Rattle.dir1sw.specs.declared.home.DirAct.{DirAct}
use Rattle.dir1sw.specs.declared.home.DirAct.TheVariants.{Done, Trap, Stray}
use Rattle.dir1sw.specs.Table.{grant_body}
use Rattle.dir1sw.specs.Homes.{row_of, with_block}
use Rattle.target_barrier.specs.declared.barrier.Release.{Release}
use Rattle.target_barrier.specs.declared.barrier.Release.TheVariants as releases
use Rattle.target_barrier.specs.Barrier.{Barrier, arrive_of, leave_of}
use Rattle.node.specs.declared.state.NodeState.{NodeState}
use Rattle.node.specs.declared.state.Send.{Send}
use Rattle.node.specs.State.{one_stray}
use Rattle.node.specs.Handled.{Handled, quiet, sending, sent_at, gives_back}
use Rattle.node.specs.SharedAccess.{offset_of, stored_value}
use Rattle.node.specs.Processor.{fetch_of, meaning_in}
use Rattle.node.specs.DirectoryMessage.{act_by, directory_message_of}
use Rattle.node.specs.DataMessage.{effect_at, resumed, installed, fill_with, data_message_of}
use Rattle.node.specs.InvMessage.{inv_by, inv_message_of}
use Rattle.node.specs.BarrierMessage.{release_by, with_barrier, has_unit, arrive_message_of, leave_message_of, go_by, go_message_of}
use Rattle.node.specs.React.{react, message_by, message_of, react_to_message, message_handled, record_of, counted_message}
use Rattle.node.specs.Sound.{CacheFits, WaitsFor, Asks, ModeFits, IsNode}
use Rattle.node.proofs.Accesses.{in_block, some_sets, installed_fits}
use Rattle.node.proofs.DataKept.{asked}
use Rattle.coherence.specs.Deals.{wanted_in, copy_by, copy_of, IsWantedIn}
use Rattle.coherence.specs.Traces.{is_shared, load_in}
use Rattle.coherence.specs.Accesses.{IsLoadOf, StoresInData, StillWaits, IsDone, AccessesAreRight}
use Rattle.coherence.proofs.CacheCopies.{line_written}
use Rattle.coherence.proofs.MessageDeals.{waits_for, installed_cache, counted_mode}
use Rattle.coherence.proofs.StepAccesses.{meaning_loads, load_width, store_width, low_stored, NotWaiting, step_load_law, step_store_law, step_waits_law}

-- what a message that was handled did
pub record IsTaken (machine : MachineParts) (msg : Msg) (old : NodeState) (handled : Handled) : Type 0 where
  pub load : (address value : ℕ) → handled.deed ≡ Loaded address value → is_shared address ≡ true → IsLoadOf machine (fetch_of machine old) address value handled.node.cache
  pub store : (address width value : ℕ) → handled.deed ≡ Stored address width value → is_shared address ≡ true → StoresInData machine address width value msg handled.node.cache
  pub waited : IsDone handled.deed → (block : ℕ) × (exclusive : Bool) × (old.mode ≡ Waiting block exclusive)
  pub waits : (block : ℕ) (exclusive : Bool) → handled.node.mode ≡ Waiting block exclusive → StillWaits machine old handled.node

-- the word that a waiting load is at
load_word : (machine : MachineParts) (old : NodeState) (op : LoadOp) (rd address : ℕ) → effect_at machine old ≡ Some (Load op rd address) → load_in (fetch_of machine old) ≡ Some op
load_word machine old op rd address is = by (fetch_of machine old) is
  where
    by : (found : Option ℕ) → option_map (λ word. (meaning_in machine word old).1) found ≡ Some (Load op rd address) → load_in found ≡ Some op
    by None e = absurd cc
    by (Some word) e = meaning_loads old.registers old.pc (decode_of word) machine.costs op rd address (the_same (meaning_in machine word old).1 e)
      where
        the_same : (effect : Effect) → Some effect ≡ Some (Load op rd address) → effect ≡ Load op rd address
        the_same effect same = cc

module _ (machine : MachineParts) (time : ℕ) (msg : Msg) (old : NodeState) (is : IsMachine machine) where
  abbrev Taken : Handled → Type 0
  Taken handled = IsTaken machine msg old handled

  -- Nothing is loaded or stored, and the processor goes on waiting if it waits.
  passes : (handled : Handled) → (IsDone handled.deed → ⊥) → handled.node.mode ≡ old.mode → fetch_of machine handled.node ≡ fetch_of machine old → Taken handled
  passes handled none mode word = record {
    load = λ address value e shared. absurd (none (subst IsDone (sym e) tt));
    store = λ address width value e shared. absurd (none (subst IsDone (sym e) tt));
    waited = λ done. absurd (none done);
    waits = λ block exclusive e. record { waited = mode; word = word };
  }

  -- nor does it wait then
  ends : (handled : Handled) → (IsDone handled.deed → ⊥) → NotWaiting handled.node.mode → Taken handled
  ends handled none goes = record {
    load = λ address value e shared. absurd (none (subst IsDone (sym e) tt));
    store = λ address width value e shared. absurd (none (subst IsDone (sym e) tt));
    waited = λ done. absurd (none done);
    waits = λ block exclusive e. absurd (subst NotWaiting e goes);
  }

  -- ---- rows, calls and the barrier

  strays : Taken (quiet (one_stray old))
  strays = passes _ (λ done. done) refl refl

  acts : (sends : List Send) (node : NodeState) (act : DirAct) → node.mode ≡ old.mode → fetch_of machine node ≡ fetch_of machine old → Taken (act_by machine time sends node act)
  acts sends node Done mode word = passes _ (λ done. done) mode word
  acts sends node Stray mode word = passes _ (λ done. done) mode word
  acts sends node (Trap plan) mode word = passes _ (λ done. done) mode word

  directs : (from : ℕ) → Taken (directory_message_of machine time from msg old)
  unfolding directory_message_of
  directs from = elim (cases_Bool (home_of machine msg.block == old.number)) [
    | inl here ↦ rw here (acts (map (sent_at time) (row_of old.directory from msg).sends) (record old { directory = with_block msg.block (row_of old.directory from msg).home old.directory }) (row_of old.directory from msg).act refl refl)
    | inr away ↦ rw away strays
  ]

  drops : (target : ℕ) → Taken (inv_message_of machine time target old)
  unfolding inv_message_of
  drops target = by (line_of old.cache target)
    where
      by : (line : Option Line) → Taken (inv_by machine time target old line)
      by None = passes _ (λ done. done) refl refl
      by (Some line) = passes _ (λ done. done) refl refl

  units : (barrier : Barrier) (release : Release) → Taken (release_by time (with_barrier barrier old) release)
  units barrier releases.Hold = passes _ (λ done. done) refl refl
  units barrier releases.Stray = passes _ (λ done. done) refl refl
  units barrier (releases.Go nodes) = passes _ (λ done. done) refl refl

  either : (test : Bool) (one two : Handled) → Taken one → Taken two → Taken (cond test one two)
  either true one two is_one is_two = is_one
  either false one two is_one is_two = is_two

  arrives : (from : ℕ) → Taken (arrive_message_of machine time from old)
  unfolding arrive_message_of
  arrives from = either (has_unit machine old) _ _ (units (arrive_of old.barrier from).0 (arrive_of old.barrier from).1) strays

  leaves : (from : ℕ) → Taken (leave_message_of machine time from old)
  unfolding leave_message_of
  leaves from = either (has_unit machine old) _ _ (units (leave_of old.barrier from).0 (leave_of old.barrier from).1) strays

  goes : Taken (go_message_of machine time old)
  unfolding go_message_of
  goes = by old.mode
    where
      by : (mode : Mode) → Taken (go_by machine time old mode)
      by Running = strays
      by (Waiting wanted exclusive) = strays
      by (Stopped cause) = strays
      by InBarrier = ends _ (λ done. done) tt

-- ---- Data

abbrev data_msg : Line → Msg
data_msg line = record { block = line.block; body = grant_body line.writable line.bytes }

module _ (machine : MachineParts) (time : ℕ) (line : Line) (old : NodeState) (is : IsMachine machine) (fits : CacheFits machine old.cache) (size : length line.bytes ≡ machine.block_bytes)
    (waiting : WaitsFor machine old line.block line.writable) (asks_mode : old.mode ≡ Waiting line.block line.writable) where
  stored_fits : CacheFits machine (install_of line old.cache)
  stored_fits = installed_fits machine old.cache line is fits waiting.exists size waiting.absent

  is_there : line_of (install_of line old.cache) line.block ≡ Some line
  is_there = line_after_install old.cache line fits.sound (some_sets machine old.cache is fits) (subst (λ (m : MachineParts). 1 ≤ m.ways) (sym fits.machine_is) is.ways.at_least) waiting.absent

  is_installed : line_of (installed line old).cache line.block ≡ Some line
  is_installed = ap (λ (c : Cached). line_of c line.block) (installed_cache line old) ∙ is_there

  not_waiting : (mode : Mode) (block : ℕ) (exclusive : Bool) → NotWaiting mode → mode ≡ Waiting block exclusive → ⊥
  not_waiting mode block exclusive goes e = subst NotWaiting e goes

  loads : (op : LoadOp) (rd address : ℕ) (sends : List Send) → effect_at machine old ≡ Some (Load op rd address) → Asks machine line.block line.writable (Some (Load op rd address)) →
      IsTaken machine (data_msg line) old (sending sends (resumed machine time line.block (installed line old) (Some (Load op rd address))))
  loads op rd address sends effect asks = record {
    load = λ at number e shared.
        let read : ℕ = widened op (unwrap_or (read_of (installed line old).cache line.block (offset_of machine address) (load_width_of op)) 0) in
        let f : Loaded address read ≡ Loaded at number = e in
        let a : address ≡ at = cc in
        let b : read ≡ number = cc in
        subst (λ (x : ℕ). IsLoadOf machine (fetch_of machine old) x number (installed line old).cache) a
        (record {
          block = line.block;
          there = asks.1.here;
          op = op;
          is_load = load_word machine old op rd address effect;
          writable = line.writable;
          bytes = line.bytes;
          held = ap copy_by is_installed;
          inside = (in_block machine.block_bytes address (load_width_of op) is.block_bytes (load_width op) asks.1.aligned).1;
          reads = sym b ∙ ap (λ (l : Option Line). widened op (unwrap_or (option_map (number_in (offset_of machine address) (load_width_of op)) l) 0)) is_installed;
        });
    store = λ at width number e shared. absurd (not_stored address _ at width number e);
    waited = λ done. (line.block, line.writable, asks_mode);
    waits = λ block exclusive e. absurd (not_waiting Running block exclusive tt e);
  }
    where
      not_stored : (address value at width number : ℕ) → Loaded address value ≡ Stored at width number → ⊥
      not_stored address value at width number e = cc

  stores : (op : StoreOp) (address value : ℕ) (sends : List Send) → Asks machine line.block line.writable (Some (Store op address value)) →
      IsTaken machine (data_msg line) old (sending sends (resumed machine time line.block (installed line old) (Some (Store op address value))))
  stores op address value sends asks = record {
    load = λ at number e shared. absurd (not_loaded address (store_width_of op) (stored_value op value) at number e);
    store = λ at width number e shared.
        let f : Stored address (store_width_of op) (stored_value op value) ≡ Stored at width number = e in
        let a : address ≡ at = cc in
        let w : store_width_of op ≡ width = cc in
        let b : stored_value op value ≡ number = cc in
        let cache : Cached = write_of line.block (offset_of machine address) (store_width_of op) value (installed line old).cache in
        subst (λ (n : ℕ). StoresInData machine at width n (data_msg line) cache) b
        (subst (λ (s : ℕ). StoresInData machine at s (stored_value op value) (data_msg line) cache) w
        (subst (λ (x : ℕ). StoresInData machine x (store_width_of op) (stored_value op value) (data_msg line) cache) a
        (record {
          bytes = line.bytes;
          brought = ap (λ (x : Bool). grant_body x line.bytes) asks.0;
          store = record {
            there = asks.1.here;
            inside = (in_block machine.block_bytes address (store_width_of op) is.block_bytes (store_width op) asks.1.aligned).1;
            held = ap (λ (c : Cached). copy_of (write_of line.block (offset_of machine address) (store_width_of op) value c) line.block) (installed_cache line old)
                ∙ ap copy_by (line_written (install_of line old.cache) line.block (offset_of machine address) (store_width_of op) value line stored_fits.sound (some_sets machine (install_of line old.cache) is stored_fits) is_there asks.0)
                ∙ (λ i. Some (record { writable = asks.0 i; bytes = overwritten line.bytes (offset_of machine address) (sym (low_stored op value) i) }));
          };
        })));
    waited = λ done. (line.block, line.writable, asks_mode);
    waits = λ block exclusive e. absurd (not_waiting Running block exclusive tt e);
  }
    where
      not_loaded : (address width value at number : ℕ) → Stored address width value ≡ Loaded at number → ⊥
      not_loaded address width value at number e = cc

  resumes : (sends : List Send) (effect : Option Effect) → effect_at machine old ≡ effect → Asks machine line.block line.writable effect →
      IsTaken machine (data_msg line) old (sending sends (resumed machine time line.block (installed line old) effect))
  resumes sends (Some (Load op rd address)) is_effect asks = loads op rd address sends is_effect asks
  resumes sends (Some (Store op address value)) is_effect asks = stores op address value sends asks
  resumes sends (Some (Cico op address)) is_effect asks = ends machine time (data_msg line) old is _ (λ done. done) tt
  resumes sends (Some (Next pc cost)) is_effect asks = absurd asks
  resumes sends (Some Call) is_effect asks = absurd asks
  resumes sends (Some Break) is_effect asks = absurd asks
  resumes sends (Some (BadTarget target)) is_effect asks = absurd asks
  resumes sends (Some Illegal) is_effect asks = absurd asks
  resumes sends None is_effect asks = absurd asks

  pub filled_taken : IsTaken machine (data_msg line) old (fill_with machine time line old)
  filled_taken = resumes (gives_back machine time (replaced_of line old.cache)) (effect_at machine old) refl waiting.asks

data_taken : (machine : MachineParts) (time : ℕ) (line : Line) (old : NodeState) → IsMachine machine → CacheFits machine old.cache → ModeFits machine old old.mode → length line.bytes ≡ machine.block_bytes →
    wanted_in line.block old.mode ≡ Some line.writable → IsTaken machine (data_msg line) old (data_message_of machine time line old)
unfolding data_message_of
data_taken machine time line old is fits mode_fits size wants =
    let waits = waits_for old.mode line.block line.writable wants in
    rw waits.1 (filled_taken machine time line old is fits size (asked machine old line.block line.writable mode_fits waits.1) waits.0)

-- ---- the node after its message

module _ (machine : MachineParts) (node : NodeState) (key : Key) (msg : Msg) (is : IsNode machine node) (wants : IsWantedIn node.mode msg) (size : IfSome (data_of msg.body) (λ bytes. length bytes ≡ machine.block_bytes)) where
  abbrev old : NodeState
  old = counted_message key node

  abbrev about : Body → Msg
  about body = record { block = msg.block; body = body }

  mode_fits : ModeFits machine old node.mode
  mode_fits = counted_mode machine key node node.mode is.mode

  taken_by : (body : Body) → IsWantedIn node.mode (about body) → IfSome (data_of body) (λ bytes. length bytes ≡ machine.block_bytes) → IsTaken machine (about body) old (message_by machine key.time key.from msg.block body old)
  taken_by (DataS bytes) w s = data_taken machine key.time (record { block = msg.block; writable = false; bytes = bytes }) old is.numbers is.cache mode_fits s w
  taken_by (DataX bytes) w s = data_taken machine key.time (record { block = msg.block; writable = true; bytes = bytes }) old is.numbers is.cache mode_fits s w
  taken_by Inv w s = drops machine key.time (about Inv) old is.numbers msg.block
  taken_by Arrive w s = arrives machine key.time (about Arrive) old is.numbers key.from
  taken_by Leave w s = leaves machine key.time (about Leave) old is.numbers key.from
  taken_by Go w s = goes machine key.time (about Go) old is.numbers
  taken_by GetS w s = directs machine key.time (about GetS) old is.numbers key.from
  taken_by (GetX had) w s = directs machine key.time (about (GetX had)) old is.numbers key.from
  taken_by PutS w s = directs machine key.time (about PutS) old is.numbers key.from
  taken_by (PutX bytes) w s = directs machine key.time (about (PutX bytes)) old is.numbers key.from
  taken_by (InvAck bytes) w s = directs machine key.time (about (InvAck bytes)) old is.numbers key.from
  taken_by Wake w s = directs machine key.time (about Wake) old is.numbers key.from

  pub message_taken : IsTaken machine msg node (message_handled machine node key msg)
  unfolding message_of
  message_taken =
      let taken = taken_by msg.body wants size in
      record {
        load = taken.load;
        store = taken.store;
        waited = taken.waited;
        waits = λ block exclusive e. let still = taken.waits block exclusive e in record { waited = still.waited; word = still.word };
      }

pub message_load_law : (machine : MachineParts) (node : NodeState) (key : Key) (msg : Msg) (address value : ℕ) → IsNode machine node → IsWantedIn node.mode msg → IfSome (data_of msg.body) (λ bytes. length bytes ≡ machine.block_bytes) →
    (record_of machine node (Arrival (key, msg))).deed ≡ Loaded address value → is_shared address ≡ true → IsLoadOf machine (fetch_of machine node) address value (react machine node (Arrival (key, msg))).0.cache
unfolding react_to_message record_of
message_load_law machine node key msg address value is wants size deed shared = (message_taken machine node key msg is wants size).load address value deed shared

pub message_store_law : (machine : MachineParts) (node : NodeState) (key : Key) (msg : Msg) (address width value : ℕ) → IsNode machine node → IsWantedIn node.mode msg → IfSome (data_of msg.body) (λ bytes. length bytes ≡ machine.block_bytes) →
    (record_of machine node (Arrival (key, msg))).deed ≡ Stored address width value → is_shared address ≡ true → StoresInData machine address width value msg (react machine node (Arrival (key, msg))).0.cache
unfolding react_to_message record_of
message_store_law machine node key msg address width value is wants size deed shared = (message_taken machine node key msg is wants size).store address width value deed shared

pub message_waited_law : (machine : MachineParts) (node : NodeState) (key : Key) (msg : Msg) → IsNode machine node → IsWantedIn node.mode msg → IfSome (data_of msg.body) (λ bytes. length bytes ≡ machine.block_bytes) →
    IsDone (record_of machine node (Arrival (key, msg))).deed → (block : ℕ) × (exclusive : Bool) × (node.mode ≡ Waiting block exclusive)
unfolding record_of
message_waited_law machine node key msg is wants size done = (message_taken machine node key msg is wants size).waited done

pub message_waits_law : (machine : MachineParts) (node : NodeState) (key : Key) (msg : Msg) (block : ℕ) (exclusive : Bool) → IsNode machine node → IsWantedIn node.mode msg → IfSome (data_of msg.body) (λ bytes. length bytes ≡ machine.block_bytes) →
    (react machine node (Arrival (key, msg))).0.mode ≡ Waiting block exclusive → StillWaits machine node (react machine node (Arrival (key, msg))).0
unfolding react_to_message
message_waits_law machine node key msg block exclusive is wants size waits =
    let still = (message_taken machine node key msg is wants size).waits block exclusive waits in record { waited = still.waited; word = still.word }

pub accesses_law : AccessesAreRight
accesses_law = record {
  step_load = step_load_law;
  step_store = step_store_law;
  step_waits = step_waits_law;
  message_load = message_load_law;
  message_store = message_store_law;
  message_waited = message_waited_law;
  message_waits = message_waits_law;
}
