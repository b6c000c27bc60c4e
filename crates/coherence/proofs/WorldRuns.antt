-- The worlds of every serial run are coherent, with the values that its records tell.
use Rattle.std.proofs.Common.{◌≡◌, ◌≢◌, ℕ, zero, suc, ◌<◌, ◌⊎◌, inl, inr, Bool, true, false, List, [], ◌∷◌, map, Option, Some, None, refl, ap, sym, ◌∙◌, subst}
use Rattle.std.specs.Prelude.{◌++◌}
use Rattle.std.proofs.lemmas.Bool.{cases_Bool, ne_eqb, eq-eqb}
use Rattle.wt_params.specs.declared.parts.MachineParts.{MachineParts}
use Rattle.wt_params.specs.Machine.{IsMachine}
use Rattle.wt_proto.specs.declared.key.Key.{Key}
use Rattle.wt_proto.specs.declared.message.Body.{Body}
use Rattle.wt_proto.specs.declared.message.Body.TheVariants.{GetS, GetX, PutS, PutX, DataS, DataX, Inv, InvAck, Wake, Arrive, Leave, Go}
use Rattle.wt_proto.specs.declared.message.Msg.{Msg}
use Rattle.wt_proto.specs.declared.mode.Mode.TheVariants.{Waiting}
use Rattle.wt_trace.specs.declared.record.Deed.TheVariants.{Loaded, Stored}
use Rattle.wt_trace.specs.declared.record.Record.{Record}
use Rattle.discrete_events.specs.Simulation.{Event, Step, Arrival, Message}
use Rattle.discrete_events.specs.World.{least, events_in}
use Rattle.discrete_events.specs.Serial.{placed, taken, node_after, after_least, serial_step, serial}
use Rattle.discrete_events.specs.Laws.{IsIn}
use Rattle.discrete_events.proofs.Numbered.{single_flat}
use Rattle.discrete_events.proofs.SerialRun.{world_of_serial}
use Rattle.node.specs.declared.state.NodeState.{NodeState}
use Rattle.node.specs.Processor.{fetch_of}
use Rattle.node.specs.React.{record_of, wind_tunnel}
use Rattle.node.specs.Laws.{Fits, IsCounted}
use Rattle.node.specs.Sound.{IsNode}
use Rattle.node.proofs.EventKept.{machines_are_simulations}
use Rattle.wt_report.specs.Trace.{recorded_by, recorded_of, handled_at, history}
use Rattle.coherence.specs.RowDeals.{is_for_directory}
use Rattle.coherence.specs.Moves.{comes_from_home}
use Rattle.coherence.specs.Deals.{IsWantedIn, stores_to}
use Rattle.coherence.specs.Traces.{Known, is_shared, bytes_of, word_of, after_record, after_records, is_right}
use Rattle.coherence.specs.Accesses.{IsLoadOf, IsDone}
use Rattle.coherence.specs.Runs.{AreRightRecords, EventKeeps}
use Rattle.coherence.specs.Worlds.{World, IsCoherentWorld}
use Rattle.coherence.proofs.Accesses.{accesses_law}
use Rattle.coherence.proofs.Bytes.{stored_size}
use Rattle.coherence.proofs.RowSends.{is_of_barrier}
use Rattle.coherence.proofs.Moves.{events_move_law}
use Rattle.coherence.proofs.WorldEvents.{IsWorldOf, at, sound, due, key_to, reacted, node_is, after, news, step_now, right_later, in_later, next_nodes, next_pending}
use Rattle.coherence.proofs.WorldDeals.{IsLater}
use Rattle.coherence.proofs.WorldRows.{fits, every_block, none_stray_of_row}
use Rattle.coherence.proofs.WorldSteps.{blocks_after_step, wanted, brought, blocks_after_message}
use Rattle.coherence.proofs.WorldMeetings.{none_stray_of_barrier, directory_left_by_barrier, orderly_later}
use Rattle.coherence.proofs.WorldValues.{held_value, IsStored, block_later, deed_right}

-- ---- the kinds of messages

-- a message of the barrier, or Data or Inv, where it isn't for the directory
kind_of : (body : Body) → is_for_directory body ≡ false → (is_of_barrier body ≡ true) ⊎ (comes_from_home body ≡ true)
kind_of Arrive kind = inl refl
kind_of Leave kind = inl refl
kind_of Go kind = inl refl
kind_of (DataS bytes) kind = inr refl
kind_of (DataX bytes) kind = inr refl
kind_of Inv kind = inr refl
kind_of GetS kind = absurd cc
kind_of (GetX had) kind = absurd cc
kind_of PutS kind = absurd cc
kind_of (PutX bytes) kind = absurd cc
kind_of (InvAck bytes) kind = absurd cc
kind_of Wake kind = absurd cc

-- ---- one event

module _ (machine : MachineParts) (is : IsMachine machine) (world : World) (ok : IsWorldOf machine world) (known : Known) (good : IsCoherentWorld machine world known) (key : Key) where
  abbrev value : ℕ → List ℕ
  value block = bytes_of machine known.memory block

  module _ (event : Event Msg) (is_least : least (events_in (wind_tunnel machine) world) ≡ Some (key, event)) where
    abbrev it : NodeState
    it = (at machine is world ok key event is_least).node

    abbrev then : NodeState
    then = after machine is world ok key event is_least

    abbrev item : Record
    item = record_of machine it event

    -- what it does to the blocks, to the stray messages of its node, and what its record tells
    pub record IsKept : Type 0 where
      pub blocks : (later : World) → later.nodes ≡ map (node_after (wind_tunnel machine) key event) world.nodes → later.pending ≡ placed (taken event world.pending) (news machine is world ok key event is_least) →
          (block : ℕ) → block < machine.blocks → IsLater machine later block (stores_to machine item.deed block) (value block)
      pub stray : then.counters.stray ≡ it.counters.stray
      pub asked : (message : Message Msg) → event ≡ Arrival message → IsWantedIn it.mode message.1
      pub stored : (address width number : ℕ) → item.deed ≡ Stored address width number → is_shared address ≡ true → IsStored machine is world ok key event is_least known.memory good.size item.deed address width number
      pub loaded : (address value : ℕ) → item.deed ≡ Loaded address value → is_shared address ≡ true → IsLoadOf machine (word_of known item) address value then.cache
      pub waits : (block : ℕ) (exclusive : Bool) → then.mode ≡ Waiting block exclusive → word_of known item ≡ fetch_of machine then

    -- ---- the record

    counted : IsCounted machine it key event
    counted = (machines_are_simulations machine is).counts it key event (sound machine is world ok key event is_least) (due machine is world ok key event is_least)

    item_to : item.key.to ≡ it.number
    item_to = ap (λ (k : Key). k.to) counted.recorded_key ∙ key_to machine is world ok key event is_least

    pub handled_is : handled_at machine world ≡ item ∷ []
    handled_is =
        ap (recorded_of machine world) is_least
        ∙ single_flat (wind_tunnel machine) (recorded_by machine key event) 0 world.nodes it ok.numbered (at machine is world ok key event is_least).member
        (λ other apart. rw (ne_eqb other.number key.to (λ e. apart (e ∙ key_to machine is world ok key event is_least))) refl)
        ∙ rw (eq-eqb it.number key.to (sym (key_to machine is world ok key event is_least))) refl

    -- ---- the world after it

    module _ (kept : IsKept) where
      abbrev later : World
      later = serial_step (wind_tunnel machine) world

      later_nodes : later.nodes ≡ map (node_after (wind_tunnel machine) key event) world.nodes
      later_nodes = next_nodes machine is world ok key event is_least

      later_pending : later.pending ≡ placed (taken event world.pending) (news machine is world ok key event is_least)
      later_pending = next_pending machine is world ok key event is_least

      none : (node : NodeState) → (node ≡ then) ⊎ (IsIn node world.nodes × (node.number ≢ it.number)) → node.counters.stray ≡ 0
      none node (inl same) = ap (λ (n : NodeState). n.counters.stray) same ∙ kept.stray ∙ good.none_stray it (at machine is world ok key event is_least).member
      none node (inr old) = good.none_stray node old.0

      words : (node : NodeState) (block : ℕ) (exclusive : Bool) → node.mode ≡ Waiting block exclusive → (node ≡ then) ⊎ (IsIn node world.nodes × (node.number ≢ it.number)) → (after_record item known).word node.number ≡ fetch_of machine node
      words node block exclusive waits (inl same) =
          let number : node.number ≡ item.key.to = ap (λ (n : NodeState). n.number) same ∙ (reacted machine is world ok key event is_least).number ∙ sym item_to in
          rw (eq-eqb node.number item.key.to number) (kept.waits block exclusive (ap (λ (n : NodeState). n.mode) (sym same) ∙ waits) ∙ ap (fetch_of machine) (sym same))
      words node block exclusive waits (inr old) =
          rw (ne_eqb node.number item.key.to (λ e. old.1 (e ∙ item_to))) (good.words node block exclusive old.0 waits)

      coherent_after : IsCoherentWorld machine later (after_record item known)
      coherent_after = record {
        blocks = λ block inside. block_later machine is world ok key event is_least known.memory good.size item.deed kept.stored later later_nodes later_pending block inside (kept.blocks later later_nodes later_pending block inside);
        size = stored_size known.memory item.deed ∙ good.size;
        barrier = orderly_later machine is world ok key event is_least later later_nodes later_pending good.right good.barrier kept.asked;
        right = right_later machine is world ok key event is_least later later_nodes later_pending good.right;
        none_stray = λ node member. none node (in_later machine is world ok key event is_least later later_nodes later_pending node member);
        words = λ node block exclusive member waits. words node block exclusive waits (in_later machine is world ok key event is_least later later_nodes later_pending node member);
      }

      item_right : is_right known item ≡ true
      item_right = deed_right machine is world ok key event is_least known.memory good.size item.deed kept.stored later later_nodes later_pending (word_of known item) kept.loaded (kept.blocks later later_nodes later_pending)

      pub event_keeps : EventKeeps machine world known
      event_keeps = record {
        coherent = subst (λ (items : List Record). IsCoherentWorld machine later (after_records items known)) (sym handled_is) coherent_after;
        right = subst (AreRightRecords known) (sym handled_is) (item_right, tt);
      }

  -- ---- a step

  module _ (is_least : least (events_in (wind_tunnel machine) world) ≡ Some (key, Step)) where
    abbrev stepping : NodeState
    stepping = (at machine is world ok key Step is_least).node

    step_word : word_of known (record_of machine stepping Step) ≡ fetch_of machine stepping
    unfolding record_of
    step_word = refl

    step_kept : IsKept Step is_least
    step_kept = record {
      blocks = λ later nodes_is pending_is block inside. blocks_after_step machine is world ok key is_least later nodes_is pending_is good.right block (value block) (good.blocks block inside);
      stray = (events_move_law.step_left machine stepping (step_now machine is world ok key Step is_least refl).0).stray;
      asked = λ message e. absurd cc;
      stored = λ address width number e high.
          let done = accesses_law.step_store machine stepping address width number (sound machine is world ok key Step is_least) (step_now machine is world ok key Step is_least refl).0 e high in
          record {
            block = done.block;
            bytes = done.bytes;
            was = λ exists. held_value world done.block (value done.block) machine stepping stepping.number (record { writable = true; bytes = done.bytes }) (good.blocks done.block exists)
                (node_is machine 0 world.nodes stepping ok.numbered (at machine is world ok key Step is_least).member) done.copy;
            store = done.store;
          };
      loaded = λ address number e high. subst (λ (w : Option ℕ). IsLoadOf machine w address number (after machine is world ok key Step is_least).cache) (sym step_word)
          (accesses_law.step_load machine stepping address number (sound machine is world ok key Step is_least) (step_now machine is world ok key Step is_least refl).0 e high);
      waits = λ block exclusive waits. step_word ∙ sym (accesses_law.step_waits machine stepping block exclusive (sound machine is world ok key Step is_least) (step_now machine is world ok key Step is_least refl).0 waits);
    }

  -- ---- a message

  module _ (message : Message Msg) (is_least : least (events_in (wind_tunnel machine) world) ≡ Some (key, Arrival message)) where
    abbrev taker : NodeState
    taker = (at machine is world ok key (Arrival message) is_least).node

    is_wanted : IsWantedIn taker.mode message.1
    is_wanted = wanted machine is world ok key message is_least good.right value good.blocks

    is_asked : (other : Message Msg) → Arrival message ≡ Arrival other → IsWantedIn taker.mode other.1
    is_asked other e = let same : message ≡ other = cc in subst (λ (m : Message Msg). IsWantedIn taker.mode m.1) same is_wanted

    taker_sound : IsNode machine taker
    taker_sound = sound machine is world ok key (Arrival message) is_least

    message_word : word_of known (record_of machine taker (Arrival message)) ≡ known.word (record_of machine taker (Arrival message)).key.to
    unfolding record_of
    message_word = refl

    -- where its processor waits, that is the word that it is at
    word_there : (block : ℕ) (exclusive : Bool) → taker.mode ≡ Waiting block exclusive → word_of known (record_of machine taker (Arrival message)) ≡ fetch_of machine taker
    word_there block exclusive waits =
        message_word ∙ ap known.word (item_to (Arrival message) is_least) ∙ good.words taker block exclusive (at machine is world ok key (Arrival message) is_least).member waits

    with_blocks : ((later : World) → later.nodes ≡ map (node_after (wind_tunnel machine) key (Arrival message)) world.nodes → later.pending ≡ placed (taken (Arrival message) world.pending) (news machine is world ok key (Arrival message) is_least) →
        (block : ℕ) → block < machine.blocks → IsLater machine later block (stores_to machine (record_of machine taker (Arrival message)).deed block) (value block)) →
        (after machine is world ok key (Arrival message) is_least).counters.stray ≡ taker.counters.stray → IsKept (Arrival message) is_least
    with_blocks blocks stray = record {
      blocks = blocks;
      stray = stray;
      asked = is_asked;
      stored = λ address width number e high.
          let done = accesses_law.message_store machine taker message.0 message.1 address width number taker_sound is_wanted (fits machine is world ok key message is_least good.right).msg.«data» e high in
          record {
            block = message.1.block;
            bytes = done.bytes;
            was = λ exists. brought machine is world ok key message is_least good.right value good.blocks done.bytes done.brought;
            store = done.store;
          };
      loaded = λ address number e high.
          let done = accesses_law.message_load machine taker message.0 message.1 address number taker_sound is_wanted (fits machine is world ok key message is_least good.right).msg.«data» e high in
          let waited = accesses_law.message_waited machine taker message.0 message.1 taker_sound is_wanted (fits machine is world ok key message is_least good.right).msg.«data» (subst IsDone (sym e) tt) in
          subst (λ (w : Option ℕ). IsLoadOf machine w address number (after machine is world ok key (Arrival message) is_least).cache) (sym (word_there waited.0 waited.1 waited.2)) done;
      waits = λ block exclusive waits.
          let still = accesses_law.message_waits machine taker message.0 message.1 block exclusive taker_sound is_wanted (fits machine is world ok key message is_least good.right).msg.«data» waits in
          word_there block exclusive (sym still.waited ∙ waits) ∙ sym still.word;
    }

    row_kept : is_for_directory message.1.body ≡ true → IsKept (Arrival message) is_least
    row_kept kind = with_blocks
        (λ later nodes_is pending_is block inside. record {
          now = value block;
          same = λ none. refl;
          coherent = every_block machine is world ok key message is_least good.right kind later nodes_is pending_is value good.blocks block inside;
        })
        (none_stray_of_row machine is world ok key message is_least good.right kind (serial_step (wind_tunnel machine) world)
        (next_nodes machine is world ok key (Arrival message) is_least) (next_pending machine is world ok key (Arrival message) is_least) value good.blocks)

    other_kept : is_for_directory message.1.body ≡ false → IsKept (Arrival message) is_least
    other_kept kind = by (kind_of message.1.body kind)
      where
        by : (is_of_barrier message.1.body ≡ true) ⊎ (comes_from_home message.1.body ≡ true) → IsKept (Arrival message) is_least
        by (inl barrier) = with_blocks
            (λ later nodes_is pending_is. blocks_after_message machine is world ok key message is_least good.right kind later nodes_is pending_is
            (directory_left_by_barrier machine is world ok key (Arrival message) is_least good.right good.barrier message refl barrier) value good.blocks)
            (none_stray_of_barrier machine is world ok key (Arrival message) is_least good.right good.barrier message refl barrier)
        by (inr copy) =
            let left = events_move_law.copy_left machine taker message.0 message.1 copy is_wanted in
            with_blocks
            (λ later nodes_is pending_is. blocks_after_message machine is world ok key message is_least good.right kind later nodes_is pending_is left.directory value good.blocks)
            left.stray

    message_kept : IsKept (Arrival message) is_least
    message_kept = elim (cases_Bool (is_for_directory message.1.body)) [
      | inl kind ↦ row_kept kind
      | inr kind ↦ other_kept kind
    ]

  kept_by : (event : Event Msg) (is_least : least (events_in (wind_tunnel machine) world) ≡ Some (key, event)) → IsKept event is_least
  kept_by Step is_least = step_kept is_least
  kept_by (Arrival message) is_least = message_kept message is_least

-- ---- the serial run

pub step_coherent : (machine : MachineParts) (world : World) (known : Known) → IsMachine machine → IsWorldOf machine world → IsCoherentWorld machine world known → EventKeeps machine world known
step_coherent machine world known is ok good = by (least (events_in (wind_tunnel machine) world)) refl
  where
    by : (found : Option (Key × Event Msg)) → least (events_in (wind_tunnel machine) world) ≡ found → EventKeeps machine world known
    by None e = record {
      coherent = subst (λ (items : List Record). IsCoherentWorld machine (serial_step (wind_tunnel machine) world) (after_records items known)) (sym (ap (recorded_of machine world) e))
          (subst (λ (w : World). IsCoherentWorld machine w known) (sym (ap (after_least (wind_tunnel machine) world) e)) good);
      right = subst (AreRightRecords known) (sym (ap (recorded_of machine world) e)) tt;
    }
    by (Some event) e = event_keeps machine is world ok known good event.0 event.1 e (kept_by machine is world ok known good event.0 event.1 e)

after_both : (one two : List Record) (known : Known) → after_records (one ++ two) known ≡ after_records two (after_records one known)
after_both [] two known = refl
after_both (item ∷ rest) two known = after_both rest two (after_record item known)

right_both : (one two : List Record) (known : Known) → AreRightRecords known one → AreRightRecords (after_records one known) two → AreRightRecords known (one ++ two)
right_both [] two known is_one is_two = is_two
right_both (item ∷ rest) two known is_one is_two = (is_one.0, right_both rest two (after_record item known) is_one.1 is_two)

-- so many events on, with their records
pub record RunKeeps (machine : MachineParts) (world : World) (known : Known) (n : ℕ) : Type 0 where
  pub coherent : IsCoherentWorld machine (serial (wind_tunnel machine) n world) (after_records (history machine n world) known)
  pub right : AreRightRecords known (history machine n world)

pub run_coherent : (machine : MachineParts) (world : World) (known : Known) (n : ℕ) → IsMachine machine → IsWorldOf machine world → IsCoherentWorld machine world known → RunKeeps machine world known n
unfolding serial history
run_coherent machine world known zero is ok good = record { coherent = good; right = tt }
run_coherent machine world known (suc n) is ok good =
    let before = run_coherent machine world known n is ok good in
    let now = serial (wind_tunnel machine) n world in
    let event = step_coherent machine now (after_records (history machine n world) known) is
    (world_of_serial (wind_tunnel machine) (IsNode machine) (Fits machine) (machines_are_simulations machine is).laws n world ok) before.coherent in
    record {
      coherent = subst (IsCoherentWorld machine (serial_step (wind_tunnel machine) now)) (sym (after_both (history machine n world) (handled_at machine now) known)) event.coherent;
      right = right_both (history machine n world) (handled_at machine now) known before.right event.right;
    }
