-- What a step of the processor keeps of its node.
use Rattle.std.proofs.Common.{◌≡◌, ℕ, suc, ◌+◌, ◌%◌, ◌^◌, ◌<◌, ◌≤◌, max, Bool, true, false, cond, List, [], ◌∷◌, length, Option, Some, None, Result, Ok, Err, refl, ap, ◌∙◌, inl, inr, arith}
use Rattle.std.specs.Prelude.{All, ◌==◌, nat_le, option_map}
use Rattle.std.proofs.lemmas.Bool.{cases_Bool}
use Rattle.std.proofs.lemmas.Bool.Decides.{nat_tests}
use Rattle.wt_params.specs.declared.parts.MachineParts.{MachineParts}
use Rattle.wt_params.specs.Machine.{IsMachine, AreCosts, shared_block, home_of}
use Rattle.rv_decode.specs.declared.instr.CicoOp.{CicoOp}
use Rattle.rv_decode.specs.declared.instr.CicoOp.TheVariants.{CheckOutS, CheckOutX, CheckIn}
use Rattle.rv_decode.specs.declared.instr.LoadOp.{LoadOp}
use Rattle.rv_decode.specs.declared.instr.StoreOp.{StoreOp}
use Rattle.rv_decode.specs.declared.instr.StoreOp.TheVariants.{Sb, Sh, Sw}
use Rattle.rv_decode.specs.Table.{decode_of}
use Rattle.rv_exec.specs.declared.effect.Effect.{Effect}
use Rattle.rv_exec.specs.declared.effect.Effect.TheVariants.{Next, Load, Store, Cico, Call, Break, BadTarget, Illegal}
use Rattle.rv_exec.specs.Meaning.{address_after, IfNext}
use Rattle.rv_exec.specs.Widths.{load_width_of, store_width_of, widened}
use Rattle.rv_exec.proofs.MeaningLaws.{meaning_of-next}
use Rattle.priv_mem.specs.declared.fault.MemFault.{MemFault}
use Rattle.priv_mem.specs.declared.fault.MemFault.TheVariants.{Misaligned, Outside}
use Rattle.priv_mem.specs.Memory.{IsWidth, load_of, store_of}
use Rattle.wt_proto.specs.declared.message.Body.{Body}
use Rattle.wt_proto.specs.declared.message.Body.TheVariants.{GetS, GetX, PutS, PutX, Arrive, Leave}
use Rattle.wt_proto.specs.declared.mode.Cause.{Cause}
use Rattle.wt_proto.specs.declared.mode.Cause.TheVariants as causes
use Rattle.wt_proto.specs.declared.mode.Mode.TheVariants.{Running, Waiting, InBarrier, Stopped}
use Rattle.wt_stats.specs.declared.counters.Counters.{Counters}
use Rattle.wt_proto.specs.Messages.{MsgFits}
use Rattle.block_tags.specs.declared.tag.Tag.{Tag}
use Rattle.block_tags.specs.declared.tag.Tag.TheVariants.{Invalid, ReadOnly, Writable}
use Rattle.cico_ops.specs.Annotations.{action_of}
use Rattle.target_cache.specs.declared.line.Line.{Line}
use Rattle.target_cache.specs.Cached.{Cached, tag_of, line_of, read_of, write_of, drop_of}
use Rattle.node.specs.declared.state.NodeState.{NodeState}
use Rattle.node.specs.State.{register, with_register, one_done, one_hit, one_miss, one_upgrade, one_checkin, in_mode}
use Rattle.node.specs.Handled.{Handled, quiet, sending, stopped, moved_on, loaded_into, stored_at, to_home, message_to, gives_back}
use Rattle.node.specs.SharedAccess.{offset_of, missed, upgraded, hit_load_by, shared_load_of, hit_store_by, shared_store_of, stored_value}
use Rattle.node.specs.PrivateAccess.{load_by, load_from, store_by, store_to}
use Rattle.node.specs.Annotation.{annotated, checked_in, annotate_by, annotate_block, annotate_of}
use Rattle.node.specs.Call.{barrier_call_of, exit_of, call_of}
use Rattle.node.specs.Processor.{fetch_of, meaning_in, effect_by, execute_of, step_by, step_of}
use Rattle.node.specs.DataMessage.{effect_at}
use Rattle.node.specs.Sound.{CountsFit, CacheFits, Asks, SendFits}
use Rattle.node.proofs.Accesses.{block_exists, written_fits, dropped_fits, absent_after_drop, unread_absent, held_line_fits, LineFitsOpt}
use Rattle.node.proofs.Memory.{load_outside, store_outside, stored_length}
use Rattle.node.proofs.Kept.{HasBegun, Went, settled, went_on, all_none, all_one, after_aligned, step_in_is}

pub home_below : (machine : MachineParts) (block : ℕ) → IsMachine machine → home_of machine block < machine.nodes
home_below machine block is = grind arith

-- one message that leaves at the time of its event
pub sends_one : (machine : MachineParts) (time to block : ℕ) (body : Body) → time < 2 ^ 40 → to < machine.nodes → MsgFits machine (record { block = block; body = body }) →
    All (SendFits machine time) (message_to time to block body ∷ [])
sends_one machine time to block body early there fits =
    all_one (SendFits machine time) (message_to time to block body) (record { sendable = record { to = there; early = omega arith }; from_now = omega arith; msg = fits })

-- what is given back is one message at most
pub gives_back_fits : (machine : MachineParts) (time : ℕ) (line : Option Line) → IsMachine machine → time < 2 ^ 40 → LineFitsOpt machine line →
    All (SendFits machine time) (gives_back machine time line) × (length (gives_back machine time line) ≤ machine.nodes + 1)
gives_back_fits machine time None is early fits = (all_none (SendFits machine time), omega arith)
gives_back_fits machine time (Some line) is early fits = (by line.writable, omega arith)
  where
    by : (writable : Bool) → All (SendFits machine time) (to_home machine time line.block (cond writable (PutX line.bytes) PutS) ∷ [])
    by true = sends_one machine time (home_of machine line.block) line.block (PutX line.bytes) early (home_below machine line.block is) (record { block = fits.0; «data» = fits.1 })
    by false = sends_one machine time (home_of machine line.block) line.block PutS early (home_below machine line.block is) (record { block = fits.0; «data» = tt })

pub store_width_is : (op : StoreOp) → IsWidth (store_width_of op)
store_width_is Sb = inl refl
store_width_is Sh = inr (inl refl)
store_width_is Sw = inr (inr refl)

some_width : (op : StoreOp) → 1 ≤ store_width_of op
some_width Sb = omega arith
some_width Sh = omega arith
some_width Sw = omega arith

module _ (machine : MachineParts) (time : ℕ) (old : NodeState) (is : HasBegun machine old.counters.messages old) (early : time < 2 ^ 40) (running : old.mode ≡ Running) where
  costs : AreCosts machine.costs
  costs = is.numbers.costs

  -- a stop
  stops : (cause : Cause) → Went machine time (suc time) old (stopped cause old)
  stops cause = record {
    still = record { number = refl; steps = refl; messages = refl; sent = refl; last = refl; traced = refl; log = refl };
    sound = settled machine old.counters.messages old is (Stopped cause) old.counters (let room = is.counts in grind arith) refl (omega arith) tt;
    sends = all_none (SendFits machine time);
    few = omega arith;
    later = λ next e. let f : None ≡ Some next = e in absurd cc;
  }

  -- an instruction that is finished
  module _ (registers : List ℕ) (pc cost : ℕ) (private : List ℕ) (cache : Cached) (counters : Counters) (output : List ℕ) where
    abbrev moved : NodeState
    moved = record old { registers = registers; pc = pc; ready = time + cost; private = private; cache = cache; counters = counters; output = output }

    moves : (handled : Handled) → handled.node ≡ moved → pc % 4 ≡ 0 → 1 ≤ cost → cost ≤ 4096 → length private ≡ machine.private_bytes → CacheFits machine cache → CountsFit machine counters →
        counters.steps ≡ old.counters.steps → counters.messages ≡ old.counters.messages → counters.sent ≡ old.counters.sent → All (SendFits machine time) handled.sends → length handled.sends ≤ machine.nodes + 1 →
        Went machine time (suc time) old handled
    moves handled node aligned some most whole fits counts steps messages sent sends few = record {
      still = rw node (record { number = refl; steps = steps; messages = messages; sent = sent; last = refl; traced = refl; log = refl });
      sound = rw node (went_on machine old.counters.messages old is registers pc (time + cost) private cache counters output aligned (omega arith) whole fits counts messages (omega (arith, steps, messages)) old.mode running);
      sends = sends;
      few = few;
      later = λ next e. let n : max (time + cost) old.busy ≡ next = step_in_is old.mode (max (time + cost) old.busy) next (rw node at e) in omega arith;
    }

  -- an instruction whose time is its cost, and that changes nothing else that must fit
  module _ (registers output : List ℕ) (counters : Counters) (cost : ℕ) (some : 1 ≤ cost) (most : cost ≤ 4096) (counts : CountsFit machine counters)
      (steps : counters.steps ≡ old.counters.steps) (messages : counters.messages ≡ old.counters.messages) (sent : counters.sent ≡ old.counters.sent) where
    passes : (handled : Handled) (private : List ℕ) (cache : Cached) → handled.node ≡ moved registers (address_after old.pc) cost private cache counters output → length private ≡ machine.private_bytes → CacheFits machine cache →
        All (SendFits machine time) handled.sends → length handled.sends ≤ machine.nodes + 1 → Went machine time (suc time) old handled
    passes handled private cache node whole fits sends few =
        moves registers (address_after old.pc) cost private cache counters output handled node (after_aligned old.pc is.aligned) some most whole fits counts steps messages sent sends few

  -- a load or a store in private memory or in the cache
  loads : (rd value address cost : ℕ) (counters : Counters) → 1 ≤ cost → cost ≤ 4096 → CountsFit machine (record counters { done = counters.done + 1 }) → counters.steps ≡ old.counters.steps → counters.messages ≡ old.counters.messages → counters.sent ≡ old.counters.sent →
      Went machine time (suc time) old (loaded_into rd value address (time + cost) (record old { counters = counters }))
  loads rd value address cost counters some most counts steps messages sent =
      passes (with_register old rd value).registers old.output (record counters { done = counters.done + 1 }) cost some most counts steps messages sent _ old.private old.cache refl is.private is.cache
      (all_none (SendFits machine time)) (omega arith)

  stores : (address width value cost : ℕ) (private : List ℕ) (cache : Cached) (counters : Counters) → 1 ≤ cost → cost ≤ 4096 → length private ≡ machine.private_bytes → CacheFits machine cache →
      CountsFit machine (record counters { done = counters.done + 1 }) → counters.steps ≡ old.counters.steps → counters.messages ≡ old.counters.messages → counters.sent ≡ old.counters.sent →
      Went machine time (suc time) old (stored_at address width value (time + cost) (record old { private = private; cache = cache; counters = counters }))
  stores address width value cost private cache counters some most whole fits counts steps messages sent =
      passes old.registers old.output (record counters { done = counters.done + 1 }) cost some most counts steps messages sent _ private cache refl whole fits (all_none (SendFits machine time)) (omega arith)

  -- a processor that waits for a block
  waits : (block : ℕ) (exclusive : Bool) (cache : Cached) (counters : Counters) (body : Body) → block < machine.blocks → old.pc < machine.private_bytes → tag_of cache block ≡ Invalid → Asks machine block exclusive (effect_at machine old) →
      CacheFits machine cache → CountsFit machine counters → counters.steps ≡ old.counters.steps → counters.messages ≡ old.counters.messages → counters.sent ≡ old.counters.sent → MsgFits machine (record { block = block; body = body }) →
      Went machine time (suc time) old (sending (to_home machine time block body ∷ []) (quiet (record old { mode = Waiting block exclusive; cache = cache; counters = counters })))
  waits block exclusive cache counters body exists fetched absent asks fits counts steps messages sent msg = record {
    still = record { number = refl; steps = steps; messages = messages; sent = sent; last = refl; traced = refl; log = refl };
    sound = record {
      numbers = is.numbers;
      number = is.number;
      aligned = is.aligned;
      private = is.private;
      ready = is.ready;
      busy = let b = is.busy in omega (arith, steps, messages);
      counts = counts;
      cache = fits;
      directory = rw messages is.directory;
      barrier = is.barrier;
      mode = record { exists = exists; fetched = fetched; absent = absent; asks = asks };
      logged = is.logged;
    };
    sends = sends_one machine time (home_of machine block) block body early (home_below machine block is.numbers) msg;
    few = omega arith;
    later = λ next e. let f : None ≡ Some next = e in absurd cc;
  }

  misses : (block : ℕ) (exclusive : Bool) → block < machine.blocks → old.pc < machine.private_bytes → tag_of old.cache block ≡ Invalid → Asks machine block exclusive (effect_at machine old) →
      Went machine time (suc time) old (missed machine time block exclusive old)
  misses block true exists fetched absent asks =
      waits block true old.cache (one_miss old).counters (GetX false) exists fetched absent asks is.cache (let room = is.counts in grind arith) refl refl refl (record { block = exists; «data» = tt })
  misses block false exists fetched absent asks =
      waits block false old.cache (one_miss old).counters GetS exists fetched absent asks is.cache (let room = is.counts in grind arith) refl refl refl (record { block = exists; «data» = tt })

  upgrades : (block : ℕ) → block < machine.blocks → old.pc < machine.private_bytes → Asks machine block true (effect_at machine old) → Went machine time (suc time) old (upgraded machine time block old)
  upgrades block exists fetched asks =
      waits block true (drop_of block old.cache) (one_upgrade old).counters (GetX true) exists fetched (absent_after_drop machine old.cache block is.numbers is.cache) asks (dropped_fits machine old.cache block is.numbers is.cache)
      (let room = is.counts in grind arith) refl refl refl (record { block = exists; «data» = tt })

  -- ---- accesses

  load_asks : (op : LoadOp) (rd address block : ℕ) → effect_at machine old ≡ Some (Load op rd address) → address % load_width_of op ≡ 0 → shared_block machine address ≡ Some block → Asks machine block false (effect_at machine old)
  load_asks op rd address block does aligned here = rw does (refl, record { aligned = aligned; here = here })

  shared_loads : (op : LoadOp) (rd address : ℕ) → effect_at machine old ≡ Some (Load op rd address) → old.pc < machine.private_bytes → address % load_width_of op ≡ 0 →
      Went machine time (suc time) old (shared_load_of machine time op rd address old (shared_block machine address))
  shared_loads op rd address does fetched aligned = by_block (shared_block machine address) refl
    where
      by_block : (found : Option ℕ) → shared_block machine address ≡ found → Went machine time (suc time) old (shared_load_of machine time op rd address old found)
      by_block None here = stops (causes.Address address)
      by_block (Some block) here = by_number (read_of old.cache block (offset_of machine address) (load_width_of op)) refl
        where
          by_number : (number : Option ℕ) → read_of old.cache block (offset_of machine address) (load_width_of op) ≡ number → Went machine time (suc time) old (hit_load_by machine time op rd address block old number)
          by_number (Some number) read = loads rd (widened op number) address machine.costs.hit (one_hit old).counters costs.hit.at_least costs.hit.at_most (let room = is.counts in grind arith) refl refl refl
          by_number None read =
              misses block false (block_exists machine address block is.numbers.block_bytes here) fetched (unread_absent old.cache block (offset_of machine address) (load_width_of op) read)
              (load_asks op rd address block does aligned here)

  loads_from : (op : LoadOp) (rd address : ℕ) → effect_at machine old ≡ Some (Load op rd address) → old.pc < machine.private_bytes → Went machine time (suc time) old (load_from machine time op rd address old)
  unfolding load_from
  loads_from op rd address does fetched = by_answer (load_of old.private address (load_width_of op)) refl
    where
      by_answer : (answer : Result ℕ MemFault) → load_of old.private address (load_width_of op) ≡ answer → Went machine time (suc time) old (load_by machine time op rd address old answer)
      by_answer (Ok number) given = loads rd (widened op number) address machine.costs.mem old.counters costs.mem.at_least costs.mem.at_most (let room = is.counts in grind arith) refl refl refl
      by_answer (Err Misaligned) given = stops (causes.Misaligned address)
      by_answer (Err Outside) given = shared_loads op rd address does fetched (load_outside old.private address (load_width_of op) given)

  shared_stores : (op : StoreOp) (address value : ℕ) → effect_at machine old ≡ Some (Store op address value) → old.pc < machine.private_bytes → address % store_width_of op ≡ 0 →
      Went machine time (suc time) old (shared_store_of machine time op address value old (shared_block machine address))
  shared_stores op address value does fetched aligned = by_block (shared_block machine address) refl
    where
      by_block : (found : Option ℕ) → shared_block machine address ≡ found → Went machine time (suc time) old (shared_store_of machine time op address value old found)
      by_block None here = stops (causes.Address address)
      by_block (Some block) here = by_tag (tag_of old.cache block) refl
        where
          asks : Asks machine block true (effect_at machine old)
          asks = rw does (refl, record { aligned = aligned; here = here })

          exists : block < machine.blocks
          exists = block_exists machine address block is.numbers.block_bytes here

          by_tag : (tag : Tag) → tag_of old.cache block ≡ tag → Went machine time (suc time) old (hit_store_by machine time op address value block old tag)
          by_tag Writable held =
              stores address (store_width_of op) (stored_value op value) machine.costs.hit old.private (write_of block (offset_of machine address) (store_width_of op) value old.cache) (one_hit old).counters costs.hit.at_least
              costs.hit.at_most is.private (written_fits machine old.cache block address (store_width_of op) value is.numbers is.cache (store_width_is op) aligned) (let room = is.counts in grind arith) refl refl refl
          by_tag ReadOnly held = upgrades block exists fetched asks
          by_tag Invalid held = misses block true exists fetched held asks

  stores_to : (op : StoreOp) (address value : ℕ) → effect_at machine old ≡ Some (Store op address value) → old.pc < machine.private_bytes → Went machine time (suc time) old (store_to machine time op address value old)
  unfolding store_to
  stores_to op address value does fetched = by_answer (store_of old.private address (store_width_of op) value) refl
    where
      by_answer : (answer : Result (List ℕ) MemFault) → store_of old.private address (store_width_of op) value ≡ answer → Went machine time (suc time) old (store_by machine time op address value old answer)
      by_answer (Ok memory) given =
          stores address (store_width_of op) (stored_value op value) machine.costs.mem memory old.cache old.counters costs.mem.at_least costs.mem.at_most
          (stored_length old.private address (store_width_of op) value memory (some_width op) given ∙ is.private) is.cache (let room = is.counts in grind arith) refl refl refl
      by_answer (Err Misaligned) given = stops (causes.Misaligned address)
      by_answer (Err Outside) given = shared_stores op address value does fetched (store_outside old.private address (store_width_of op) value given)

  -- ---- annotations

  annotates : (counters : Counters) (cache : Cached) (handled : Handled) → handled.node ≡ moved old.registers (address_after old.pc) machine.costs.cico old.private cache (record counters { done = counters.done + 1 }) old.output →
      CacheFits machine cache → CountsFit machine (record counters { done = counters.done + 1 }) → counters.steps ≡ old.counters.steps → counters.messages ≡ old.counters.messages → counters.sent ≡ old.counters.sent →
      All (SendFits machine time) handled.sends → length handled.sends ≤ machine.nodes + 1 → Went machine time (suc time) old handled
  annotates counters cache handled node fits counts steps messages sent sends few =
      passes old.registers old.output (record counters { done = counters.done + 1 }) machine.costs.cico costs.cico.at_least costs.cico.at_most counts steps messages sent handled old.private cache node is.private fits sends few

  goes_past : Went machine time (suc time) old (quiet (annotated machine time old))
  goes_past = annotates old.counters old.cache (quiet (annotated machine time old)) refl is.cache (let room = is.counts in grind arith) refl refl refl (all_none (SendFits machine time)) (omega arith)

  checks_in : (block : ℕ) → block < machine.blocks → Went machine time (suc time) old (checked_in machine time block old)
  checks_in block exists =
      annotates (one_checkin old).counters (drop_of block old.cache) (checked_in machine time block old) refl (dropped_fits machine old.cache block is.numbers is.cache) (let room = is.counts in grind arith) refl refl refl
      back.0 back.1
    where
      back : All (SendFits machine time) (gives_back machine time (line_of old.cache block)) × (length (gives_back machine time (line_of old.cache block)) ≤ machine.nodes + 1)
      back = gives_back_fits machine time (line_of old.cache block) is.numbers early (held_line_fits machine old.cache block is.numbers is.cache exists)

  annotates_by : (op : CicoOp) (address block : ℕ) → effect_at machine old ≡ Some (Cico op address) → old.pc < machine.private_bytes → shared_block machine address ≡ Some block →
      Went machine time (suc time) old (annotate_by machine time block old (action_of op (tag_of old.cache block)))
  annotates_by op address block does fetched here = by op (tag_of old.cache block) does refl
    where
      exists : block < machine.blocks
      exists = block_exists machine address block is.numbers.block_bytes here

      by : (o : CicoOp) (tag : Tag) → effect_at machine old ≡ Some (Cico o address) → tag_of old.cache block ≡ tag → Went machine time (suc time) old (annotate_by machine time block old (action_of o tag))
      by CheckOutS Invalid doing held = misses block false exists fetched held (rw doing (refl, here))
      by CheckOutS ReadOnly doing held = goes_past
      by CheckOutS Writable doing held = goes_past
      by CheckOutX Invalid doing held = misses block true exists fetched held (rw doing (refl, here))
      by CheckOutX ReadOnly doing held = upgrades block exists fetched (rw doing (refl, here))
      by CheckOutX Writable doing held = goes_past
      by CheckIn Invalid doing held = goes_past
      by CheckIn ReadOnly doing held = checks_in block exists
      by CheckIn Writable doing held = checks_in block exists

  annotates_at : (op : CicoOp) (address : ℕ) → effect_at machine old ≡ Some (Cico op address) → old.pc < machine.private_bytes → Went machine time (suc time) old (annotate_of machine time op address old)
  unfolding annotate_of
  annotates_at op address does fetched = by_block (shared_block machine address) refl
    where
      by_block : (found : Option ℕ) → shared_block machine address ≡ found → Went machine time (suc time) old (annotate_block machine time op old found)
      by_block None here = goes_past
      by_block (Some block) here = annotates_by op address block does fetched here

  -- ---- environment calls

  goes_on : (registers output : List ℕ) (handled : Handled) → handled.node ≡ moved registers (address_after old.pc) machine.costs.call old.private old.cache (one_done old).counters output → handled.sends ≡ [] → Went machine time (suc time) old handled
  goes_on registers output handled node sends =
      passes registers output (one_done old).counters machine.costs.call costs.call.at_least costs.call.at_most (let room = is.counts in grind arith) refl refl refl handled old.private old.cache node is.private is.cache
      (rw sends (all_none (SendFits machine time))) (rw sends (omega arith))

  barriers : old.pc < machine.private_bytes → Went machine time (suc time) old (barrier_call_of machine time old)
  barriers fetched = by (machine.nodes == 1)
    where
      by : (alone : Bool) → Went machine time (suc time) old (cond alone (quiet (moved_on (address_after old.pc) (time + machine.costs.call) old)) (sending (message_to time 0 0 Arrive ∷ []) (quiet (in_mode InBarrier old))))
      by true = goes_on old.registers old.output (quiet (moved_on (address_after old.pc) (time + machine.costs.call) old)) refl refl
      by false = record {
        still = record { number = refl; steps = refl; messages = refl; sent = refl; last = refl; traced = refl; log = refl };
        sound = settled machine old.counters.messages old is InBarrier old.counters (let room = is.counts in grind arith) refl (omega arith) fetched;
        sends = sends_one machine time 0 0 Arrive early is.numbers.nodes.at_least (record { block = refl; «data» = tt });
        few = omega arith;
        later = λ next e. let f : None ≡ Some next = e in absurd cc;
      }

  exits : (code : ℕ) → Went machine time (suc time) old (exit_of machine time code old)
  exits code = by (machine.nodes == 1)
    where
      ends : (handled : Handled) → handled.node ≡ in_mode (Stopped (causes.Exit code)) (one_done old) → All (SendFits machine time) handled.sends → length handled.sends ≤ machine.nodes + 1 → Went machine time (suc time) old handled
      ends handled node sends few = record {
        still = rw node (record { number = refl; steps = refl; messages = refl; sent = refl; last = refl; traced = refl; log = refl });
        sound = rw node (settled machine old.counters.messages old is (Stopped (causes.Exit code)) (one_done old).counters (let room = is.counts in grind arith) refl (omega arith) tt);
        sends = sends;
        few = few;
        later = λ next e. let f : None ≡ Some next = rw node at e in absurd cc;
      }

      by : (alone : Bool) → Went machine time (suc time) old (cond alone (stopped (causes.Exit code) (one_done old)) (sending (message_to time 0 0 Leave ∷ []) (stopped (causes.Exit code) (one_done old))))
      by true = ends (stopped (causes.Exit code) (one_done old)) refl (all_none (SendFits machine time)) (omega arith)
      by false = ends (sending (message_to time 0 0 Leave ∷ []) (stopped (causes.Exit code) (one_done old))) refl (sends_one machine time 0 0 Leave early is.numbers.nodes.at_least (record { block = refl; «data» = tt })) (omega arith)

  either : (test : Bool) (one other : Handled) → Went machine time (suc time) old one → Went machine time (suc time) old other → Went machine time (suc time) old (cond test one other)
  either true one other is_one is_other = is_one
  either false one other is_one is_other = is_other

  calls : old.pc < machine.private_bytes → Went machine time (suc time) old (call_of machine time old)
  unfolding call_of
  calls fetched =
      let call = register old 17 in
      either (call == 1) _ _ (goes_on old.registers _ _ refl refl)
      (either (call == 2) _ _ (goes_on _ old.output _ refl refl)
      (either (call == 3) _ _ (goes_on _ old.output _ refl refl)
      (either (call == 4) _ _ (goes_on _ old.output _ refl refl)
      (either (call == 5) _ _ (barriers fetched)
      (either (call == 93) _ _ (exits (register old 10)) (stops (causes.Call call)))))))

  -- ---- the step

  does : (word : ℕ) (effect : Effect) (registers : List ℕ) → effect_at machine old ≡ Some effect → old.pc < machine.private_bytes → IfNext effect (λ next cost. (next % 4 ≡ 0) × (1 ≤ cost) × (cost ≤ 4096)) →
      Went machine time (suc time) old (effect_by machine time word old registers effect)
  does word (Next pc cost) registers doing fetched next =
      moves registers pc cost old.private old.cache (one_done old).counters old.output _ refl next.0 next.1 next.2 is.private is.cache (let room = is.counts in grind arith) refl refl refl (all_none (SendFits machine time)) (omega arith)
  does word (Load op rd address) registers doing fetched next = loads_from op rd address doing fetched
  does word (Store op address value) registers doing fetched next = stores_to op address value doing fetched
  does word (Cico op address) registers doing fetched next = annotates_at op address doing fetched
  does word Call registers doing fetched next = calls fetched
  does word Break registers doing fetched next = stops causes.Break
  does word (BadTarget target) registers doing fetched next = stops (causes.Target target)
  does word Illegal registers doing fetched next = stops (causes.Illegal word)

  pub step_kept : Went machine time (suc time) old (step_of machine time old)
  unfolding execute_of
  step_kept = by (fetch_of machine old) refl
    where
      inside : (word : ℕ) → fetch_of machine old ≡ Some word → old.pc < machine.private_bytes
      inside word found = elim (cases_Bool (nat_le machine.private_bytes old.pc)) [
        | inl past ↦ absurd (let e : None ≡ Some word = rw past at found in cc)
        | inr here ↦ grind (arith, nat_tests)
      ]

      next_fits : (word : ℕ) → IfNext (meaning_in machine word old).1 (λ next cost. (next % 4 ≡ 0) × (1 ≤ cost) × (cost ≤ 4096))
      next_fits word =
          meaning_of-next (λ next cost. (next % 4 ≡ 0) × (1 ≤ cost) × (cost ≤ 4096)) old.registers old.pc (decode_of word) machine.costs
          (after_aligned old.pc is.aligned, costs.op.at_least, costs.op.at_most) (λ target aligned. (aligned, costs.taken.at_least, costs.taken.at_most))

      by : (found : Option ℕ) → fetch_of machine old ≡ found → Went machine time (suc time) old (step_by machine time old found)
      by None found = stops (causes.Fetch old.pc)
      by (Some word) found =
          does word (meaning_in machine word old).1 (meaning_in machine word old).0 (ap (option_map (λ w. (meaning_in machine w old).1)) found) (inside word found) (next_fits word)
