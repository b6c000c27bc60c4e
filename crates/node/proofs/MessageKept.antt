-- What a message keeps of its node.
use Rattle.std.proofs.Common.{◌≡◌, ℕ, ◌+◌, ◌*◌, ◌/◌, ◌^◌, ◌<◌, ◌≤◌, max, Bool, true, false, cond, List, [], ◌∷◌, length, Option, Some, None, refl, ap, ◌∙◌, inl, inr, arith}
use Rattle.std.specs.Prelude.{All, ◌==◌, not, map}
use Rattle.std.proofs.lemmas.Bool.{cases_Bool, eqb-true}
use Rattle.std.proofs.lemmas.List.{length-map, length-set}
use Rattle.std.proofs.lemmas.List.Elements.{All-set, All-map, All-filter}
use Rattle.std.proofs.lemmas.List.FromFn.{length-range_with_len, get_or-range_with_len}
use Rattle.wt_params.specs.declared.parts.MachineParts.{MachineParts}
use Rattle.wt_params.specs.Machine.{IsMachine, home_of}
use Rattle.wt_proto.specs.declared.directory.Targets.{Targets}
use Rattle.wt_proto.specs.declared.directory.Targets.TheVariants.{AllBut, One}
use Rattle.wt_proto.specs.declared.directory.TrapPlan.{TrapPlan}
use Rattle.wt_proto.specs.declared.message.Body.TheVariants.{InvAck, Go}
use Rattle.wt_proto.specs.declared.message.Msg.{Msg}
use Rattle.wt_proto.specs.declared.message.Outgoing.{Outgoing}
use Rattle.wt_proto.specs.declared.mode.Mode.{Mode}
use Rattle.wt_proto.specs.declared.mode.Mode.TheVariants.{Running, Waiting, InBarrier, Stopped}
use Rattle.wt_proto.specs.Messages.{MsgFits}
use Rattle.wt_proto.specs.NodeSets.{nodes_below}
use Rattle.wt_stats.specs.declared.counters.Counters.{Counters}
use Rattle.target_cache.specs.declared.line.Line.{Line}
use Rattle.target_cache.specs.Cached.{line_of, drop_of}
use Rattle.dir1sw.specs.declared.home.DirAct.{DirAct}
use Rattle.dir1sw.specs.declared.home.DirAct.TheVariants.{Done, Trap, Stray}
use Rattle.dir1sw.specs.declared.home.Place.{Place}
use Rattle.dir1sw.specs.Homes.{Homes, block_of, with_block, place_of, row_of, count_of, fresh_block}
use Rattle.dir1sw.specs.Fits.{RowFits, ActFits, SendFits as OutgoingFits}
use Rattle.dir1sw.proofs.FitsLaws.{rows_fit_law}
use Rattle.target_barrier.specs.declared.barrier.Release.{Release}
use Rattle.target_barrier.specs.declared.barrier.Release.TheVariants as releases
use Rattle.target_barrier.specs.Barrier.{Barrier, arrive_of as barrier_arrive_of, leave_of as barrier_leave_of}
use Rattle.trap_handler.specs.Trap.{targets_of, invalidation, busy_after}
use Rattle.node.specs.declared.state.NodeState.{NodeState}
use Rattle.node.specs.State.{step_in, next_step_of, one_stray, one_inv, one_barrier}
use Rattle.node.specs.Handled.{Handled, quiet, moved_on, to_home, message_to, sent_at}
use Rattle.node.specs.DirectoryMessage.{trap_sends, trapped, trap_of, act_by, row_handled, directory_message_of}
use Rattle.node.specs.InvMessage.{dirty_bytes, inv_by, inv_message_of}
use Rattle.node.specs.BarrierMessage.{go_to, release_by, with_barrier, has_unit, arrive_message_of, leave_message_of, go_by, go_message_of}
use Rattle.node.specs.Sound.{IsNode, CountsFit, DirectoryFits, BlockFits, BarrierFits, ModeFits, SendFits}
use Rattle.node.proofs.Accesses.{dropped_fits, still_absent, held_line_fits, LineFitsOpt}
use Rattle.node.proofs.Barriers.{ReleaseFits, arrive_fits, leave_fits}
use Rattle.dir_list.specs.Lists.{AreRising}
use Rattle.dir_list.proofs.RisingLaws.{rising_few, rising_below}
use Rattle.node.proofs.Traps.{few_targets, few_cycles}
use Rattle.node.proofs.TrapRows.{silent_trap}
use Rattle.node.proofs.Kept.{HasBegun, Same, Went, seen_more, settled, went_on, all_none, all_one, after_aligned, step_in_is}
use Rattle.node.proofs.StepKept.{sends_one, home_below}

-- a list of messages, each about the same time
all_sent : (machine : MachineParts) (time at : ℕ) (xs : List Outgoing) → time ≤ at → at < 2 ^ 62 → All (OutgoingFits machine) xs → All (SendFits machine time) (map (sent_at at) xs)
all_sent machine time at xs from early fits =
    All-map (SendFits machine time) (sent_at at) xs (λ k d below. let one = fits k d below in record { sendable = record { to = one.to; early = early }; from_now = from; msg = one.msg })

-- the bytes that a line gives back have the length of a block
abbrev LineBytesFit : MachineParts → Option (List ℕ) → Type 0
LineBytesFit machine None = Unit {0}
LineBytesFit machine (Some bytes) = length bytes ≡ machine.block_bytes

dirty_fits : (machine : MachineParts) (line : Line) → length line.bytes ≡ machine.block_bytes → LineBytesFit machine (dirty_bytes line)
dirty_fits machine line size = by line.writable
  where
    by : (writable : Bool) → LineBytesFit machine (cond {A = Option (List ℕ)} writable (Some line.bytes) None)
    by true = size
    by false = tt

-- what a processor waits for doesn't depend on clocks, directory, barrier and counters
pub same_mode : (machine : MachineParts) (old : NodeState) (busy : ℕ) (directory : Homes) (barrier : Barrier) (counters : Counters) (mode : Mode) → ModeFits machine old mode →
    ModeFits machine (record old { busy = busy; directory = directory; barrier = barrier; counters = counters }) mode
same_mode machine old busy directory barrier counters Running fits = tt
same_mode machine old busy directory barrier counters (Waiting wanted exclusive) fits = record { exists = fits.exists; fetched = fits.fetched; absent = fits.absent; asks = fits.asks }
same_mode machine old busy directory barrier counters InBarrier fits = fits
same_mode machine old busy directory barrier counters (Stopped cause) fits = tt

abbrev TargetsFit : ℕ → Targets → Type 0
TargetsFit nodes (AllBut node) = node < nodes
TargetsFit nodes (One node) = node < nodes

below_range : (nodes : ℕ) → All (λ node. node < nodes) (nodes_below nodes)
below_range nodes k d below = let all = length-range_with_len 0 nodes in let at = get_or-range_with_len 0 nodes k d (omega arith) in omega arith

-- the nodes that a trap calls back from
targets_below : (nodes : ℕ) (targets : Targets) → TargetsFit nodes targets → All (λ node. node < nodes) (targets_of nodes targets)
targets_below nodes (AllBut spared) fit = All-filter (λ node. not (node == spared)) (λ node. node < nodes) (nodes_below nodes) (below_range nodes)
targets_below nodes (One node) fit = all_one (λ node. node < nodes) node fit

target_fits : (machine : MachineParts) (plan : TrapPlan) → ActFits machine (Trap plan) → TargetsFit machine.nodes plan.targets
target_fits machine plan act = by plan.targets act
  where
    by : (targets : Targets) → ActFits machine (Trap (record { block = plan.block; targets = targets })) → TargetsFit machine.nodes targets
    by (AllBut node) fit = fit
    by (One node) fit = fit

place_inside : (machine : MachineParts) (block number : ℕ) → IsMachine machine → block < machine.blocks → home_of machine block ≡ number → block / machine.nodes < count_of machine number
place_inside machine block number is exists home = grind arith

module _ (machine : MachineParts) (time seen : ℕ) (old : NodeState) (is : HasBegun machine seen old) (early : time < 2 ^ 40) (due : (next : ℕ) → next_step_of old ≡ Some next → time ≤ next) where
  -- what changes neither the processor nor the cache
  keeps : (counters : Counters) (handled : Handled) → handled.node ≡ record old { counters = counters } → CountsFit machine counters → counters.steps ≡ old.counters.steps → counters.messages ≡ old.counters.messages → counters.sent ≡ old.counters.sent →
      All (SendFits machine time) handled.sends → length handled.sends ≤ machine.nodes + 1 → Went machine time time old handled
  keeps counters handled node counts steps messages sent sends few = record {
    still = rw node (record { number = refl; steps = steps; messages = messages; sent = sent; last = refl; traced = refl; log = refl });
    sound = rw node (settled machine seen old is old.mode counters counts messages (omega (arith, steps, messages)) (same_mode machine old old.busy old.directory old.barrier counters old.mode is.mode));
    sends = sends;
    few = few;
    later = λ next e. due next (rw node at e);
  }

  pub strays : (handled : Handled) → handled.node ≡ one_stray old → All (SendFits machine time) handled.sends → length handled.sends ≤ machine.nodes + 1 → Went machine time time old handled
  strays handled node sends few = keeps (one_stray old).counters handled node (let room = is.counts in grind arith) refl refl refl sends few

  -- ---- a copy is called back
  dropped_mode : (block : ℕ) (counters : Counters) (mode : Mode) → ModeFits machine old mode → ModeFits machine (record old { cache = drop_of block old.cache; counters = counters }) mode
  dropped_mode block counters Running fits = tt
  dropped_mode block counters (Waiting wanted exclusive) fits = record { exists = fits.exists; fetched = fits.fetched; absent = still_absent machine old.cache block wanted is.numbers is.cache fits.absent; asks = fits.asks }
  dropped_mode block counters InBarrier fits = fits
  dropped_mode block counters (Stopped cause) fits = tt

  drops : (block : ℕ) (counters : Counters) (handled : Handled) → handled.node ≡ record old { cache = drop_of block old.cache; counters = counters } → CountsFit machine counters → counters.steps ≡ old.counters.steps → counters.messages ≡ old.counters.messages →
      counters.sent ≡ old.counters.sent → All (SendFits machine time) handled.sends → length handled.sends ≤ machine.nodes + 1 → Went machine time time old handled
  drops block counters handled node counts steps messages sent sends few = record {
    still = rw node (record { number = refl; steps = steps; messages = messages; sent = sent; last = refl; traced = refl; log = refl });
    sound = rw node (record {
      numbers = is.numbers;
      number = is.number;
      aligned = is.aligned;
      private = is.private;
      ready = is.ready;
      busy = let b = is.busy in omega (arith, steps, messages);
      counts = counts;
      cache = dropped_fits machine old.cache block is.numbers is.cache;
      directory = rw messages (seen_more machine old.number seen old.counters.messages old is.seen_before is.directory);
      barrier = is.barrier;
      mode = dropped_mode block counters old.mode is.mode;
      logged = is.logged;
    });
    sends = sends;
    few = few;
    later = λ next e. due next (rw node at e);
  }

  acknowledges : (block : ℕ) (bytes : Option (List ℕ)) → block < machine.blocks → LineBytesFit machine bytes → All (SendFits machine time) (to_home machine time block (InvAck bytes) ∷ [])
  acknowledges block None exists fits = sends_one machine time (home_of machine block) block (InvAck None) early (home_below machine block is.numbers) (record { block = exists; «data» = tt })
  acknowledges block (Some bytes) exists fits = sends_one machine time (home_of machine block) block (InvAck (Some bytes)) early (home_below machine block is.numbers) (record { block = exists; «data» = fits })

  pub inv_kept : (block : ℕ) → block < machine.blocks → Went machine time time old (inv_message_of machine time block old)
  unfolding inv_message_of
  inv_kept block exists = by (line_of old.cache block) (held_line_fits machine old.cache block is.numbers is.cache exists)
    where
      by : (line : Option Line) → LineFitsOpt machine line → Went machine time time old (inv_by machine time block old line)
      by None fits = drops block old.counters (inv_by machine time block old None) refl (let room = is.counts in grind arith) refl refl refl (acknowledges block None exists tt) (omega arith)
      by (Some line) fits =
          drops block (one_inv old).counters (inv_by machine time block old (Some line)) refl (let room = is.counts in grind arith) refl refl refl (acknowledges block (dirty_bytes line) exists (dirty_fits machine line fits.1)) (omega arith)

  -- ---- the barrier
  go_fits : (nodes : List ℕ) → AreRising machine.nodes 0 nodes → All (SendFits machine time) (go_to time nodes)
  go_fits nodes are =
      All-map (SendFits machine time) (λ node. message_to time node 0 Go) nodes
      (λ k d below. record { sendable = record { to = rising_below machine.nodes 0 nodes are k d below; early = omega arith }; from_now = omega arith; msg = record { block = refl; «data» = tt } })

  units : (barrier : Barrier) (release : Release) → BarrierFits machine barrier → ReleaseFits machine.nodes release → Went machine time time old (release_by time (with_barrier barrier old) release)
  units barrier release fits answer = by release answer
    where
      sound : (counters : Counters) → CountsFit machine counters → counters.steps ≡ old.counters.steps → counters.messages ≡ old.counters.messages → IsNode machine (record old { barrier = barrier; counters = counters })
      sound counters counts steps messages = record {
        numbers = is.numbers;
        number = is.number;
        aligned = is.aligned;
        private = is.private;
        ready = is.ready;
        busy = let b = is.busy in omega (arith, steps, messages);
        counts = counts;
        cache = is.cache;
        directory = rw messages (seen_more machine old.number seen old.counters.messages old is.seen_before is.directory);
        barrier = fits;
        mode = same_mode machine old old.busy old.directory barrier counters old.mode is.mode;
        logged = is.logged;
      }

      stays : Same old (with_barrier barrier old)
      stays = record { number = refl; steps = refl; messages = refl; sent = refl; last = refl; traced = refl; log = refl }

      by : (r : Release) → ReleaseFits machine.nodes r → Went machine time time old (release_by time (with_barrier barrier old) r)
      by releases.Hold fits_r = record { still = stays; sound = sound old.counters (let room = is.counts in grind arith) refl refl; sends = all_none (SendFits machine time); few = omega arith; later = due }
      by (releases.Go nodes) fits_r = record {
        still = stays;
        sound = sound old.counters (let room = is.counts in grind arith) refl refl;
        sends = go_fits nodes fits_r;
        few = let few = rising_few machine.nodes 0 nodes fits_r (omega arith) in omega (arith, length-map nodes (λ node. message_to time node 0 Go));
        later = due;
      }
      by releases.Stray fits_r = record {
        still = record { number = refl; steps = refl; messages = refl; sent = refl; last = refl; traced = refl; log = refl };
        sound = sound (one_stray old).counters (let room = is.counts in grind arith) refl refl;
        sends = all_none (SendFits machine time);
        few = omega arith;
        later = due;
      }

  stray_alone : Went machine time time old (quiet (one_stray old))
  stray_alone = strays (quiet (one_stray old)) refl (all_none (SendFits machine time)) (omega arith)

  either : (test : Bool) (one other : Handled) → Went machine time time old one → Went machine time time old other → Went machine time time old (cond test one other)
  either true one other is_one is_other = is_one
  either false one other is_one is_other = is_other

  pub arrive_kept : (from : ℕ) → from < machine.nodes → Went machine time time old (arrive_message_of machine time from old)
  unfolding arrive_message_of
  arrive_kept from there =
      let fits = arrive_fits machine old.barrier from is.barrier there in
      either (has_unit machine old) _ _ (units (barrier_arrive_of old.barrier from).0 (barrier_arrive_of old.barrier from).1 fits.0 fits.1) stray_alone

  pub leave_kept : (from : ℕ) → Went machine time time old (leave_message_of machine time from old)
  unfolding leave_message_of
  leave_kept from =
      let fits = leave_fits machine old.barrier from is.barrier in
      either (has_unit machine old) _ _ (units (barrier_leave_of old.barrier from).0 (barrier_leave_of old.barrier from).1 fits.0 fits.1) stray_alone

  pub go_kept : Went machine time time old (go_message_of machine time old)
  unfolding go_message_of
  go_kept = by old.mode refl
    where
      by : (mode : Mode) → old.mode ≡ mode → Went machine time time old (go_by machine time old mode)
      by Running at = stray_alone
      by (Waiting block exclusive) at = stray_alone
      by (Stopped cause) at = stray_alone
      by InBarrier at = record {
        still = record { number = refl; steps = refl; messages = refl; sent = refl; last = refl; traced = refl; log = refl };
        sound = went_on machine seen old is old.registers _ (time + machine.costs.call) old.private old.cache (one_barrier (moved_on 0 0 old)).counters old.output (after_aligned old.pc is.aligned)
            (let most = is.numbers.costs.call.at_most in omega arith) is.private is.cache (let room = is.counts in grind arith) refl (omega arith) Running refl;
        sends = all_none (SendFits machine time);
        few = omega arith;
        later = λ next e. let n : max (time + machine.costs.call) old.busy ≡ next = step_in_is Running (max (time + machine.costs.call) old.busy) next e in omega arith;
      }

  -- ---- the directory
  module _ (from : ℕ) (msg : Msg) (exists : msg.block < machine.blocks) (there : from < machine.nodes) (fits : MsgFits machine msg) (home : home_of machine msg.block ≡ old.number) (more : seen + 1 ≤ old.counters.messages) where
    directory_machine : old.directory.machine ≡ machine
    directory_machine = is.directory.machine_is

    inside : msg.block / old.directory.machine.nodes < length old.directory.blocks
    inside = rw (directory_machine, is.directory.count) (place_inside machine msg.block old.number is.numbers exists home)

    kept : BlockFits machine seen (block_of old.directory msg.block)
    kept = is.directory.blocks (msg.block / old.directory.machine.nodes) (fresh_block old.directory.machine) inside

    abbrev place : Place
    place = place_of old.directory msg.block from

    fitting : RowFits machine (block_of old.directory msg.block) (machine.nodes + 1) (row_of old.directory from msg)
    fitting =
        rows_fit_law machine _ msg.body (block_of old.directory msg.block)
        (record { some = is.numbers.nodes.at_least; nodes = ap (λ (m : MachineParts). m.nodes) directory_machine; from = there; block = exists }) fits.«data» kept.home_fits

    -- the directory after the row
    after : Homes
    after = with_block msg.block (row_of old.directory from msg).home old.directory

    after_fits : DirectoryFits machine old.number old.counters.messages (with_block msg.block (row_of old.directory from msg).home old.directory)
    after_fits = record {
      machine_is = directory_machine;
      node = is.directory.node;
      count = length-set old.directory.blocks (msg.block / old.directory.machine.nodes) (row_of old.directory from msg).home ∙ is.directory.count;
      blocks =
          All-set (BlockFits machine old.counters.messages) old.directory.blocks (msg.block / old.directory.machine.nodes) (row_of old.directory from msg).home
          (record { copies = let c = fitting.copies in let k = kept.copies in omega arith; home_fits = fitting.home })
          (λ k d below. let one = is.directory.blocks k d below in record { copies = let c = one.copies in omega arith; home_fits = one.home_fits });
    }

    sound_after : (busy : ℕ) (counters : Counters) → busy ≤ 2 ^ 40 + 2 ^ 21 * (counters.steps + counters.messages) → CountsFit machine counters → counters.messages ≡ old.counters.messages →
        IsNode machine (record old { busy = busy; directory = with_block msg.block (row_of old.directory from msg).home old.directory; counters = counters })
    sound_after busy counters most counts messages = record {
      numbers = is.numbers;
      number = is.number;
      aligned = is.aligned;
      private = is.private;
      ready = is.ready;
      busy = most;
      counts = counts;
      cache = is.cache;
      directory = rw messages after_fits;
      barrier = is.barrier;
      mode = same_mode machine old busy (with_block msg.block (row_of old.directory from msg).home old.directory) old.barrier counters old.mode is.mode;
      logged = is.logged;
    }

    row_sends : All (SendFits machine time) (map (sent_at time) (row_of old.directory from msg).sends)
    row_sends = all_sent machine time time (row_of old.directory from msg).sends (omega arith) (omega arith) fitting.sends

    row_few : length (map (sent_at time) (row_of old.directory from msg).sends) ≤ machine.nodes + 1
    row_few = let few = fitting.few in omega (arith, length-map (row_of old.directory from msg).sends (sent_at time))

    -- a trap
    trap_fit : (plan : TrapPlan) → ActFits machine (Trap plan) → plan.block < machine.blocks → All (OutgoingFits machine) (map (invalidation plan.block) (targets_of machine.nodes plan.targets))
    trap_fit plan act here =
        All-map (OutgoingFits machine) (invalidation plan.block) (targets_of machine.nodes plan.targets)
        (λ k d below. record { to = targets_below machine.nodes plan.targets (target_fits machine plan act) k d below; msg = record { block = here; «data» = tt } })

    traps : (plan : TrapPlan) → ActFits machine (Trap plan) → plan.block < machine.blocks → (row_of old.directory from msg).sends ≡ [] →
        Went machine time time old (trap_of machine time plan (map (sent_at time) (row_of old.directory from msg).sends) (record old { directory = with_block msg.block (row_of old.directory from msg).home old.directory }))
    traps plan act here silent =
        let cycles = few_cycles machine plan is.numbers in
        let busy = is.busy in
        let events = is.counts.events in
        let limit = is.numbers.event_limit.at_most in
        record {
          still = record { number = refl; steps = refl; messages = refl; sent = refl; last = refl; traced = refl; log = refl };
          sound = sound_after (busy_after machine plan time old.busy) (trapped machine time plan old).counters (omega arith) (let room = is.counts in grind arith) refl;
          sends = rw silent (all_sent machine time (busy_after machine plan time old.busy) _ (omega arith) (omega arith) (trap_fit plan act here));
          few = rw silent (few_sent plan act);
          later = λ next e. later_still next e;
        }
      where
        few_sent : (p : TrapPlan) → ActFits machine (Trap p) → length (trap_sends machine (busy_after machine p time old.busy) p) ≤ machine.nodes + 1
        few_sent p fit =
            let few = few_targets machine.nodes p.targets in
            let one = length-map (targets_of machine.nodes p.targets) (invalidation p.block) in
            let two = length-map (map (invalidation p.block) (targets_of machine.nodes p.targets)) (sent_at (busy_after machine p time old.busy)) in
            omega arith

        later_still : (next : ℕ) → step_in old.mode (max old.ready (busy_after machine plan time old.busy)) ≡ Some next → time ≤ next
        later_still next e = let n : max old.ready (busy_after machine plan time old.busy) ≡ next = step_in_is old.mode _ next e in omega arith

    acts : (act : DirAct) → (row_of old.directory from msg).act ≡ act →
        Went machine time time old (act_by machine time (map (sent_at time) (row_of old.directory from msg).sends) (record old { directory = with_block msg.block (row_of old.directory from msg).home old.directory }) act)
    acts Done is_act = record {
      still = record { number = refl; steps = refl; messages = refl; sent = refl; last = refl; traced = refl; log = refl };
      sound = sound_after old.busy old.counters (let b = is.busy in omega arith) (let room = is.counts in grind arith) refl;
      sends = row_sends;
      few = row_few;
      later = due;
    }
    acts Stray is_act = record {
      still = record { number = refl; steps = refl; messages = refl; sent = refl; last = refl; traced = refl; log = refl };
      sound = sound_after old.busy (one_stray old).counters (let b = is.busy in omega arith) (let room = is.counts in grind arith) refl;
      sends = row_sends;
      few = row_few;
      later = due;
    }
    acts (Trap plan) is_act =
        traps plan (rw is_act at fitting.act) (trap_block plan is_act) (silent_trap place msg.body (block_of old.directory msg.block) plan is_act).sends
      where
        trap_block : (p : TrapPlan) → (row_of old.directory from msg).act ≡ Trap p → p.block < machine.blocks
        trap_block p e = rw (silent_trap place msg.body (block_of old.directory msg.block) p e).block exists

    handled : Went machine time time old (row_handled machine time msg.block (row_of old.directory from msg) old)
    handled = acts (row_of old.directory from msg).act refl

  pub directory_kept : (from : ℕ) (msg : Msg) → msg.block < machine.blocks → from < machine.nodes → MsgFits machine msg → seen + 1 ≤ old.counters.messages → Went machine time time old (directory_message_of machine time from msg old)
  unfolding directory_message_of
  directory_kept from msg exists there fits more = elim (cases_Bool (home_of machine msg.block == old.number)) [
    | inl here ↦ rw here (handled from msg exists there fits (eqb-true (home_of machine msg.block) old.number here) more)
    | inr away ↦ rw away stray_alone
  ]
