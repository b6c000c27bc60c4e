-- What an event as a whole keeps of its node, and that the wind tunnel is a simulation.
use Rattle.std.proofs.Common.{◌≡◌, ◌≢◌, ℕ, zero, suc, ◌+◌, ◌*◌, ◌^◌, ◌<◌, ◌≤◌, Bool, true, false, List, [], ◌∷◌, length, Option, Some, None, refl, ap, sym, ◌∙◌, subst, arith}
use Rattle.std.specs.Prelude.{All, map}
use Rattle.std.specs.List.{AllByRecursion}
use Rattle.std.proofs.lemmas.List.Elements.{All-push}
use Rattle.std.specs.declared.cmp.Ordering.TheVariants.{Less}
use Rattle.wt_params.specs.declared.parts.MachineParts.{MachineParts}
use Rattle.wt_params.specs.Machine.{IsMachine}
use Rattle.wt_proto.specs.declared.key.Key.{Key}
use Rattle.wt_proto.specs.declared.message.Body.{Body}
use Rattle.wt_proto.specs.declared.message.Body.TheVariants.{GetS, GetX, PutS, PutX, DataS, DataX, Inv, InvAck, Wake, Arrive, Leave, Go}
use Rattle.wt_proto.specs.declared.message.Msg.{Msg}
use Rattle.wt_proto.specs.declared.message.Stamped.{Stamped}
use Rattle.wt_proto.specs.declared.mode.Mode.{Mode}
use Rattle.wt_proto.specs.declared.mode.Mode.TheVariants.{Running, Waiting, InBarrier, Stopped}
use Rattle.wt_proto.specs.KeyOrder.{key_cmp}
use Rattle.wt_proto.specs.Messages.{MsgFits, StampedFits}
use Rattle.wt_params.specs.Mesh.{lookahead_of}
use Rattle.wt_params.proofs.MeshLaws.{latency_positive, none_before}
use Rattle.wt_network.specs.Stamps.{stamp_of}
use Rattle.wt_trace.specs.declared.record.Record.{Record}
use Rattle.wt_trace.specs.declared.record.What.{What}
use Rattle.wt_trace.specs.EventLine.{WhatFits, RecordFits}
use Rattle.discrete_events.specs.Simulation.{Event, Step, Arrival, Message, step_key}
use Rattle.discrete_events.specs.KeyTimes.{earlier_less, before_step}
use Rattle.discrete_events.specs.Laws.{IsDue, IsSent, AreInSequence, Reacts, IsSimulation}
use Rattle.node.specs.declared.state.NodeState.{NodeState}
use Rattle.node.specs.declared.state.Course.{Course}
use Rattle.node.specs.declared.state.Send.{Send}
use Rattle.node.specs.State.{events_of, step_in, step_time, next_step_of, next_key}
use Rattle.wt_trace.specs.declared.record.Deed.{Deed}
use Rattle.node.specs.Handled.{Handled, IsHandled, IsStepped}
use Rattle.node.specs.Processor.{fetch_of, step_by, step_of}
use Rattle.node.specs.DirectoryMessage.{directory_message_of}
use Rattle.node.specs.DataMessage.{data_message_of}
use Rattle.wt_trace.specs.declared.record.What.TheVariants as whats
use Rattle.node.specs.React.{stamped_from, counted_step, counted_message, message_by, message_of, logged, ended, sends_of, react_with, next_handled, next_what, react_to_step, message_handled, react_to_message, react, record_with, record_of, message_under_key, wind_tunnel}
use Rattle.node.specs.Sound.{IsNode, ModeFits, SendFits, AreSendable, MayStamp}
use Rattle.node.specs.Laws.{Fits, IsDueAt, AreNumbered, IsCounted, MachinesAreSimulations}
use Rattle.node.proofs.Kept.{HasBegun, Went, step_in_is}
use Rattle.node.proofs.StepKept.{step_kept}
use Rattle.node.proofs.MessageKept.{strays, inv_kept, arrive_kept, leave_kept, go_kept, directory_kept}
use Rattle.node.proofs.DataKept.{data_kept}

module _ (machine : MachineParts) (old : NodeState) (is : IsNode machine old) (unspent : events_of old < machine.event_limit) where
  -- a step that is counted has begun
  pub step_begun : (key : Key) → HasBegun machine old.counters.messages (counted_step key old)
  step_begun key = record {
    numbers = is.numbers;
    number = is.number;
    aligned = is.aligned;
    private = is.private;
    ready = is.ready;
    busy = let b = is.busy in omega arith;
    counts = let counts = is.counts in grind arith;
    cache = is.cache;
    seen_before = omega arith;
    directory = is.directory;
    barrier = is.barrier;
    mode = begun_mode old.mode is.mode;
    logged = is.logged;
  }
    where
      begun_mode : (mode : Mode) → ModeFits machine old mode → ModeFits machine (counted_step key old) mode
      begun_mode Running fits = tt
      begun_mode (Waiting wanted exclusive) fits = record { exists = fits.exists; fetched = fits.fetched; absent = fits.absent; asks = fits.asks }
      begun_mode InBarrier fits = fits
      begun_mode (Stopped cause) fits = tt

  -- so has a message
  pub message_begun : (key : Key) → HasBegun machine old.counters.messages (counted_message key old)
  message_begun key = record {
    numbers = is.numbers;
    number = is.number;
    aligned = is.aligned;
    private = is.private;
    ready = is.ready;
    busy = let b = is.busy in omega arith;
    counts = let counts = is.counts in grind arith;
    cache = is.cache;
    seen_before = omega arith;
    directory = is.directory;
    barrier = is.barrier;
    mode = begun_mode old.mode is.mode;
    logged = is.logged;
  }
    where
      begun_mode : (mode : Mode) → ModeFits machine old mode → ModeFits machine (counted_message key old) mode
      begun_mode Running fits = tt
      begun_mode (Waiting wanted exclusive) fits = record { exists = fits.exists; fetched = fits.fetched; absent = fits.absent; asks = fits.asks }
      begun_mode InBarrier fits = fits
      begun_mode (Stopped cause) fits = tt

  -- the step's event
  pub step_went : old.mode ≡ Running → step_time old < 2 ^ 40 → (key : Key) → Went machine (step_time old) (suc (step_time old)) (counted_step key old) (step_of machine (step_time old) (counted_step key old))
  step_went running early key = step_kept machine (step_time old) (counted_step key old) (step_begun key) early running

  -- a message's event
  pub message_went : (time from : ℕ) (msg : Msg) (key : Key) → time < 2 ^ 40 → from < machine.nodes → MsgFits machine msg → ((next : ℕ) → next_step_of old ≡ Some next → time ≤ next) →
      Went machine time time (counted_message key old) (message_of machine time from msg (counted_message key old))
  unfolding message_of
  message_went time from msg key early there fits due = by msg.body fits
    where
      begun : HasBegun machine old.counters.messages (counted_message key old)
      begun = message_begun key

      data_came : (writable : Bool) (bytes : List ℕ) → msg.block < machine.blocks → length bytes ≡ machine.block_bytes →
          Went machine time time (counted_message key old) (data_message_of machine time (record { block = msg.block; writable = writable; bytes = bytes }) (counted_message key old))
      data_came writable bytes exists size =
          data_kept machine time old.counters.messages (counted_message key old) begun early due (record { block = msg.block; writable = writable; bytes = bytes }) exists size (strays machine time old.counters.messages (counted_message key old) begun early due)

      to_directory : (body : Body) → msg.block < machine.blocks → MsgFits machine (record { block = msg.block; body = body }) →
          Went machine time time (counted_message key old) (directory_message_of machine time from (record { block = msg.block; body = body }) (counted_message key old))
      to_directory body exists fit = directory_kept machine time old.counters.messages (counted_message key old) begun early due from (record { block = msg.block; body = body }) exists there fit (omega arith)

      by : (body : Body) → MsgFits machine (record { block = msg.block; body = body }) → Went machine time time (counted_message key old) (message_by machine time from msg.block body (counted_message key old))
      by (DataS bytes) fit = data_came false bytes fit.block fit.«data»
      by (DataX bytes) fit = data_came true bytes fit.block fit.«data»
      by Inv fit = inv_kept machine time old.counters.messages (counted_message key old) begun early due msg.block fit.block
      by Arrive fit = arrive_kept machine time old.counters.messages (counted_message key old) begun early due from there
      by Leave fit = leave_kept machine time old.counters.messages (counted_message key old) begun early due from
      by Go fit = go_kept machine time old.counters.messages (counted_message key old) begun early due
      by GetS fit = to_directory GetS fit.block fit
      by (GetX had) fit = to_directory (GetX had) fit.block fit
      by PutS fit = to_directory PutS fit.block fit
      by (PutX bytes) fit = to_directory (PutX bytes) fit.block fit
      by (InvAck bytes) fit = to_directory (InvAck bytes) fit.block fit
      by Wake fit = to_directory Wake fit.block fit

-- ---- the end of an event

pub sendable : (machine : MachineParts) (time : ℕ) (sends : List Send) → All (SendFits machine time) sends → AreSendable machine sends
sendable machine time sends fits k d below = (fits k d below).sendable

-- the counts after the end
ended_mode : (machine : MachineParts) (key : Key) (what : What) (sends : List Stamped) (handled : Handled) (mode : Mode) → ModeFits machine handled.node mode → ModeFits machine (ended key what sends handled) mode
ended_mode machine key what sends handled Running fits = tt
ended_mode machine key what sends handled (Waiting wanted exclusive) fits = record { exists = fits.exists; fetched = fits.fetched; absent = fits.absent; asks = fits.asks }
ended_mode machine key what sends handled InBarrier fits = fits
ended_mode machine key what sends handled (Stopped cause) fits = tt

sent_fits : (n sent now events later count : ℕ) → now ≡ sent → later ≡ events → count ≤ n → sent + n ≤ n * events → now + count ≤ n * later
sent_fits n sent now events later count now_is later_is few room = rw later_is (omega (arith, now_is))

-- the messages that an event sends, with their stamps
stamps_fit : (machine : MachineParts) (time from sequence : ℕ) (sends : List Send) → from < machine.nodes → All (SendFits machine time) sends →
    All (StampedFits machine) (stamped_from machine from sequence sends)
stamps_fit machine time from sequence [] there fits k d below = absurd (omega arith)
stamps_fit machine time from sequence (send ∷ rest) there fits zero d below =
    let one : SendFits machine time send = fits 0 send (omega arith) in
    record { to = one.sendable.to; from = there; msg = one.msg }
stamps_fit machine time from sequence (send ∷ rest) there fits (suc k) d below =
    stamps_fit machine time from (sequence + 1) rest there (λ j e within. fits (suc j) e (omega arith)) k d (omega arith)

-- the log with one record more, where the node is traced
logged_fits : (machine : MachineParts) (traced : Bool) (item : Record) (log : List Record) → RecordFits machine item → All (RecordFits machine) log →
    All (RecordFits machine) (logged traced item log)
logged_fits machine true item log one all = All-push (RecordFits machine) log item all one
logged_fits machine false item log one all = all

pub ended_is_node : (machine : MachineParts) (time least : ℕ) (begun : NodeState) (key : Key) (what : What) (handled : Handled) → Went machine time least begun handled →
    begun.counters.sent + (machine.nodes + 1) ≤ (machine.nodes + 1) * (begun.counters.steps + begun.counters.messages) → WhatFits machine what → IsNode machine (ended key what (sends_of machine handled) handled)
ended_is_node machine time least begun key what handled went room its_own = record {
  numbers = went.sound.numbers;
  number = went.sound.number;
  aligned = went.sound.aligned;
  private = went.sound.private;
  ready = went.sound.ready;
  busy = went.sound.busy;
  counts =
      let counts = went.sound.counts in
      let still = went.still in
      let few = went.few in
      record {
        events = counts.events;
        done = counts.done;
        hits = counts.hits;
        misses = counts.misses;
        upgrades = counts.upgrades;
        replaced = counts.replaced;
        checkins = counts.checkins;
        invs = counts.invs;
        traps = counts.traps;
        trap_cycles = counts.trap_cycles;
        barriers = counts.barriers;
        stray = counts.stray;
        sent = sent_fits (machine.nodes + 1) begun.counters.sent handled.node.counters.sent (begun.counters.steps + begun.counters.messages) (handled.node.counters.steps + handled.node.counters.messages) (length handled.sends)
            still.sent (rw (still.steps, still.messages) refl) few room;
      };
  cache = went.sound.cache;
  directory = went.sound.directory;
  barrier = went.sound.barrier;
  mode = ended_mode machine key what (sends_of machine handled) handled handled.node.mode went.sound.mode;
  logged =
      logged_fits machine handled.node.traced (record_with machine key what handled) handled.node.log
      (record { what = its_own; sends = stamps_fit machine time handled.node.number handled.node.counters.sent handled.sends went.sound.number went.sends }) went.sound.logged;
}

-- every message is sent at its event or later, and comes later; to another node by the lookahead
stamp_later : (machine : MachineParts) (from to at time : ℕ) → IsMachine machine → time ≤ at → (time < stamp_of machine from to at) × ((to ≢ from) → time + lookahead_of machine ≤ stamp_of machine from to at)
stamp_later machine from to at time is no_earlier =
    let least = latency_positive machine from to is in (
      omega arith,
      λ apart. let late = none_before machine from to (λ same. apart (sym same)) in omega arith,
    )

pub all_sent : (machine : MachineParts) (node : NodeState) (key : Key) (from sequence : ℕ) (sends : List Send) → IsMachine machine → from ≡ node.number → from < machine.nodes → All (SendFits machine key.time) sends →
    AllByRecursion (IsSent (wind_tunnel machine) (Fits machine) node key) (map message_under_key (stamped_from machine from sequence sends))
all_sent machine node key from sequence [] is source there fits = tt
all_sent machine node key from sequence (send ∷ rest) is source there fits =
    let one : SendFits machine key.time send = fits 0 send (omega arith) in
    let later = stamp_later machine from send.to send.at key.time is one.from_now in (
      record {
        fits = record { to = one.sendable.to; from = there; msg = one.msg };
        source = source;
        later = later.0;
        late = λ apart. later.1 (λ e. apart (e ∙ source));
      },
      all_sent machine node key from (sequence + 1) rest is source there (λ k d below. fits (suc k) d (omega arith)),
    )

-- the sends have the numbers from that of the sends so far on
in_sequence : (machine : MachineParts) (from sequence : ℕ) (sends : List Send) → AreInSequence sequence (map message_under_key (stamped_from machine from sequence sends))
in_sequence machine from sequence [] = tt
in_sequence machine from sequence (send ∷ sends) = (refl, in_sequence machine from (sequence + 1) sends)

sends_length : (machine : MachineParts) (from sequence : ℕ) (sends : List Send) → length (map message_under_key (stamped_from machine from sequence sends)) ≡ length sends
sends_length machine from sequence [] = refl
sends_length machine from sequence (send ∷ sends) = ap suc (sends_length machine from (sequence + 1) sends)

-- ---- the laws

module _ (machine : MachineParts) (numbers : IsMachine machine) (old : NodeState) (is : IsNode machine old) (unspent : events_of old < machine.event_limit) where
  sent_room : (old.counters.sent + (machine.nodes + 1)) ≤ (machine.nodes + 1) * (old.counters.steps + 1 + old.counters.messages)
  sent_room = let sent = is.counts.sent in grind arith

  message_room : (old.counters.sent + (machine.nodes + 1)) ≤ (machine.nodes + 1) * (old.counters.steps + (old.counters.messages + 1))
  message_room = let sent = is.counts.sent in grind arith

  -- what an event leaves and sends keeps the laws
  reacts_with : (time least : ℕ) (begun : NodeState) (key : Key) (what : What) (handled : Handled) → Went machine time least begun handled → key.time ≡ time → begun.number ≡ old.number → begun.last ≡ Some key → begun.counters.sent ≡ old.counters.sent → events_of begun ≡ suc (events_of old) → WhatFits machine what →
      begun.counters.sent + (machine.nodes + 1) ≤ (machine.nodes + 1) * (begun.counters.steps + begun.counters.messages) → ((next : ℕ) → least ≤ next → key_cmp key (step_key (wind_tunnel machine) old next) ≡ Less) →
      Reacts (wind_tunnel machine) (IsNode machine) (Fits machine) old key (react_with machine key what handled).0 (map message_under_key (react_with machine key what handled).1)
  reacts_with time least begun key what handled went at number last sent events its_own room below = record {
    sound = ended_is_node machine time least begun key what handled went room its_own;
    number = went.still.number ∙ number;
    handled = let steps = went.still.steps in let messages = went.still.messages in omega (arith, events);
    last = went.still.last ∙ last;
    next = λ next e. subst (λ (n : ℕ). key_cmp key (record { time = next; to = n; from = machine.nodes; sequence = 0 }) ≡ Less) (sym (went.still.number ∙ number)) (below next (went.later next e));
    sent = all_sent machine old key handled.node.number handled.node.counters.sent handled.sends numbers (went.still.number ∙ number) went.sound.number (rw at went.sends);
    counted = let same : handled.node.counters.sent ≡ old.counters.sent = went.still.sent ∙ sent in let size = sends_length machine handled.node.number handled.node.counters.sent handled.sends in omega (arith, same, size);
    numbered = subst (λ (n : ℕ). AreInSequence n (map message_under_key (sends_of machine handled))) (went.still.sent ∙ sent) (in_sequence machine handled.node.number handled.node.counters.sent handled.sends);
  }

runs : (mode : Mode) (time next : ℕ) → step_in mode time ≡ Some next → mode ≡ Running
runs Running time next e = refl
runs (Waiting block exclusive) time next e = absurd (let f : None ≡ Some next = e in cc)
runs InBarrier time next e = absurd (let f : None ≡ Some next = e in cc)
runs (Stopped cause) time next e = absurd (let f : None ≡ Some next = e in cc)

module _ (machine : MachineParts) (numbers : IsMachine machine) where
  steps : (node : NodeState) (key : Key) → IsNode machine node → IsDue (wind_tunnel machine) (Fits machine) node key Step →
      Reacts (wind_tunnel machine) (IsNode machine) (Fits machine) node key (react machine node Step).0 (map message_under_key (react machine node Step).1)
  unfolding react_to_step
  steps node key is due =
      subst (λ (k : Key). Reacts (wind_tunnel machine) (IsNode machine) (Fits machine) node k (react_to_step machine node).0 (map message_under_key (react_to_step machine node).1)) (sym its_key)
      (reacts_with machine numbers node is due.unspent (step_time node) (suc (step_time node)) (counted_step (next_key machine node) node) (next_key machine node) _ _
      (step_went machine node is due.unspent running (let e = due.early in let most = numbers.budget.at_most in omega (arith, at)) (next_key machine node)) refl refl refl refl (omega arith) tt (sent_room machine numbers node is due.unspent)
      (λ next later. earlier_less (next_key machine node) (step_key (wind_tunnel machine) node next) (omega arith)))
    where
      at : step_time node ≡ key.time
      at = step_in_is node.mode (step_time node) key.time due.its_own.0

      running : node.mode ≡ Running
      running = runs node.mode (step_time node) key.time due.its_own.0

      its_key : key ≡ next_key machine node
      its_key = due.its_own.1 ∙ ap (step_key (wind_tunnel machine) node) (sym at)

  arrives : (node : NodeState) (key : Key) (message : Message Msg) → IsNode machine node → IsDue (wind_tunnel machine) (Fits machine) node key (Arrival message) →
      Reacts (wind_tunnel machine) (IsNode machine) (Fits machine) node key (react machine node (Arrival message)).0 (map message_under_key (react machine node (Arrival message)).1)
  unfolding react_to_message
  arrives node key message is due =
      subst (λ (k : Key). Reacts (wind_tunnel machine) (IsNode machine) (Fits machine) node k (react_to_message machine node message.0 message.1).0 (map message_under_key (react_to_message machine node message.0 message.1).1)) (sym due.its_own.0)
      (reacts_with machine numbers node is due.unspent message.0.time message.0.time (counted_message message.0 node) message.0 _ _
      (message_went machine node is due.unspent message.0.time message.0.from message.1 message.0 (let e = due.early in let most = numbers.budget.at_most in omega (arith, ap (λ (k : Key). k.time) due.its_own.0)) due.its_own.2.from due.its_own.2.msg
      (λ next e. subst (λ (k : Key). k.time ≤ next) due.its_own.0 (due.its_own.3 next e))) refl refl refl refl (omega arith) due.its_own.2.msg (message_room machine numbers node is due.unspent)
      (λ next later. before_step (wind_tunnel machine) node message.0 next later (ap (λ (k : Key). k.to) (sym due.its_own.0) ∙ due.its_own.1) due.its_own.2.from))

  laws : IsSimulation (wind_tunnel machine) (IsNode machine) (Fits machine)
  laws = record {
    within = λ node is. is.counts.events;
    addressed = λ message fits. fits.to;
    sourced = λ message fits. fits.from;
    reacts = reacts;
  }
    where
      reacts : (node : NodeState) (key : Key) (event : Event Msg) → IsNode machine node → IsDue (wind_tunnel machine) (Fits machine) node key event →
          Reacts (wind_tunnel machine) (IsNode machine) (Fits machine) node key (react machine node event).0 (map message_under_key (react machine node event).1)
      reacts node key Step is due = steps node key is due
      reacts node key (Arrival message) is due = arrives node key message is due

numbered : (machine : MachineParts) (from sequence : ℕ) (sends : List Send) → AreNumbered sequence (stamped_from machine from sequence sends)
numbered machine from sequence [] = tt
numbered machine from sequence (send ∷ sends) = (refl, numbered machine from (sequence + 1) sends)

stamped_length : (machine : MachineParts) (from sequence : ℕ) (sends : List Send) → length (stamped_from machine from sequence sends) ≡ length sends
stamped_length machine from sequence [] = refl
stamped_length machine from sequence (send ∷ sends) = ap suc (stamped_length machine from (sequence + 1) sends)

module _ (machine : MachineParts) (numbers : IsMachine machine) (node : NodeState) (key : Key) (is : IsNode machine node) where
  counts_step : IsDue (wind_tunnel machine) (Fits machine) node key Step → IsCounted machine node key Step
  unfolding react_to_step record_of
  counts_step due = record {
    messages = went.still.messages ∙ sym (plus_none node.counters.messages);
    sent = (λ i. went.still.sent i + sym (stamped_length machine (next_handled machine node).node.number (next_handled machine node).node.counters.sent (next_handled machine node).sends) i);
    numbered = subst (λ (n : ℕ). AreNumbered n (sends_of machine (next_handled machine node))) went.still.sent (numbered machine (next_handled machine node).node.number (next_handled machine node).node.counters.sent (next_handled machine node).sends);
    traced = went.still.traced;
    log = (λ i. logged (went.still.traced i) (record_with machine (next_key machine node) (next_what machine node) (next_handled machine node)) (went.still.log i));
    recorded_key = sym its_key;
    recorded_sends = refl;
  }
    where
      at : step_time node ≡ key.time
      at = step_in_is node.mode (step_time node) key.time due.its_own.0

      its_key : key ≡ next_key machine node
      its_key = due.its_own.1 ∙ ap (step_key (wind_tunnel machine) node) (sym at)

      went : Went machine (step_time node) (suc (step_time node)) (counted_step (next_key machine node) node) (next_handled machine node)
      went = step_went machine node is due.unspent (runs node.mode (step_time node) key.time due.its_own.0) (let e = due.early in let most = numbers.budget.at_most in omega (arith, at)) (next_key machine node)

      plus_none : (n : ℕ) → n + 0 ≡ n
      plus_none n = omega arith

  counts_message : (message : Message Msg) → IsDue (wind_tunnel machine) (Fits machine) node key (Arrival message) → IsCounted machine node key (Arrival message)
  unfolding react_to_message record_of
  counts_message message due = record {
    messages = went.still.messages;
    sent = (λ i. went.still.sent i + sym (stamped_length machine handled.node.number handled.node.counters.sent handled.sends) i);
    numbered = subst (λ (n : ℕ). AreNumbered n (sends_of machine handled)) went.still.sent (numbered machine handled.node.number handled.node.counters.sent handled.sends);
    traced = went.still.traced;
    log = (λ i. logged (went.still.traced i) (record_with machine message.0 (whats.Message message.1) handled) (went.still.log i));
    recorded_key = sym due.its_own.0;
    recorded_sends = refl;
  }
    where
      handled : Handled
      handled = message_handled machine node message.0 message.1

      went : Went machine message.0.time message.0.time (counted_message message.0 node) handled
      went = message_went machine node is due.unspent message.0.time message.0.from message.1 message.0 (let e = due.early in let most = numbers.budget.at_most in omega (arith, ap (λ (k : Key). k.time) due.its_own.0)) due.its_own.2.from due.its_own.2.msg
          (λ next e. subst (λ (k : Key). k.time ≤ next) due.its_own.0 (due.its_own.3 next e))

pub machines_are_simulations : MachinesAreSimulations
machines_are_simulations machine is = record {
  laws = laws machine is;
  quanta = record { positive = is.quantum.at_least; no_longer = is.quantum.at_most };
  counts = counts;
}
  where
    counts : (node : NodeState) (key : Key) (event : Event Msg) → IsNode machine node → IsDueAt machine node key event → IsCounted machine node key event
    counts node key Step sound due = counts_step machine is node key sound due
    counts node key (Arrival message) sound due = counts_message machine is node key sound message due

-- the messages of an event may be stamped
times_few : (nodes events limit : ℕ) → nodes ≤ 256 → events ≤ limit → limit ≤ 2 ^ 40 → (nodes + 1) * events ≤ 257 * 2 ^ 40
times_few nodes events limit few below most = grind arith

pub may_stamp : (machine : MachineParts) (time least : ℕ) (begun : NodeState) (handled : Handled) → Went machine time least begun handled → MayStamp machine handled.node handled.sends
may_stamp machine time least begun handled went = record {
  number = went.sound.number;
  fit = sendable machine time handled.sends went.sends;
  room =
      let nodes = went.sound.numbers.nodes.at_most in
      let sent = went.sound.counts.sent in
      let few = went.few in
      let all = times_few machine.nodes (handled.node.counters.steps + handled.node.counters.messages) machine.event_limit nodes went.sound.counts.events went.sound.numbers.event_limit.at_most in
      omega arith;
}

-- ---- what the code needs of an event that it has done

step_done : (machine : MachineParts) (old : NodeState) (key : Key) (time : ℕ) (word : Option ℕ) (begun now : NodeState) (before after : List Send) (deed : Deed) → time ≡ step_time old → word ≡ fetch_of machine old → begun ≡ counted_step key old → before ≡ [] →
    IsStepped (step_by machine time begun word) now before after deed → IsStepped (step_of machine (step_time old) (counted_step key old)) now [] after deed
step_done machine old key time word begun now before after deed time_is word_is begun_is before_is done = rw (time_is, word_is, begun_is, before_is) at done

pub step_stamps : (machine : MachineParts) (old : NodeState) (key : Key) (time : ℕ) (word : Option ℕ) (begun now : NodeState) (before after : List Send) (deed : Deed) → IsNode machine old → events_of old < machine.event_limit → old.mode ≡ Running → step_time old < 2 ^ 40 →
    time ≡ step_time old → word ≡ fetch_of machine old → begun ≡ counted_step key old → before ≡ [] → IsStepped (step_by machine time begun word) now before after deed → MayStamp machine now after
step_stamps machine old key time word begun now before after deed is unspent running early time_is word_is begun_is before_is done =
    let s = step_done machine old key time word begun now before after deed time_is word_is begun_is before_is done in
    rw (s.node, s.sends) (may_stamp machine (step_time old) (suc (step_time old)) (counted_step key old) (step_of machine (step_time old) (counted_step key old)) (step_went machine old is unspent running early key))

pub message_stamps : (machine : MachineParts) (old : NodeState) (key : Key) (message : Stamped) (begun now : NodeState) (before after : List Send) (course : Course) → IsNode machine old → events_of old < machine.event_limit → message.time < 2 ^ 40 → StampedFits machine message →
    ((next : ℕ) → next_step_of old ≡ Some next → message.time ≤ next) → begun ≡ counted_message key old → before ≡ [] → IsHandled (message_of machine message.time message.from message.msg begun) now before after course → MayStamp machine now after
message_stamps machine old key message begun now before after course is unspent early fits due begun_is before_is done =
    let s : IsHandled (message_of machine message.time message.from message.msg (counted_message key old)) now [] after course = rw (begun_is, before_is) at done in
    rw (s.node, s.sends)
    (may_stamp machine message.time message.time (counted_message key old) (message_of machine message.time message.from message.msg (counted_message key old))
    (message_went machine old is unspent message.time message.from message.msg key early fits.from fits.msg due))

-- ---- a sound node stays sound

pub step_sound : (machine : MachineParts) (node : NodeState) (key : Key) → IsNode machine node → IsDue (wind_tunnel machine) (Fits machine) node key Step → IsNode machine (react_to_step machine node).0
step_sound machine node key is due = (steps machine is.numbers node key is due).sound

pub message_sound : (machine : MachineParts) (node : NodeState) (key : Key) (message : Message Msg) → IsNode machine node → IsDue (wind_tunnel machine) (Fits machine) node key (Arrival message) → IsNode machine (react_to_message machine node message.0 message.1).0
message_sound machine node key message is due = (arrives machine is.numbers node key message is due).sound
