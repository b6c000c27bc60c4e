use Rattle.std.proofs.Common.{◌≡◌, List, [], ◌++◌, length, drop, refl, sym, ap, ◌∙◌, ◌||◌, true, false, arith}
use Rattle.std.proofs.lemmas.List.{drop_all, take_all, take-append-drop}
use Rattle.wt_proto.specs.declared.message.Stamped.{Stamped}
use Rattle.quantum.specs.Sites.{is_message_of}
use Rattle.quantum.proofs.Free.{run_begins, ATurn, turn_hands_out, turn_is_more, turn_within, turn_again, turn_no_more, it_ran, it_handed_out, it_was_free}
use Rattle.quantum.proofs.Tails.{from_within, handed_alone, handled_alone, still_kept, still_within}
use Rattle.quantum.proofs.site.Site.run_to.Goals.{then-own-via-then-own, then-own-via-else-own+then-is_message}
use Rattle.quantum.proofs.site.Site.run_to.Goals as goal

pub loop-turn-init : goal.loop-turn-init
loop-turn-init g c =
    let none : drop (length c.args.outs.now) c.args.outs.now ≡ [] = drop_all (length c.args.outs.now) c.args.outs.now (omega arith) in
    record {
      within = omega arith;
      kept = take_all (length c.args.outs.now) c.args.outs.now (omega arith);
      running = run_begins c.args.until c.args.self.now c.first_time-first.result [] (drop (length c.args.outs.now) c.args.outs.now) c.args.steps.now c.first_time-first.new.steps c.requires.site c.first_time-first.ensures.rising refl none c.first_time-first.ensures.value c.first_time-first.ensures.step;
    }

pub hand_out-requires-clause-within : goal.hand_out-requires-clause-within
hand_out-requires-clause-within g c = from_within c.args.until c.loop-turn.self c.handle.new.self c.handle.new.self c.in-Some.turn c.loop-turn.outs c.handle.new.sends c.handle.new.sends c.loop-turn.steps c.handle.new.steps c.handle.new.steps c.len-from.result (length c.args.outs.now) c.len-from.ensures c.loop-turn.invariant.within c.in_ok-handle.ensures.handled

pub hand_out-requires-clause-may : goal.hand_out-requires-clause-may
hand_out-requires-clause-may g c = turn_hands_out (record {
  until = c.args.until;
  begun = c.args.self.now;
  before = c.loop-turn.self;
  middle = c.handle.new.self;
  after = c.handle.new.self;
  first = c.loop-turn.first;
  turn = c.in-Some.turn;
  sends_before = [];
  sends_middle = drop c.len-from.result c.handle.new.sends;
  sends_after = [];
  outs_before = drop (length c.args.outs.now) c.loop-turn.outs;
  outs_after = drop (length c.args.outs.now) c.loop-turn.outs;
  own = false;
  steps_begun = c.args.steps.now;
  steps_before = c.loop-turn.steps;
  steps_middle = c.handle.new.steps;
  steps_after = c.handle.new.steps;
}) c.requires.budget c.loop-turn.invariant.running (handled_alone c.args.until c.loop-turn.self c.handle.new.self c.handle.new.self c.in-Some.turn c.loop-turn.outs c.handle.new.sends c.handle.new.sends c.loop-turn.steps c.handle.new.steps c.handle.new.steps c.len-from.result (length c.args.outs.now) c.len-from.ensures c.loop-turn.invariant.within c.in_ok-handle.ensures.handled)

pub loop-turn-smaller-in-Some : goal.loop-turn-smaller-in-Some
loop-turn-smaller-in-Some g c =
    let t : ATurn = (record {
      until = c.args.until;
      begun = c.args.self.now;
      before = c.loop-turn.self;
      middle = c.handle.new.self;
      after = c.hand_out.new.self;
      first = c.loop-turn.first;
      turn = c.in-Some.turn;
      sends_before = [];
      sends_middle = drop c.len-from.result c.handle.new.sends;
      sends_after = [];
      outs_before = drop (length c.args.outs.now) c.loop-turn.outs;
      outs_after = drop (length c.args.outs.now) c.hand_out.new.outs;
      own = c.in_ok-own.own;
      steps_begun = c.args.steps.now;
      steps_before = c.loop-turn.steps;
      steps_middle = c.handle.new.steps;
      steps_after = c.hand_out.new.steps;
    }) in
    let more = turn_is_more t c.requires.budget c.loop-turn.invariant.running (handled_alone c.args.until c.loop-turn.self c.handle.new.self c.handle.new.self c.in-Some.turn c.loop-turn.outs c.handle.new.sends c.handle.new.sends c.loop-turn.steps c.handle.new.steps c.handle.new.steps c.len-from.result (length c.args.outs.now) c.len-from.ensures c.loop-turn.invariant.within c.in_ok-handle.ensures.handled) (handed_alone c.args.until c.loop-turn.self c.handle.new.self c.hand_out.new.self c.in-Some.turn c.loop-turn.outs c.handle.new.sends c.hand_out.new.outs c.loop-turn.steps c.handle.new.steps c.hand_out.new.steps c.len-from.result (length c.args.outs.now) c.len-from.ensures c.loop-turn.invariant.within c.in_ok-handle.ensures.handled c.in_ok-own.ensures.parts) refl in
    let within = turn_within t c.requires.budget c.loop-turn.invariant.running (handled_alone c.args.until c.loop-turn.self c.handle.new.self c.handle.new.self c.in-Some.turn c.loop-turn.outs c.handle.new.sends c.handle.new.sends c.loop-turn.steps c.handle.new.steps c.handle.new.steps c.len-from.result (length c.args.outs.now) c.len-from.ensures c.loop-turn.invariant.within c.in_ok-handle.ensures.handled) (handed_alone c.args.until c.loop-turn.self c.handle.new.self c.hand_out.new.self c.in-Some.turn c.loop-turn.outs c.handle.new.sends c.hand_out.new.outs c.loop-turn.steps c.handle.new.steps c.hand_out.new.steps c.len-from.result (length c.args.outs.now) c.len-from.ensures c.loop-turn.invariant.within c.in_ok-handle.ensures.handled c.in_ok-own.ensures.parts) refl in
    omega arith

pub loop-turn-preserved-in-Some : goal.loop-turn-preserved-in-Some
loop-turn-preserved-in-Some g c =
    let t : ATurn = (record {
      until = c.args.until;
      begun = c.args.self.now;
      before = c.loop-turn.self;
      middle = c.handle.new.self;
      after = c.hand_out.new.self;
      first = c.loop-turn.first;
      turn = c.in-Some.turn;
      sends_before = [];
      sends_middle = drop c.len-from.result c.handle.new.sends;
      sends_after = [];
      outs_before = drop (length c.args.outs.now) c.loop-turn.outs;
      outs_after = drop (length c.args.outs.now) c.hand_out.new.outs;
      own = c.in_ok-own.own;
      steps_begun = c.args.steps.now;
      steps_before = c.loop-turn.steps;
      steps_middle = c.handle.new.steps;
      steps_after = c.hand_out.new.steps;
    }) in
    let again : (c.in_ok-own.own || is_message_of c.in-Some.turn) ≡ true = elim c.then-own.branch [
      | then-own-via-then-own w ↦ ap (λ b. b || is_message_of c.in-Some.turn) w.if-own.true
      | then-own-via-else-own+then-is_message w ↦ ap (λ b. b || is_message_of c.in-Some.turn) w.if-own.false ∙ sym w.is_message.ensures ∙ w.if-is_message.true
    ] in
    record {
      within = still_within c.args.until c.loop-turn.self c.handle.new.self c.hand_out.new.self c.in-Some.turn c.loop-turn.outs c.handle.new.sends c.hand_out.new.outs c.loop-turn.steps c.handle.new.steps c.hand_out.new.steps c.len-from.result (length c.args.outs.now) c.len-from.ensures c.loop-turn.invariant.within c.in_ok-handle.ensures.handled c.in_ok-own.ensures.parts;
      kept = still_kept c.args.until c.loop-turn.self c.handle.new.self c.hand_out.new.self c.in-Some.turn c.loop-turn.outs c.handle.new.sends c.hand_out.new.outs c.loop-turn.steps c.handle.new.steps c.hand_out.new.steps c.len-from.result (length c.args.outs.now) c.len-from.ensures c.loop-turn.invariant.within c.in_ok-handle.ensures.handled c.in_ok-own.ensures.parts ∙ c.loop-turn.invariant.kept;
      running = turn_again t c.requires.budget c.loop-turn.invariant.running (handled_alone c.args.until c.loop-turn.self c.handle.new.self c.handle.new.self c.in-Some.turn c.loop-turn.outs c.handle.new.sends c.handle.new.sends c.loop-turn.steps c.handle.new.steps c.handle.new.steps c.len-from.result (length c.args.outs.now) c.len-from.ensures c.loop-turn.invariant.within c.in_ok-handle.ensures.handled) (handed_alone c.args.until c.loop-turn.self c.handle.new.self c.hand_out.new.self c.in-Some.turn c.loop-turn.outs c.handle.new.sends c.hand_out.new.outs c.loop-turn.steps c.handle.new.steps c.hand_out.new.steps c.len-from.result (length c.args.outs.now) c.len-from.ensures c.loop-turn.invariant.within c.in_ok-handle.ensures.handled c.in_ok-own.ensures.parts) refl c.first_time-first-then-own.result c.first_time-first-then-own.new.steps c.in_ok-own.ensures.looked again c.first_time-first-then-own.ensures.value c.first_time-first-then-own.ensures.step;
    }

pub loop-turn-smaller : goal.loop-turn-smaller
loop-turn-smaller g c =
    let t : ATurn = (record {
      until = c.args.until;
      begun = c.args.self.now;
      before = c.loop-turn.self;
      middle = c.handle.new.self;
      after = c.hand_out.new.self;
      first = c.loop-turn.first;
      turn = c.in-Some.turn;
      sends_before = [];
      sends_middle = drop c.len-from.result c.handle.new.sends;
      sends_after = [];
      outs_before = drop (length c.args.outs.now) c.loop-turn.outs;
      outs_after = drop (length c.args.outs.now) c.hand_out.new.outs;
      own = c.in_ok-own.own;
      steps_begun = c.args.steps.now;
      steps_before = c.loop-turn.steps;
      steps_middle = c.handle.new.steps;
      steps_after = c.hand_out.new.steps;
    }) in
    let more = turn_is_more t c.requires.budget c.loop-turn.invariant.running (handled_alone c.args.until c.loop-turn.self c.handle.new.self c.handle.new.self c.in-Some.turn c.loop-turn.outs c.handle.new.sends c.handle.new.sends c.loop-turn.steps c.handle.new.steps c.handle.new.steps c.len-from.result (length c.args.outs.now) c.len-from.ensures c.loop-turn.invariant.within c.in_ok-handle.ensures.handled) (handed_alone c.args.until c.loop-turn.self c.handle.new.self c.hand_out.new.self c.in-Some.turn c.loop-turn.outs c.handle.new.sends c.hand_out.new.outs c.loop-turn.steps c.handle.new.steps c.hand_out.new.steps c.len-from.result (length c.args.outs.now) c.len-from.ensures c.loop-turn.invariant.within c.in_ok-handle.ensures.handled c.in_ok-own.ensures.parts) refl in
    let within = turn_within t c.requires.budget c.loop-turn.invariant.running (handled_alone c.args.until c.loop-turn.self c.handle.new.self c.handle.new.self c.in-Some.turn c.loop-turn.outs c.handle.new.sends c.handle.new.sends c.loop-turn.steps c.handle.new.steps c.handle.new.steps c.len-from.result (length c.args.outs.now) c.len-from.ensures c.loop-turn.invariant.within c.in_ok-handle.ensures.handled) (handed_alone c.args.until c.loop-turn.self c.handle.new.self c.hand_out.new.self c.in-Some.turn c.loop-turn.outs c.handle.new.sends c.hand_out.new.outs c.loop-turn.steps c.handle.new.steps c.hand_out.new.steps c.len-from.result (length c.args.outs.now) c.len-from.ensures c.loop-turn.invariant.within c.in_ok-handle.ensures.handled c.in_ok-own.ensures.parts) refl in
    omega arith

pub loop-turn-preserved : goal.loop-turn-preserved
loop-turn-preserved g c =
    let t : ATurn = (record {
      until = c.args.until;
      begun = c.args.self.now;
      before = c.loop-turn.self;
      middle = c.handle.new.self;
      after = c.hand_out.new.self;
      first = c.loop-turn.first;
      turn = c.in-Some.turn;
      sends_before = [];
      sends_middle = drop c.len-from.result c.handle.new.sends;
      sends_after = [];
      outs_before = drop (length c.args.outs.now) c.loop-turn.outs;
      outs_after = drop (length c.args.outs.now) c.hand_out.new.outs;
      own = c.in_ok-own.own;
      steps_begun = c.args.steps.now;
      steps_before = c.loop-turn.steps;
      steps_middle = c.handle.new.steps;
      steps_after = c.hand_out.new.steps;
    }) in
    record {
      within = still_within c.args.until c.loop-turn.self c.handle.new.self c.hand_out.new.self c.in-Some.turn c.loop-turn.outs c.handle.new.sends c.hand_out.new.outs c.loop-turn.steps c.handle.new.steps c.hand_out.new.steps c.len-from.result (length c.args.outs.now) c.len-from.ensures c.loop-turn.invariant.within c.in_ok-handle.ensures.handled c.in_ok-own.ensures.parts;
      kept = still_kept c.args.until c.loop-turn.self c.handle.new.self c.hand_out.new.self c.in-Some.turn c.loop-turn.outs c.handle.new.sends c.hand_out.new.outs c.loop-turn.steps c.handle.new.steps c.hand_out.new.steps c.len-from.result (length c.args.outs.now) c.len-from.ensures c.loop-turn.invariant.within c.in_ok-handle.ensures.handled c.in_ok-own.ensures.parts ∙ c.loop-turn.invariant.kept;
      running = turn_no_more t c.requires.budget c.loop-turn.invariant.running (handled_alone c.args.until c.loop-turn.self c.handle.new.self c.handle.new.self c.in-Some.turn c.loop-turn.outs c.handle.new.sends c.handle.new.sends c.loop-turn.steps c.handle.new.steps c.handle.new.steps c.len-from.result (length c.args.outs.now) c.len-from.ensures c.loop-turn.invariant.within c.in_ok-handle.ensures.handled) (handed_alone c.args.until c.loop-turn.self c.handle.new.self c.hand_out.new.self c.in-Some.turn c.loop-turn.outs c.handle.new.sends c.hand_out.new.outs c.loop-turn.steps c.handle.new.steps c.hand_out.new.steps c.len-from.result (length c.args.outs.now) c.len-from.ensures c.loop-turn.invariant.within c.in_ok-handle.ensures.handled c.in_ok-own.ensures.parts) refl c.in_ok-own.ensures.looked (ap (λ b. b || is_message_of c.in-Some.turn) c.if-own.false ∙ sym c.is_message.ensures ∙ c.if-is_message.false);
    }

pub returns-clause-ran : goal.returns-clause-ran
returns-clause-ran g c = λ past. it_ran c.args.until past c.args.self.now c.loop-turn.self c.loop-turn.first [] (drop (length c.args.outs.now) c.loop-turn.outs) c.args.steps.now c.loop-turn.steps c.loop-turn.invariant.running (c.in_default.ensures c.args.until c.loop-turn.invariant.running.site)

pub returns-clause-outs : goal.returns-clause-outs
returns-clause-outs g c = λ past.
    let n = length c.args.outs.now in
    let none = c.in_default.ensures c.args.until c.loop-turn.invariant.running.site in
    record {
      outs = drop n c.loop-turn.outs;
      added = sym (take-append-drop n c.loop-turn.outs) ∙ ap (λ (ms : List Stamped). ms ++ drop n c.loop-turn.outs) c.loop-turn.invariant.kept;
      handed = it_handed_out c.args.until past c.args.self.now c.loop-turn.self c.loop-turn.first [] (drop n c.loop-turn.outs) c.args.steps.now c.loop-turn.steps c.loop-turn.invariant.running none;
      free = it_was_free c.args.until c.args.until c.args.self.now c.loop-turn.self c.loop-turn.first [] (drop n c.loop-turn.outs) c.args.steps.now c.loop-turn.steps c.loop-turn.invariant.running none;
    }
