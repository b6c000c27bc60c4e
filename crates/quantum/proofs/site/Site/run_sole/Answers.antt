use Rattle.std.proofs.Common.{◌≡◌, [], take, drop, refl, sym, ap, ◌∙◌, ◌||◌, None, ℕ, false, subst, arith}
use Rattle.wt_params.specs.declared.parts.MachineParts.{MachineParts}
use Rattle.quantum.specs.Sole.{quanta_after}
use Rattle.quantum.specs.Sites.{is_message_of, least_below}
use Rattle.quantum.proofs.Free.{ATurn}
use Rattle.quantum.proofs.SoleLemmas.{alone_begins, alone_ended, alone_within, due_in_budget, few_so_far, turn_hands_out_alone, turn_is_early, turn_goes_on, turn_is_more_alone, turn_first_stays}
use Rattle.quantum.proofs.Turns.{no_least_time}
use Rattle.quantum.proofs.Tails.{from_within, handled_alone}
use Rattle.quantum.proofs.site.Site.run_sole.Goals as goal

pub loop-turn-init : goal.loop-turn-init
loop-turn-init g c = alone_begins c.args.self.now c.first_time-first.result [] c.args.quanta.now c.requires.alone c.requires.site c.first_time-first.ensures.rising refl c.first_time-first.ensures.value

pub handle-requires-clause-site : goal.handle-requires-clause-site
handle-requires-clause-site g c =
    let t : ATurn = (record {
      until = c.budget-budget.result;
      begun = c.args.self.now;
      before = c.loop-turn.self;
      middle = c.loop-turn.self;
      after = c.loop-turn.self;
      first = c.loop-turn.first;
      turn = c.in-Some.turn;
      sends_before = [];
      sends_middle = [];
      sends_after = [];
      outs_before = c.loop-turn.outs;
      outs_after = c.loop-turn.outs;
      own = false;
      steps_begun = c.args.steps.now;
      steps_before = c.loop-turn.steps;
      steps_middle = c.loop-turn.steps;
      steps_after = c.loop-turn.steps;
    }) in
    due_in_budget t c.args.quanta.now c.loop-turn.quanta c.requires.alone (c.budget-budget.ensures.value ∙ ap (λ (m : MachineParts). m.budget) c.machine.ensures) c.loop-turn.invariant (c.in-Some.ensures c.loop-turn.quanta.kept_end c.loop-turn.invariant.site)

pub hand_out-requires-clause-within : goal.hand_out-requires-clause-within
hand_out-requires-clause-within g c = from_within c.budget-budget.result c.loop-turn.self c.handle.new.self c.handle.new.self c.in-Some.turn c.loop-turn.outs c.handle.new.sends c.handle.new.sends c.loop-turn.steps c.handle.new.steps c.handle.new.steps c.len-from.result 0 c.len-from.ensures (omega arith) c.in_ok-handle.ensures.handled

pub hand_out-requires-clause-may : goal.hand_out-requires-clause-may
hand_out-requires-clause-may g c =
    let t : ATurn = (record {
      until = c.budget-budget.result;
      begun = c.args.self.now;
      before = c.loop-turn.self;
      middle = c.handle.new.self;
      after = c.handle.new.self;
      first = c.loop-turn.first;
      turn = c.in-Some.turn;
      sends_before = [];
      sends_middle = drop c.len-from.result c.handle.new.sends;
      sends_after = [];
      outs_before = take c.len-from.result c.handle.new.sends;
      outs_after = take c.len-from.result c.handle.new.sends;
      own = false;
      steps_begun = c.args.steps.now;
      steps_before = c.loop-turn.steps;
      steps_middle = c.handle.new.steps;
      steps_after = c.handle.new.steps;
    }) in
    turn_hands_out_alone t c.args.quanta.now c.loop-turn.quanta c.requires.alone (c.budget-budget.ensures.value ∙ ap (λ (m : MachineParts). m.budget) c.machine.ensures) c.loop-turn.invariant (handled_alone c.budget-budget.result c.loop-turn.self c.handle.new.self c.handle.new.self c.in-Some.turn c.loop-turn.outs c.handle.new.sends c.handle.new.sends c.loop-turn.steps c.handle.new.steps c.handle.new.steps c.len-from.result 0 c.len-from.ensures (omega arith) c.in_ok-handle.ensures.handled)

pub count_event-requires-clause-early : goal.count_event-requires-clause-early
count_event-requires-clause-early g c =
    let t : ATurn = (record {
      until = c.budget-budget.result;
      begun = c.args.self.now;
      before = c.loop-turn.self;
      middle = c.handle.new.self;
      after = c.hand_out.new.self;
      first = c.loop-turn.first;
      turn = c.in-Some.turn;
      sends_before = [];
      sends_middle = drop c.len-from.result c.handle.new.sends;
      sends_after = [];
      outs_before = take c.len-from.result c.handle.new.sends;
      outs_after = c.hand_out.new.outs;
      own = c.in_ok-own.own;
      steps_begun = c.args.steps.now;
      steps_before = c.loop-turn.steps;
      steps_middle = c.handle.new.steps;
      steps_after = c.hand_out.new.steps;
    }) in
    turn_is_early t c.args.quanta.now c.loop-turn.quanta c.requires.alone (c.budget-budget.ensures.value ∙ ap (λ (m : MachineParts). m.budget) c.machine.ensures) c.loop-turn.invariant (handled_alone c.budget-budget.result c.loop-turn.self c.handle.new.self c.handle.new.self c.in-Some.turn c.loop-turn.outs c.handle.new.sends c.handle.new.sends c.loop-turn.steps c.handle.new.steps c.handle.new.steps c.len-from.result 0 c.len-from.ensures (omega arith) c.in_ok-handle.ensures.handled) c.in_ok-own.ensures.parts c.last.result c.last.ensures

pub count_event-requires-clause-room : goal.count_event-requires-clause-room
count_event-requires-clause-room g c =
    let t : ATurn = (record {
      until = c.budget-budget.result;
      begun = c.args.self.now;
      before = c.loop-turn.self;
      middle = c.loop-turn.self;
      after = c.loop-turn.self;
      first = c.loop-turn.first;
      turn = c.in-Some.turn;
      sends_before = [];
      sends_middle = [];
      sends_after = [];
      outs_before = c.loop-turn.outs;
      outs_after = c.loop-turn.outs;
      own = false;
      steps_begun = c.args.steps.now;
      steps_before = c.loop-turn.steps;
      steps_middle = c.loop-turn.steps;
      steps_after = c.loop-turn.steps;
    }) in
    few_so_far t c.args.quanta.now c.loop-turn.quanta c.requires.alone (c.budget-budget.ensures.value ∙ ap (λ (m : MachineParts). m.budget) c.machine.ensures) c.loop-turn.invariant

pub loop-turn-smaller-in-Some : goal.loop-turn-smaller-in-Some
loop-turn-smaller-in-Some g c =
    let t : ATurn = (record {
      until = c.budget-budget.result;
      begun = c.args.self.now;
      before = c.loop-turn.self;
      middle = c.handle.new.self;
      after = c.hand_out.new.self;
      first = c.loop-turn.first;
      turn = c.in-Some.turn;
      sends_before = [];
      sends_middle = drop c.len-from.result c.handle.new.sends;
      sends_after = [];
      outs_before = take c.len-from.result c.handle.new.sends;
      outs_after = c.hand_out.new.outs;
      own = c.in_ok-own.own;
      steps_begun = c.args.steps.now;
      steps_before = c.loop-turn.steps;
      steps_middle = c.handle.new.steps;
      steps_after = c.hand_out.new.steps;
    }) in
    let next = turn_goes_on t c.args.quanta.now c.loop-turn.quanta c.requires.alone (c.budget-budget.ensures.value ∙ ap (λ (m : MachineParts). m.budget) c.machine.ensures) c.loop-turn.invariant (handled_alone c.budget-budget.result c.loop-turn.self c.handle.new.self c.handle.new.self c.in-Some.turn c.loop-turn.outs c.handle.new.sends c.handle.new.sends c.loop-turn.steps c.handle.new.steps c.handle.new.steps c.len-from.result 0 c.len-from.ensures (omega arith) c.in_ok-handle.ensures.handled) c.in_ok-own.ensures.parts c.count_event.new.self c.first_time-first-then-is_message.result c.last.result c.last.ensures (c.count_event.ensures ∙ ap (λ (m : MachineParts). quanta_after m c.last.result c.loop-turn.quanta) c.machine-in-Some.ensures) c.first_time-first-then-is_message.ensures.value refl in
    let within = alone_within c.args.self.now t.after c.first_time-first-then-is_message.result [] c.args.quanta.now c.count_event.new.self next in
    let more = turn_is_more_alone t c.args.quanta.now c.loop-turn.quanta c.requires.alone (c.budget-budget.ensures.value ∙ ap (λ (m : MachineParts). m.budget) c.machine.ensures) c.loop-turn.invariant (handled_alone c.budget-budget.result c.loop-turn.self c.handle.new.self c.handle.new.self c.in-Some.turn c.loop-turn.outs c.handle.new.sends c.handle.new.sends c.loop-turn.steps c.handle.new.steps c.handle.new.steps c.len-from.result 0 c.len-from.ensures (omega arith) c.in_ok-handle.ensures.handled) c.in_ok-own.ensures.parts in
    omega arith

pub loop-turn-preserved-in-Some : goal.loop-turn-preserved-in-Some
loop-turn-preserved-in-Some g c =
    let t : ATurn = (record {
      until = c.budget-budget.result;
      begun = c.args.self.now;
      before = c.loop-turn.self;
      middle = c.handle.new.self;
      after = c.hand_out.new.self;
      first = c.loop-turn.first;
      turn = c.in-Some.turn;
      sends_before = [];
      sends_middle = drop c.len-from.result c.handle.new.sends;
      sends_after = [];
      outs_before = take c.len-from.result c.handle.new.sends;
      outs_after = c.hand_out.new.outs;
      own = c.in_ok-own.own;
      steps_begun = c.args.steps.now;
      steps_before = c.loop-turn.steps;
      steps_middle = c.handle.new.steps;
      steps_after = c.hand_out.new.steps;
    }) in
    turn_goes_on t c.args.quanta.now c.loop-turn.quanta c.requires.alone (c.budget-budget.ensures.value ∙ ap (λ (m : MachineParts). m.budget) c.machine.ensures) c.loop-turn.invariant (handled_alone c.budget-budget.result c.loop-turn.self c.handle.new.self c.handle.new.self c.in-Some.turn c.loop-turn.outs c.handle.new.sends c.handle.new.sends c.loop-turn.steps c.handle.new.steps c.handle.new.steps c.len-from.result 0 c.len-from.ensures (omega arith) c.in_ok-handle.ensures.handled) c.in_ok-own.ensures.parts c.count_event.new.self c.first_time-first-then-is_message.result c.last.result c.last.ensures (c.count_event.ensures ∙ ap (λ (m : MachineParts). quanta_after m c.last.result c.loop-turn.quanta) c.machine-in-Some.ensures) c.first_time-first-then-is_message.ensures.value refl

pub loop-turn-smaller : goal.loop-turn-smaller
loop-turn-smaller g c =
    let t : ATurn = (record {
      until = c.budget-budget.result;
      begun = c.args.self.now;
      before = c.loop-turn.self;
      middle = c.handle.new.self;
      after = c.hand_out.new.self;
      first = c.loop-turn.first;
      turn = c.in-Some.turn;
      sends_before = [];
      sends_middle = drop c.len-from.result c.handle.new.sends;
      sends_after = [];
      outs_before = take c.len-from.result c.handle.new.sends;
      outs_after = c.hand_out.new.outs;
      own = c.in_ok-own.own;
      steps_begun = c.args.steps.now;
      steps_before = c.loop-turn.steps;
      steps_middle = c.handle.new.steps;
      steps_after = c.hand_out.new.steps;
    }) in
    let next = turn_goes_on t c.args.quanta.now c.loop-turn.quanta c.requires.alone (c.budget-budget.ensures.value ∙ ap (λ (m : MachineParts). m.budget) c.machine.ensures) c.loop-turn.invariant (handled_alone c.budget-budget.result c.loop-turn.self c.handle.new.self c.handle.new.self c.in-Some.turn c.loop-turn.outs c.handle.new.sends c.handle.new.sends c.loop-turn.steps c.handle.new.steps c.handle.new.steps c.len-from.result 0 c.len-from.ensures (omega arith) c.in_ok-handle.ensures.handled) c.in_ok-own.ensures.parts c.count_event.new.self c.loop-turn.first c.last.result c.last.ensures (c.count_event.ensures ∙ ap (λ (m : MachineParts). quanta_after m c.last.result c.loop-turn.quanta) c.machine-in-Some.ensures) (turn_first_stays t c.args.quanta.now c.loop-turn.quanta c.requires.alone (c.budget-budget.ensures.value ∙ ap (λ (m : MachineParts). m.budget) c.machine.ensures) c.loop-turn.invariant (handled_alone c.budget-budget.result c.loop-turn.self c.handle.new.self c.handle.new.self c.in-Some.turn c.loop-turn.outs c.handle.new.sends c.handle.new.sends c.loop-turn.steps c.handle.new.steps c.handle.new.steps c.len-from.result 0 c.len-from.ensures (omega arith) c.in_ok-handle.ensures.handled) c.in_ok-own.ensures.parts c.in_ok-own.ensures.looked (ap (λ b. b || is_message_of c.in-Some.turn) c.if-own.false ∙ sym c.is_message.ensures ∙ c.if-is_message.false)) refl in
    let within = alone_within c.args.self.now t.after c.loop-turn.first [] c.args.quanta.now c.count_event.new.self next in
    let more = turn_is_more_alone t c.args.quanta.now c.loop-turn.quanta c.requires.alone (c.budget-budget.ensures.value ∙ ap (λ (m : MachineParts). m.budget) c.machine.ensures) c.loop-turn.invariant (handled_alone c.budget-budget.result c.loop-turn.self c.handle.new.self c.handle.new.self c.in-Some.turn c.loop-turn.outs c.handle.new.sends c.handle.new.sends c.loop-turn.steps c.handle.new.steps c.handle.new.steps c.len-from.result 0 c.len-from.ensures (omega arith) c.in_ok-handle.ensures.handled) c.in_ok-own.ensures.parts in
    omega arith

pub loop-turn-preserved : goal.loop-turn-preserved
loop-turn-preserved g c =
    let t : ATurn = (record {
      until = c.budget-budget.result;
      begun = c.args.self.now;
      before = c.loop-turn.self;
      middle = c.handle.new.self;
      after = c.hand_out.new.self;
      first = c.loop-turn.first;
      turn = c.in-Some.turn;
      sends_before = [];
      sends_middle = drop c.len-from.result c.handle.new.sends;
      sends_after = [];
      outs_before = take c.len-from.result c.handle.new.sends;
      outs_after = c.hand_out.new.outs;
      own = c.in_ok-own.own;
      steps_begun = c.args.steps.now;
      steps_before = c.loop-turn.steps;
      steps_middle = c.handle.new.steps;
      steps_after = c.hand_out.new.steps;
    }) in
    turn_goes_on t c.args.quanta.now c.loop-turn.quanta c.requires.alone (c.budget-budget.ensures.value ∙ ap (λ (m : MachineParts). m.budget) c.machine.ensures) c.loop-turn.invariant (handled_alone c.budget-budget.result c.loop-turn.self c.handle.new.self c.handle.new.self c.in-Some.turn c.loop-turn.outs c.handle.new.sends c.handle.new.sends c.loop-turn.steps c.handle.new.steps c.handle.new.steps c.len-from.result 0 c.len-from.ensures (omega arith) c.in_ok-handle.ensures.handled) c.in_ok-own.ensures.parts c.count_event.new.self c.loop-turn.first c.last.result c.last.ensures (c.count_event.ensures ∙ ap (λ (m : MachineParts). quanta_after m c.last.result c.loop-turn.quanta) c.machine-in-Some.ensures) (turn_first_stays t c.args.quanta.now c.loop-turn.quanta c.requires.alone (c.budget-budget.ensures.value ∙ ap (λ (m : MachineParts). m.budget) c.machine.ensures) c.loop-turn.invariant (handled_alone c.budget-budget.result c.loop-turn.self c.handle.new.self c.handle.new.self c.in-Some.turn c.loop-turn.outs c.handle.new.sends c.handle.new.sends c.loop-turn.steps c.handle.new.steps c.handle.new.steps c.len-from.result 0 c.len-from.ensures (omega arith) c.in_ok-handle.ensures.handled) c.in_ok-own.ensures.parts c.in_ok-own.ensures.looked (ap (λ b. b || is_message_of c.in-Some.turn) c.if-own.false ∙ sym c.is_message.ensures ∙ c.if-is_message.false)) refl

pub returns-clause-ended : goal.returns-clause-ended
returns-clause-ended g c =
    alone_ended c.args.self.now c.loop-turn.self c.loop-turn.first [] c.args.quanta.now c.loop-turn.quanta c.loop-turn.invariant
    (subst (λ (n : ℕ). least_below n c.loop-turn.self ≡ None) (c.budget-budget.ensures.value ∙ ap (λ (m : MachineParts). m.budget) c.machine.ensures) (c.in_default.ensures c.loop-turn.quanta.kept_end c.loop-turn.invariant.site))

pub returns-clause-none_left : goal.returns-clause-none_left
returns-clause-none_left g c =
    sym (no_least_time c.loop-turn.self c.budget-budget.result c.loop-turn.quanta.kept_end (c.budget-budget.ensures.value ∙ ap (λ (m : MachineParts). m.budget) (c.machine.ensures ∙ sym c.loop-turn.invariant.machine)) c.loop-turn.invariant.site (c.in_default.ensures c.loop-turn.quanta.kept_end c.loop-turn.invariant.site))
