use Rattle.std.proofs.Common.{◌≡◌, Some, sym, ap, ◌∙◌, subst, refl, true, length, drop, take, arith}
use Rattle.std.specs.Prelude.{slice_get}
use Rattle.std.specs.Option.{option_copied}
use Rattle.std.proofs.lemmas.Option.{get_or_from_slice_get, slice_get_within}
use Rattle.wt_proto.specs.declared.message.Stamped.{Stamped}
use Rattle.wt_proto.specs.Messages.{key_of}
use Rattle.event_queue.specs.Rising.{HasNoKey, insert_of}
use Rattle.quantum.specs.declared.site.Site.{Site}
use Rattle.quantum.proofs.HandOut.{IsHandingOut, at_first}
use Rattle.quantum.proofs.Tails.{all_handed_out, length_removed, new_at, other_at, own_at, past_end, unlike}
use Rattle.quantum.proofs.site.Site.hand_out_all.Goals as goal

pub loop-message-init : goal.loop-message-init
loop-message-init g c = record {
  within = c.requires.within;
  few = omega (arith, c.len-count.ensures);
  so_far = at_first c.args.self.now c.number-number.result (drop c.args.from c.args.outs.now) (take c.args.from c.args.outs.now) c.args.steps.now c.number-number.ensures c.requires.may;
}

pub insert_letter-requires : goal.insert_letter-requires
insert_letter-requires g c =
    let is : slice_get c.loop-message.outs c.loop-message.place ≡ Some c.in-Some.message.now = sym c.get.ensures ∙ ap option_copied c.in-Some.is in
    let same : c.in-Some-remove_letter.taken ≡ c.in-Some.message.now = c.in-Some-remove_letter.ensures.value ∙ get_or_from_slice_get c.loop-message.outs c.loop-message.place c.in-Some.message.now c.in-Some-remove_letter.taken is in
    record {
      new_key = subst (λ (m : Stamped). HasNoKey (key_of m) c.loop-message.self.queue) (sym same)
          (new_at c.args.self.now c.loop-message.self c.number-number.result (drop c.args.from c.args.outs.now) (take c.args.from c.args.outs.now) c.loop-message.outs c.loop-message.place c.in-Some.message.now c.loop-message.own c.args.steps.now c.loop-message.steps is c.loop-message.invariant.so_far);
    }

pub loop-message-preserved-in-Ok : goal.loop-message-preserved-in-Ok
loop-message-preserved-in-Ok g c =
    let is : slice_get c.loop-message.outs c.loop-message.place ≡ Some c.in-Some.message.now = sym c.get.ensures ∙ ap option_copied c.in-Some.is in
    let same : c.in-Some-remove_letter.taken ≡ c.in-Some.message.now = c.in-Some-remove_letter.ensures.value ∙ get_or_from_slice_get c.loop-message.outs c.loop-message.place c.in-Some.message.now c.in-Some-remove_letter.taken is in
    let within = slice_get_within c.loop-message.outs c.loop-message.place c.in-Some.message.now is in
    let shorter = ap length c.in-Some-remove_letter.ensures.rest in
    let one_less = length_removed c.loop-message.outs c.loop-message.place within in
    let few = c.loop-message.invariant.few in
    let after : Site = (record { node = c.loop-message.self.node; queue = c.insert_letter.new.self }) in
    record {
      within = omega (arith, within, shorter, one_less);
      few = omega (arith, few, shorter, one_less);
      so_far =
          subst (λ steps. IsHandingOut c.args.self.now after c.number-number.result (drop c.args.from c.args.outs.now) (drop c.loop-message.place c.remove_letter.new.self) (take c.args.from c.args.outs.now) (take c.loop-message.place c.remove_letter.new.self) true c.args.steps.now steps) (sym c.in-Ok.ensures.step)
          (own_at c.args.self.now c.loop-message.self c.number-number.result (drop c.args.from c.args.outs.now) (take c.args.from c.args.outs.now) c.loop-message.outs c.loop-message.place c.in-Some.message.now c.loop-message.own c.args.steps.now c.loop-message.steps is c.loop-message.invariant.so_far after c.remove_letter.new.self c.in-Some-remove_letter.ensures.rest c.if-message-number.true refl
          (subst (λ (m : Stamped). c.insert_letter.new.self ≡ insert_of m c.loop-message.self.queue) same c.in-Ok.ensures.ok) c.insert_letter.ensures.rising);
    }

pub loop-message-smaller : goal.loop-message-smaller
loop-message-smaller g c =
    let is : slice_get c.loop-message.outs c.loop-message.place ≡ Some c.in-Some.message.now = sym c.get.ensures ∙ ap option_copied c.in-Some.is in
    let within = slice_get_within c.loop-message.outs c.loop-message.place c.in-Some.message.now is in
    omega (arith, within)

pub loop-message-preserved : goal.loop-message-preserved
loop-message-preserved g c =
    let is : slice_get c.loop-message.outs c.loop-message.place ≡ Some c.in-Some.message.now = sym c.get.ensures ∙ ap option_copied c.in-Some.is in
    let within = slice_get_within c.loop-message.outs c.loop-message.place c.in-Some.message.now is in
    record {
      within = omega (arith, within);
      few = c.loop-message.invariant.few;
      so_far = other_at c.args.self.now c.loop-message.self c.number-number.result (drop c.args.from c.args.outs.now) (take c.args.from c.args.outs.now) c.loop-message.outs c.loop-message.place c.in-Some.message.now c.loop-message.own c.args.steps.now c.loop-message.steps is c.loop-message.invariant.so_far (unlike c.in-Some.message.now.to c.number-number.result c.if-message-number.false);
    }

pub returns-clause-parts : goal.returns-clause-parts
returns-clause-parts g c =
    all_handed_out c.args.self.now c.loop-message.self c.number-number.result (drop c.args.from c.args.outs.now) (take c.args.from c.args.outs.now) c.loop-message.outs c.loop-message.place c.loop-message.own c.args.steps.now c.loop-message.steps (past_end c.loop-message.outs c.loop-message.place (sym c.get.ensures ∙ ap option_copied c.in_default.is)) c.loop-message.invariant.so_far
