use Rattle.std.proofs.Common.{◌<◌, List, [], length, set, false, get_or, refl, ap, sym, ◌∙◌, subst, arith}
use Rattle.wt_proto.specs.declared.message.Stamped.{Stamped}
use Rattle.core_steps.specs.declared.step.Step.TheVariants as step
use Rattle.core_steps.specs.Cores.{CoreModel}
use Rattle.core_steps.specs.Steps.{IsEnabledStep, step_of}
use Rattle.core_steps.specs.Sent.{IsMoved}
use Rattle.std.proofs.lemmas.List.{get_or_default}
use Rattle.core_steps.proofs.Stepping.{Went, finished, opened, view, went_move}
use Rattle.core_steps.proofs.interleaved.Core.deposit.Goals as goal

the_went : (c : goal.After-self-4-1) → Went (view c.self.inside) (step_of (step.Deposit c.args.from c.args.to)) (record (view c.self.inside) {
  outs = set c.self.inside.outs.items c.args.from c.move_first.new.list;
  inboxes = set c.self.inside.inboxes.items c.args.to c.move_first.new.inbox;
  broken = false;
})
the_went c =
    let is = c.self.invariant (ap (λ (m : CoreModel). m.broken) c.self.view_is ∙ c.requires.whole) in
    let enabled = subst (λ (core : CoreModel). IsEnabledStep core (step.Deposit c.args.from c.args.to)) (sym c.self.view_is) c.requires.enabled in
    let until = opened c.self.inside.until enabled.0 in
    let source : c.args.from < length c.self.inside.outs.items = (let n = is.outs in let e = enabled.1 in omega arith) in
    let dest : c.args.to < length c.self.inside.inboxes.items = (let n = is.inboxes in let e = enabled.2 in omega arith) in
    let out = c.index_mut.ensures.value ∙ get_or_default c.self.inside.outs.items c.args.from c.index_mut.result.now [] source in
    let box = c.index_mut-2.ensures.value ∙ get_or_default c.self.inside.inboxes.items c.args.to c.index_mut-2.result.now [] dest in
    went_move _ is until.0 until.1 c.args.from c.args.to enabled c.move_first.new.list c.move_first.new.inbox
    (subst (λ (list : List Stamped). IsMoved c.args.to list (get_or c.self.inside.inboxes.items c.args.to []) c.move_first.new.list c.move_first.new.inbox) out
    (subst (λ (inbox : List Stamped). IsMoved c.args.to c.index_mut.result.now inbox c.move_first.new.list c.move_first.new.inbox) box c.in_ok-move_first.ensures))

pub invariant_of-self-2 : goal.invariant_of-self-2
invariant_of-self-2 c = λ whole. (the_went c).is_core

pub returns-clause-done : goal.returns-clause-done
returns-clause-done c = finished _ c.args.self.now c.self.view_is (step.Deposit c.args.from c.args.to) _ (the_went c) c.requires.enabled c.requires.whole refl refl
