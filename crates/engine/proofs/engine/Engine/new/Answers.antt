use Rattle.std.proofs.Common.{◌≡◌, ℕ, ◌+◌, ap, sym, subst, arith}
use Rattle.wt_params.specs.declared.parts.MachineParts.{MachineParts}
use Rattle.engine.proofs.StartLemmas.{AreAtStart, one_more_at_start, running_at_start, world_is_start}
use Rattle.engine.proofs.engine.Engine.new.Goals as goal

pub invariant_of-result : goal.invariant_of-result
invariant_of-result c =
    let all = subst (λ (n : ℕ). AreAtStart c.args.machine c.args.loaded.now c.args.traced n c.loop-number.stations.items) (let p = ap (λ (m : MachineParts). m.nodes) c.parts.ensures.value in let e : c.loop-number.number ≡ c.args.machine.nodes = omega arith in e) c.loop-number.invariant in
    λ whole. running_at_start c.args.machine c.args.loaded.now c.args.traced c.parts.ensures.machine c.loop-number.stations.items all c.new-2.result.items

pub returns-clause-running : goal.returns-clause-running
returns-clause-running c =
    let all = subst (λ (n : ℕ). AreAtStart c.args.machine c.args.loaded.now c.args.traced n c.loop-number.stations.items) (let p = ap (λ (m : MachineParts). m.nodes) c.parts.ensures.value in let e : c.loop-number.number ≡ c.args.machine.nodes = omega arith in e) c.loop-number.invariant in
    running_at_start c.args.machine c.args.loaded.now c.args.traced c.parts.ensures.machine c.loop-number.stations.items all c.new-2.result.items

pub returns-clause-start : goal.returns-clause-start
returns-clause-start c =
    let all = subst (λ (n : ℕ). AreAtStart c.args.machine c.args.loaded.now c.args.traced n c.loop-number.stations.items) (let p = ap (λ (m : MachineParts). m.nodes) c.parts.ensures.value in let e : c.loop-number.number ≡ c.args.machine.nodes = omega arith in e) c.loop-number.invariant in
    world_is_start c.args.machine c.args.loaded.now c.args.traced c.parts.ensures.machine c.loop-number.stations.items all

pub loop-number-preserved : goal.loop-number-preserved
loop-number-preserved c =
    subst (AreAtStart c.args.machine c.args.loaded.now c.args.traced (c.loop-number.number + 1)) (sym c.in_ok-push.ensures.items)
    (one_more_at_start c.args.machine c.args.loaded.now c.args.traced c.loop-number.number c.loop-number.stations.items c.in_ok-new.field-0 c.loop-number.invariant c.in_ok-new.ensures.start c.in_ok-new.ensures.machine c.in_ok-new.ensures.unbroken c.in_ok-new.ensures.live)
