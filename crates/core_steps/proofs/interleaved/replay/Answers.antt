use Rattle.std.proofs.Common.{◌<◌, List, length, take, add-one, sym, subst, arith}
use Rattle.std.proofs.Math.Seq.{take-suc}
use Rattle.core_steps.specs.declared.step.Step.{Step}
use Rattle.core_steps.specs.Cores.{IsSoundCore}
use Rattle.core_steps.specs.Steps.{HaveStepped}
use Rattle.core_steps.proofs.Finished.{interleaved, one_more}
use Rattle.core_steps.proofs.interleaved.replay.Goals as goal

pub loop-step-preserved : goal.loop-step-preserved
loop-step-preserved c =
    let i = c.loop-step.step-index in
    let below : i < length c.args.steps.now = omega arith in
    let first = subst IsSoundCore c.core.view_is c.core.invariant c.loop-step.invariant.unbroken.0 in
    rw add-one (subst (λ (steps : List Step). HaveStepped c.args.core steps c.apply.new.self) (sym (take-suc c.args.steps.now i _ below))
    (one_more c.args.core first c.loop-step.core c.apply.new.self (take i c.args.steps.now) _ c.loop-step.invariant c.in_ok-apply.ensures.ok))

pub returns-clause-serial : goal.returns-clause-serial
returns-clause-serial c =
    let first = subst IsSoundCore c.core.view_is c.core.invariant c.loop-step.invariant.unbroken.0 in
    interleaved c.args.core c.loop-step.core first (take c.loop-step.step-index c.args.steps.now) c.loop-step.invariant
