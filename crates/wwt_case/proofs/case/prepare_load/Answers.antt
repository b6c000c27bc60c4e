use Rattle.std.proofs.Common.{refl}
use Rattle.gen_load.specs.Generated.{generated}
use Rattle.wwt_case.specs.Case.{load_of, machine_plan}
use Rattle.wwt_case.proofs.ReadLemmas.{plan_and, plan_ended}
use Rattle.wwt_case.proofs.CaseLemmas.{generated_is}
use Rattle.wwt_case.proofs.case.prepare_load.Goals as goal

pub returns-in-Ok-clause-read : goal.returns-in-Ok-clause-read
returns-in-Ok-clause-read g c =
    plan_and (machine_plan (generated c.args.number)) (load_of c.args.workers) _ _ _ c.in-Ok.described _ (generated_is c.args.number c.in_ok-description.description _ _ _ _ c.in_ok-description.ensures.value c.in-Ok.ensures.read) refl (λ name same. cc)

pub returns-clause-read : goal.returns-clause-read
returns-clause-read g c =
    plan_ended (machine_plan (generated c.args.number)) (load_of c.args.workers) _ _ _ c.in-Err.refusal (generated_is c.args.number c.in_ok-description.description _ _ _ _ c.in_ok-description.ensures.value c.in-Err.ensures.read)
