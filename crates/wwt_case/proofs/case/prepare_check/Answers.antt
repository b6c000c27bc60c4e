use Rattle.std.proofs.Common.{refl}
use Rattle.wwt_case.specs.Case.{check_of, described_plan}
use Rattle.wwt_case.proofs.ReadLemmas.{plan_and, plan_ended}
use Rattle.wwt_case.proofs.case.prepare_check.Goals as goal

pub returns-in-Err-clause-read : goal.returns-in-Err-clause-read
returns-in-Err-clause-read g c = plan_ended (described_plan c.args.name.now) check_of _ _ _ c.in-Err.refusal c.in-Err.ensures.read

pub returns-in-Ok-clause-read : goal.returns-in-Ok-clause-read
returns-in-Ok-clause-read g c = plan_and (described_plan c.args.name.now) check_of _ _ _ c.in-Ok.described _ c.in-Ok.ensures.read refl (λ name same. cc)
