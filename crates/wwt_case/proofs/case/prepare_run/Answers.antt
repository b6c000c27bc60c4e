use Rattle.std.proofs.Common.{ap, sym, Ok}
use Rattle.wwt_case.specs.declared.job.Job.TheVariants.{Run}
use Rattle.wwt_case.specs.Case.{run_of, described_plan}
use Rattle.wwt_case.proofs.ReadLemmas.{plan_and, plan_ended}
use Rattle.wwt_case.proofs.case.prepare_run.Goals as goal

pub returns-in-Err-clause-read : goal.returns-in-Err-clause-read
returns-in-Err-clause-read g c = plan_ended (described_plan c.args.name.now) (run_of c.args.workers c.args.budget c.args.trace c.args.memory) _ _ _ c.in-Err.refusal c.in-Err.ensures.read

pub returns-in-Ok-clause-read : goal.returns-in-Ok-clause-read
returns-in-Ok-clause-read g c = plan_and (described_plan c.args.name.now) (run_of c.args.workers c.args.budget c.args.trace c.args.memory) _ _ _ c.in-Ok.described _ c.in-Ok.ensures.read
    (ap (λ machine. Ok (Run machine c.in-Ok.described.loaded c.args.workers c.args.trace c.args.memory)) (sym c.with_budget.ensures)) (λ name same. cc)
