use Rattle.wwt_case.specs.Case.{flat_of, flat_plan}
use Rattle.wwt_case.specs.declared.refusal.FileKind.TheVariants as kinds
use Rattle.wwt_case.specs.Plan.{file}
use Rattle.wwt_case.proofs.ReadLemmas.{plan_and, plan_ended, reads_named}
use Rattle.wwt_case.proofs.ProgramLemmas.{flat_reads_nothing}
use Rattle.wwt_case.proofs.case.prepare_flat.Goals as goal

pub returns-in-Err-clause-read : goal.returns-in-Err-clause-read
returns-in-Err-clause-read g c =
    reads_named flat_plan _ _ _ _ _ _ c.in_ok-file.ensures
    (plan_ended (file c.in_ok-file.file (kinds.Image 0)) flat_of _ _ _ c.in-Err.refusal c.in-Err.ensures.read)

pub returns-in-Ok-clause-read : goal.returns-in-Ok-clause-read
returns-in-Ok-clause-read g c =
    reads_named flat_plan _ _ _ _ _ _ c.in_ok-file.ensures
    (plan_and (file c.in_ok-file.file (kinds.Image 0)) flat_of _ _ _ c.in-Ok.bytes c.flat_job.result c.in-Ok.ensures.read c.flat_job.ensures.answer (flat_reads_nothing c.in-Ok.bytes))
