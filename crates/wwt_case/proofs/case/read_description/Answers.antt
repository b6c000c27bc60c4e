use Rattle.wwt_case.specs.Case.{description_plan, description_or}
use Rattle.machine_json.specs.Description.{description_of}
use Rattle.wwt_case.specs.declared.refusal.FileKind.TheVariants as kinds
use Rattle.wwt_case.specs.Plan.{file}
use Rattle.wwt_case.proofs.ReadLemmas.{plan_and, plan_ended, reads_named}
use Rattle.wwt_case.proofs.CaseLemmas.{described}
use Rattle.wwt_case.proofs.ProgramLemmas.{description_reads_nothing}
use Rattle.wwt_case.proofs.case.read_description.Goals as goal

pub returns-in-Err-clause-read : goal.returns-in-Err-clause-read
returns-in-Err-clause-read g c =
    reads_named description_plan _ _ _ _ _ _ c.in_ok-file.ensures
    (plan_ended (file c.in_ok-file.file kinds.Description) (λ bytes. description_or (description_of bytes)) _ _ _ c.in-Err.refusal c.in-Err.ensures.read)

pub returns-in-Ok-clause-read : goal.returns-in-Ok-clause-read
returns-in-Ok-clause-read g c =
    reads_named description_plan _ _ _ _ _ _ c.in_ok-file.ensures
    (plan_and (file c.in_ok-file.file kinds.Description) (λ bytes. description_or (description_of bytes)) _ _ _ c.in-Ok.bytes c.describe.result c.in-Ok.ensures.read (described _ _ _ c.get.ensures c.describe.ensures.answer) (description_reads_nothing _))
