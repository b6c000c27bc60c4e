use Rattle.std.proofs.Common.{[]}
use Rattle.wwt_case.specs.Programs.{images_plan}
use Rattle.wwt_case.specs.Case.{loaded_machine}
use Rattle.wwt_case.proofs.ReadLemmas.{plan_and, plan_ended}
use Rattle.wwt_case.proofs.ProgramLemmas.{machine_reads_nothing}
use Rattle.wwt_case.proofs.CaseLemmas.{all_images}
use Rattle.wwt_case.proofs.case.prepare_machine.Goals as goal

pub returns-in-Err-clause-read : goal.returns-in-Err-clause-read
returns-in-Err-clause-read g c =
    plan_ended (images_plan [] 0 c.args.description.now.images) (loaded_machine c.args.description.now) _ _ _ c.in-Err.refusal
    (all_images c.args.description.now _ _ _ _ _ _ c.new.ensures c.get.ensures c.in-Err.ensures.read)

pub returns-in-Ok-clause-read : goal.returns-in-Ok-clause-read
returns-in-Ok-clause-read g c =
    plan_and (images_plan [] 0 c.args.description.now.images) (loaded_machine c.args.description.now) _ _ _ c.in-Ok.images c.loaded_machine.result
    (all_images c.args.description.now _ _ _ _ _ _ c.new.ensures c.get.ensures c.in-Ok.ensures.read) c.loaded_machine.ensures.answer
    (machine_reads_nothing c.args.description.now c.in-Ok.images)
