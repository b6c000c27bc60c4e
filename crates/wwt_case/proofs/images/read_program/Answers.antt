use Rattle.std.proofs.Common.{Err, subst}
use Rattle.wwt_case.specs.Programs.{program_of, file_plan}
use Rattle.wwt_case.specs.Reading.{Reads}
use Rattle.wwt_case.specs.declared.refusal.FileKind.TheVariants as kinds
use Rattle.wwt_case.specs.Plan.{file}
use Rattle.wwt_case.proofs.ReadLemmas.{plan_and, plan_ended}
use Rattle.wwt_case.proofs.ProgramLemmas.{program_reads_nothing}
use Rattle.wwt_case.proofs.images.read_program.Goals as goal

pub returns-in-Err-clause-read : goal.returns-in-Err-clause-read
returns-in-Err-clause-read g c =
    subst (λ n. Reads (file_plan c.args.number n c.args.elf c.args.at) g.S.Store.view c.args.store.now c.read_file.new.store (Err c.in-Err.refusal)) c.in_ok-file.ensures
    (plan_ended (file c.in_ok-file.file (kinds.Image c.args.number)) (program_of c.args.number c.args.elf c.args.at) _ _ _ c.in-Err.refusal c.in-Err.ensures.read)

pub returns-in-Ok-clause-read : goal.returns-in-Ok-clause-read
returns-in-Ok-clause-read g c =
    subst (λ n. Reads (file_plan c.args.number n c.args.elf c.args.at) g.S.Store.view c.args.store.now c.read_file.new.store c.program.result) c.in_ok-file.ensures
    (plan_and (file c.in_ok-file.file (kinds.Image c.args.number)) (program_of c.args.number c.args.elf c.args.at) _ _ _ c.in-Ok.bytes c.program.result c.in-Ok.ensures.read c.program.ensures.answer
    (program_reads_nothing c.args.number c.args.elf c.args.at c.in-Ok.bytes))
