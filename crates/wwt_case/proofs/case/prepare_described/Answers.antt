use Rattle.wwt_case.proofs.CaseLemmas.{described_done, described_stopped}
use Rattle.wwt_case.proofs.case.prepare_described.Goals as goal

pub returns-in-Err-clause-read : goal.returns-in-Err-clause-read
returns-in-Err-clause-read g c = described_stopped c.args.name.now _ _ _ c.in-Err.refusal c.in-Err.ensures.read

pub returns-in-Ok-clause-read : goal.returns-in-Ok-clause-read
returns-in-Ok-clause-read g c =
    described_done c.args.name.now c.in-Ok.description _ _ _ _ c.prepare_machine.result c.in-Ok.ensures.read c.prepare_machine.ensures.read
