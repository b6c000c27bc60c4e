use Rattle.wwt_case.proofs.CaseLemmas.{of_words, usage_of_words, refuses_memory, refuses_words}
use Rattle.wwt_case.proofs.Ranges.{in_their_ranges}
use Rattle.wwt_case.proofs.case.prepare.Goals as goal

pub prepare_command-requires : goal.prepare_command-requires
prepare_command-requires g c = in_their_ranges _ c.in-Ok.command c.in-Ok.ensures

pub returns-in-Ok-clause-read : goal.returns-in-Ok-clause-read
returns-in-Ok-clause-read g c =
    of_words _ c.in-Ok.command _ _ _ c.prepare_command.result c.in-Ok.ensures c.prepare_command.ensures.read

pub returns-in-Ok-clause-usage : goal.returns-in-Ok-clause-usage
returns-in-Ok-clause-usage g c =
    usage_of_words _ c.in-Ok.command _ _ c.prepare_command.result c.in-Ok.ensures c.prepare_command.ensures.usage

pub returns-in-Err-Usage-clause-usage : goal.returns-in-Err-Usage-clause-usage
returns-in-Err-Usage-clause-usage g c = refuses_words _ _ c.in-Err-Usage.field-0 c.in-Err-Usage.field-0-is c.in-Err-Usage.ensures

pub returns-in-Err-NoMemory-clause-usage : goal.returns-in-Err-NoMemory-clause-usage
returns-in-Err-NoMemory-clause-usage g c = refuses_memory _
