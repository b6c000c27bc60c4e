use Rattle.wwt_run.proofs.AnswerLemmas.{attempt_done, attempt_refused, attempt_stopped}
use Rattle.wwt_run.proofs.top.attempt.Goals as goal

pub returns-in-Ok-perform : goal.returns-in-Ok-perform
returns-in-Ok-perform g c =
    let prepared = c.in-Ok.ensures in
    let performed = c.in-Ok-perform.ensures in
    attempt_done c.args.words.now _ _ _ _ _ _ c.in-Ok.job prepared.read prepared.usage c.in-Ok-perform.status performed.status
    performed.writes

pub returns-in-Ok : goal.returns-in-Ok
returns-in-Ok g c =
    let prepared = c.in-Ok.ensures in
    attempt_stopped c.args.words.now _ _ _ _ _ _ c.in-Ok.job prepared.read prepared.usage c.in-Err-perform.fault c.refusal.result
    c.refusal.ensures c.in-Err-perform.ensures.writes

pub returns : goal.returns
returns g c =
    let prepared = c.in-Err.ensures in
    attempt_refused c.args.words.now _ _ _ _ _ c.in-Err.refusal prepared.read prepared.usage prepared.reads prepared.wanting
