use Rattle.wt_outside.proofs.WriteLemmas.{writes_done, writes_failed, written_by}
use Rattle.wwt_run.proofs.AnswerLemmas.{attempt_done, attempt_refused, attempt_stopped}
use Rattle.wwt_run.proofs.ThreadLemmas.{job_has_run}
use Rattle.wwt_run.proofs.top.attempt_by_workers.Goals as goal

pub returns-in-Ok-perform_by_workers-clause-attempts : goal.returns-in-Ok-perform_by_workers-clause-attempts
returns-in-Ok-perform_by_workers-clause-attempts g c =
    let prepared = c.in-Ok.ensures in
    let performed = c.in-Ok-perform_by_workers.ensures in
    attempt_done c.args.words.now _ _ _ _ _ _ c.in-Ok.job prepared.read prepared.usage _ performed.status
    (writes_done (written_by performed.writes))

pub returns-in-Ok-perform_by_workers-clause-ran : goal.returns-in-Ok-perform_by_workers-clause-ran
returns-in-Ok-perform_by_workers-clause-ran g c =
    let prepared = c.in-Ok.ensures in
    let performed = c.in-Ok-perform_by_workers.ensures in
    job_has_run c.args.words.now _ _ c.in-Ok.job _ _ c.requires prepared.workers performed.status performed.engine prepared.read.found

pub returns-in-Ok-clause-attempts : goal.returns-in-Ok-clause-attempts
returns-in-Ok-clause-attempts g c =
    let prepared = c.in-Ok.ensures in
    attempt_stopped c.args.words.now _ _ _ _ _ _ c.in-Ok.job prepared.read prepared.usage c.in-Err-perform_by_workers.fault c.refusal.result
    c.refusal.ensures (writes_failed c.in-Err-perform_by_workers.ensures.writes)

pub returns-clause-attempts : goal.returns-clause-attempts
returns-clause-attempts g c =
    let prepared = c.in-Err.ensures in
    attempt_refused c.args.words.now _ _ _ _ _ c.in-Err.refusal prepared.read prepared.usage prepared.reads prepared.wanting
