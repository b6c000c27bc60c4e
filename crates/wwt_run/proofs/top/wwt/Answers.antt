use Rattle.std.proofs.Common.{refl}
use Rattle.wwt_run.proofs.SilentLemmas.{ended_in_silence}
use Rattle.wwt_run.proofs.top.wwt.Goals as goal

pub returns-in-Ok-clause-ended : goal.returns-in-Ok-clause-ended
returns-in-Ok-clause-ended g c =
    let left = c.in_default.ensures.answers in
    ended_in_silence g.E.Sink.view c.args.words.now g.S.Store.view c.args.store.now c.wwt_plain.new.store c.attempt_by_workers.new.store g.K.Sink.view
    c.args.out.now c.wwt_plain.new.out c.attempt_by_workers.new.out c.args.err.now c.wwt_plain.new.err c.in-Ok.status
    (left.store refl) (left.out refl) (left.err refl) c.in-Ok.ensures.attempts.by
