use Rattle.std.proofs.Common.{refl}
use Rattle.wwt_run.proofs.ThreadLemmas.{wanting}
use Rattle.wwt_run.proofs.top.attempt_by_one.Goals as goal

pub returns-in-Err : goal.returns-in-Err
returns-in-Err g c = (λ _. refl, wanting c.args.words.now _ _ _ _)
