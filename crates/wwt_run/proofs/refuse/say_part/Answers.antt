use Rattle.wt_outside.proofs.WriteLemmas.{writes_done}
use Rattle.wwt_run.proofs.refuse.say_part.Goals as goal

pub returns-in-Ok-clause-writes : goal.returns-in-Ok-clause-writes
returns-in-Ok-clause-writes g c = writes_done (record { grew = c.in-Ok.ensures.ok; steady = c.in-Ok.ensures.steady })
