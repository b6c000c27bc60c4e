use Rattle.coherence.proofs.Accesses.{accesses_law}
use Rattle.coherence.proofs.events.accesses_are_right.Goals as goal

pub returns : goal.returns
returns c = accesses_law
