use Rattle.coherence.proofs.Sends.{sends_are_right_law}
use Rattle.coherence.proofs.events.sends_are_right.Goals as goal

pub returns : goal.returns
returns c = sends_are_right_law
