use Rattle.coherence.proofs.WorldSerial.{events_keep_coherence_law}
use Rattle.coherence.proofs.runs.events_keep_coherence.Goals as goal

pub returns : goal.returns
returns c = events_keep_coherence_law
