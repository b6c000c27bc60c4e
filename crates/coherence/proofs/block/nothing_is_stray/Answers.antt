use Rattle.coherence.proofs.Strays
use Rattle.coherence.proofs.block.nothing_is_stray.Goals as goal

pub returns : goal.returns
returns c = Strays.nothing_stray
