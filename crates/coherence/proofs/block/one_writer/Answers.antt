use Rattle.coherence.proofs.Strays
use Rattle.coherence.proofs.block.one_writer.Goals as goal

pub returns : goal.returns
returns c = Strays.one_writer
