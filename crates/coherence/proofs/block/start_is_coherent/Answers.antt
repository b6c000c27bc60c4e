use Rattle.coherence.proofs.Steps
use Rattle.coherence.proofs.block.start_is_coherent.Goals as goal

pub returns : goal.returns
returns c = Steps.start_coherent
