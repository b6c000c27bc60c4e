use Rattle.coherence.proofs.Steps
use Rattle.coherence.proofs.block.runs_are_coherent.Goals as goal

pub returns : goal.returns
returns c = Steps.runs_coherent
