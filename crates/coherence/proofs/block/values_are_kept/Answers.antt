use Rattle.coherence.proofs.Values.{values_kept}
use Rattle.coherence.proofs.block.values_are_kept.Goals as goal

pub returns : goal.returns
returns c = values_kept
