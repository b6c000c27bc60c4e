use Rattle.coherence.proofs.Built.{rows_are_built_law}
use Rattle.coherence.proofs.block.rows_are_built.Goals as goal

pub returns : goal.returns
returns c = rows_are_built_law
