use Rattle.coherence.proofs.Called.{rows_are_steps_law}
use Rattle.coherence.proofs.block.rows_are_steps.Goals as goal

pub returns : goal.returns
returns c = rows_are_steps_law
