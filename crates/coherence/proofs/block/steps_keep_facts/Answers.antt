use Rattle.coherence.proofs.Steps
use Rattle.coherence.proofs.block.steps_keep_facts.Goals as goal

pub returns : goal.returns
returns c = Steps.step_keeps
