use Rattle.coherence.proofs.Lines
use Rattle.coherence.proofs.block.lines_keep_order.Goals as goal

pub returns : goal.returns
returns c = Lines.lines_keep_order
