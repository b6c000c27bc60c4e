use Rattle.coherence.proofs.Meetings.{meetings_orderly}
use Rattle.coherence.proofs.block.meetings_are_orderly.Goals as goal

pub returns : goal.returns
returns c = meetings_orderly
