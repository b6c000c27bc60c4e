use Rattle.coherence.proofs.Moves.{events_move_law}
use Rattle.coherence.proofs.events.events_move.Goals as goal

pub returns : goal.returns
returns c = events_move_law
