use Rattle.quantum.proofs.AtStart.{starts_are_worlds}
use Rattle.quantum.proofs.starts.starts_are_worlds.Goals as goal

pub returns : goal.returns
returns c = starts_are_worlds
