use Rattle.parts_tests.proofs.Computed.{too_long, too_early}
use Rattle.parts_tests.proofs.simulation.premises_are_needed.Goals as goal

pub returns : goal.returns
returns c = record { too_long = too_long; too_early = too_early }
