use Rattle.discrete_events.proofs.Whole
use Rattle.discrete_events.proofs.simulated.round_is_serial.Goals as goal

pub returns-clause-one : goal.returns-clause-one
returns-clause-one g c = Whole.round_is_serial g.T.Simulated.simulation g.T.Simulated.is_sound g.T.Simulated.fits g.T.Simulated.laws

pub returns-clause-many : goal.returns-clause-many
returns-clause-many g c = Whole.rounds_are_serial g.T.Simulated.simulation g.T.Simulated.is_sound g.T.Simulated.fits g.T.Simulated.laws
