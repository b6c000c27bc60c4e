use Rattle.discrete_events.proofs.Inside as inside
use Rattle.discrete_events.proofs.Interleaving as interleaving
use Rattle.discrete_events.proofs.simulated.every_interleaving.Goals as goal

pub returns-clause-interleaving : goal.returns-clause-interleaving
returns-clause-interleaving g c = interleaving.every_interleaving g.T.Simulated.simulation g.T.Simulated.is_sound g.T.Simulated.fits g.T.Simulated.laws

pub returns-clause-stands : goal.returns-clause-stands
returns-clause-stands g c = inside.stands_for g.T.Simulated.simulation g.T.Simulated.is_sound g.T.Simulated.fits g.T.Simulated.laws
