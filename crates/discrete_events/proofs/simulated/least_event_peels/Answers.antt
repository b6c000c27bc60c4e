use Rattle.discrete_events.proofs.Whole
use Rattle.discrete_events.proofs.simulated.least_event_peels.Goals as goal

pub returns : goal.returns
returns g c = Whole.least_event_peels g.T.Simulated.simulation g.T.Simulated.is_sound g.T.Simulated.fits g.T.Simulated.laws
