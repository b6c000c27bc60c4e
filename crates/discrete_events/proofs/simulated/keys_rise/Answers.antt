use Rattle.discrete_events.proofs.Whole
use Rattle.discrete_events.proofs.simulated.keys_rise.Goals as goal

pub returns : goal.returns
returns g c = Whole.keys_rise g.T.Simulated.simulation g.T.Simulated.is_sound g.T.Simulated.fits g.T.Simulated.laws
