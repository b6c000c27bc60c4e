use Rattle.discrete_events.proofs.NewKeys as keys
use Rattle.discrete_events.proofs.simulated.keys_are_new.Goals as goal

pub returns : goal.returns
returns g c = keys.keys_are_new g.T.Simulated.simulation g.T.Simulated.is_sound g.T.Simulated.fits g.T.Simulated.laws
