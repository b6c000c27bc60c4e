use Rattle.discrete_events.proofs.Whole
use Rattle.discrete_events.proofs.simulated.serial_run_ends.Goals as goal

pub returns : goal.returns
returns g c = Whole.serial_run_ends g.T.Simulated.simulation g.T.Simulated.is_sound g.T.Simulated.fits g.T.Simulated.laws
