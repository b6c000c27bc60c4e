use Rattle.discrete_events.proofs.Whole
use Rattle.discrete_events.proofs.simulated.late_message_passes.Goals as goal

pub returns : goal.returns
returns g c = Whole.late_message_passes g.T.Simulated.simulation g.T.Simulated.is_sound g.T.Simulated.fits g.T.Simulated.laws
