use Rattle.discrete_events.proofs.Whole
use Rattle.discrete_events.proofs.simulated.no_past.Goals as goal

pub returns-clause-worlds : goal.returns-clause-worlds
returns-clause-worlds g c = Whole.no_past g.T.Simulated.simulation g.T.Simulated.is_sound g.T.Simulated.fits g.T.Simulated.laws

pub returns-clause-runs : goal.returns-clause-runs
returns-clause-runs g c = Whole.no_past_of_run g.T.Simulated.simulation g.T.Simulated.is_sound g.T.Simulated.fits g.T.Simulated.laws

pub returns-clause-start : goal.returns-clause-start
returns-clause-start g c = Whole.start_is_world g.T.Simulated.simulation g.T.Simulated.is_sound g.T.Simulated.fits g.T.Simulated.laws
