use Rattle.discrete_events.proofs.Merged as merged
use Rattle.discrete_events.proofs.simulated.merges_are_rounds.Goals as goal

pub returns-clause-any : goal.returns-clause-any
returns-clause-any g c = merged.merges_are_rounds g.T.Simulated.simulation g.T.Simulated.is_sound g.T.Simulated.fits g.T.Simulated.laws

pub returns-clause-in_order : goal.returns-clause-in_order
returns-clause-in_order g c = λ until world to within ok. merged.in_order g.T.Simulated.simulation g.T.Simulated.is_sound g.T.Simulated.fits g.T.Simulated.laws world ok until within to
