use Rattle.coherence.proofs.Deals.{deals_are_steps_law}
use Rattle.coherence.proofs.events.deals_are_steps.Goals as goal

pub returns : goal.returns
returns c = deals_are_steps_law
