use Rattle.coherence.proofs.StepDeals.{steps_deal_law}
use Rattle.coherence.proofs.events.steps_deal.Goals as goal

pub returns : goal.returns
returns c = steps_deal_law
