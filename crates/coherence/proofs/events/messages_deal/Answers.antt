use Rattle.coherence.proofs.MessageDeals.{messages_deal_law}
use Rattle.coherence.proofs.events.messages_deal.Goals as goal

pub returns : goal.returns
returns c = messages_deal_law
