use Rattle.coherence.proofs.RowDeals.{rows_deal_law}
use Rattle.coherence.proofs.events.rows_deal.Goals as goal

pub returns : goal.returns
returns c = rows_deal_law
