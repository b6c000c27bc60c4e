use Rattle.wt_trace.proofs.EventLaws.{merge_laws}
use Rattle.wt_trace.proofs.merged.merge_order.Goals as goal

pub returns : goal.returns
returns c = merge_laws
