use Rattle.wt_outside.proofs.AskedLemmas.{kept}
use Rattle.wt_outside.proofs.laws.reads_keep_their_order.Goals as goal

pub returns : goal.returns
returns c = λ faults limit old new names asked. kept faults limit names old new asked
