use Rattle.wt_proto.proofs.KeyLaws.{key_order_laws}
use Rattle.wt_proto.proofs.key.key_order.Goals as goal

pub returns : goal.returns
returns c = key_order_laws
