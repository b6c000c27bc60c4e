use Rattle.std.proofs.Common.{rules}
use Rattle.wt_params.specs.Mesh.{lookahead_of}
use Rattle.wt_params.proofs.machine.Machine.flat.Goals as goal

pub invariant_of-result : goal.invariant_of-result
unfolding lookahead_of
invariant_of-result c = search rules
