use Rattle.std.proofs.Common.{arith}
use Rattle.wt_params.proofs.MeshLaws.{lookahead_within}
use Rattle.wt_params.proofs.machine.Machine.quantum.Goals as goal

pub returns-clause-short : goal.returns-clause-short
returns-clause-short c =
    let within = (lookahead_within c.self.inside.parts).at_most in
    omega arith
