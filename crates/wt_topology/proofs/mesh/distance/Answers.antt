use Rattle.std.proofs.Common.{arith, rules}
use Rattle.wt_params.specs.Mesh.{distance_of}
use Rattle.wt_topology.proofs.mesh.distance.Goals as goal

pub returns-clause-value : goal.returns-clause-value
unfolding distance_of
returns-clause-value c = search rules

pub returns-clause-short : goal.returns-clause-short
returns-clause-short c =
    let nodes = c.width-width.ensures.machine.nodes.at_most in
    omega arith
