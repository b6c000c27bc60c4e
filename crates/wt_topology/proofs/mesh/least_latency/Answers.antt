use Rattle.std.proofs.Common.{arith}
use Rattle.wt_params.proofs.MeshLaws.{lookahead_within}
use Rattle.wt_topology.proofs.mesh.least_latency.Goals as goal

pub returns-clause-value : goal.returns-clause-value
returns-clause-value c =
    let is = rw c.parts.ensures.value at c.lookahead.ensures in
    let within = lookahead_within c.args.machine.now in
    let machine = c.parts.ensures.machine in
    omega arith

pub returns-clause-range : goal.returns-clause-range
returns-clause-range c =
    let is = rw c.parts.ensures.value at c.lookahead.ensures in
    let within = lookahead_within c.args.machine.now in
    let machine = c.parts.ensures.machine in
    record { at_least = omega arith; at_most = omega arith }
