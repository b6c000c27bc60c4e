use Rattle.std.proofs.Common.{rules}
use Rattle.wt_params.proofs.MeshLaws.{lookahead_within}
use Rattle.test_machines.specs.Small.{small_machine}
use Rattle.test_machines.proofs.machines.machine_of.Goals as goal

pub machine_with-requires : goal.machine_with-requires
machine_with-requires c =
    let within = lookahead_within (small_machine c.args.nodes) in
    rw c.small_parts.ensures (search rules)
