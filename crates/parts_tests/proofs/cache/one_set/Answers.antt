use Rattle.std.proofs.Common.{rules}
use Rattle.wt_params.proofs.MeshLaws.{lookahead_within}
use Rattle.test_machines.specs.Small.{small_machine}
use Rattle.parts_tests.proofs.cache.one_set.Goals as goal

pub machine_with-requires : goal.machine_with-requires
machine_with-requires c =
    let within = lookahead_within (record (small_machine 1) { blocks = 8; sets = 1; ways = 2 }) in
    rw c.small_parts.ensures (search rules)
