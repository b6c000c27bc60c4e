use Rattle.std.proofs.Common.{ℕ, rules, sym, subst, true≢false}
use Rattle.wt_params.proofs.MeshLaws.{lookahead_within}
use Rattle.wt_params.specs.declared.parts.MachineParts.{MachineParts}
use Rattle.wt_params.specs.Machine.{IsMachine}
use Rattle.machine_json.specs.Numbers.{default_parts_of}
use Rattle.gen_load.specs.Generated.{nodes_of}
use Rattle.gen_load.proofs.generator.machine.Goals as goal

-- the sizes that generated machines have
abbrev sized : MachineParts → MachineParts
sized parts = record parts { private_bytes = 65536; block_bytes = 64; blocks = 1024; sets = 16; ways = 2 }

in_ranges : (number : ℕ) → IsMachine (sized (default_parts_of (nodes_of number)))
in_ranges number = let within = lookahead_within (sized (default_parts_of (nodes_of number))) in search rules

pub unreachable-requires : goal.unreachable-requires
unreachable-requires c =
    let machine = subst (λ (parts : MachineParts). IsMachine (sized parts)) (sym c.default_parts.ensures) (in_ranges c.args.number) in
    true≢false (sym (rw c.in-Err.is at (c.new.ensures.ranges.1 machine)))
