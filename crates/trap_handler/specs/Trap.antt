-- What a directory trap does. Own, after the software handlers of Dir1SW (Hill, Larus, Reinhardt, Wood,
-- Cooperative Shared Memory, 1993).
use Rattle.std.specs.Prelude.{ℕ, ◌+◌, ◌*◌, ◌==◌, not, max, List, [], ◌∷◌, length, filter}
use Rattle.wt_params.specs.declared.parts.MachineParts.{MachineParts}
use Rattle.wt_proto.specs.declared.directory.Targets.{Targets}
use Rattle.wt_proto.specs.declared.directory.Targets.TheVariants.{AllBut, One}
use Rattle.wt_proto.specs.declared.directory.TrapPlan.{TrapPlan}
use Rattle.wt_proto.specs.declared.message.Body.TheVariants.{Inv}
use Rattle.wt_proto.specs.declared.message.Outgoing.{Outgoing}
use Rattle.wt_proto.specs.NodeSets.{nodes_below}

-- the nodes that are told to drop their copies, of so many nodes, in rising order
abbrev pub targets_of : ℕ → Targets → List ℕ
targets_of nodes (AllBut spared) = filter (λ node. not (node == spared)) (nodes_below nodes)
targets_of nodes (One node) = node ∷ []

abbrev pub invalidation : ℕ → ℕ → Outgoing
invalidation block node = record { to = node; msg = record { block = block; body = Inv } }

-- the cycles of a trap
abbrev pub trap_cycles_of : MachineParts → TrapPlan → ℕ
trap_cycles_of machine plan =
    machine.costs.trap + machine.costs.trap_each * length (targets_of machine.nodes plan.targets)

-- A trap begins once the node isn't busy, and keeps it busy for its cycles.
abbrev pub busy_after : MachineParts → TrapPlan → ℕ → ℕ → ℕ
busy_after machine plan now busy = max busy now + trap_cycles_of machine plan
