-- Arrive or Leave comes to the barrier unit, or Go to a processor at the barrier. Own.
use Rattle.std.specs.Prelude.{ℕ, ◌+◌, ◌==◌, ◌&&◌, not, Bool, List, map, if◌then◌else◌}
use Rattle.wt_params.specs.declared.parts.MachineParts.{MachineParts}
use Rattle.rv_exec.specs.Meaning.{address_after}
use Rattle.wt_proto.specs.declared.message.Body.TheVariants as bodies
use Rattle.wt_proto.specs.declared.mode.Mode.{Mode}
use Rattle.wt_proto.specs.declared.mode.Mode.TheVariants.{Running, InBarrier}
use Rattle.target_barrier.specs.declared.barrier.Release.{Release}
use Rattle.target_barrier.specs.declared.barrier.Release.TheVariants.{Hold, Go, Stray}
use Rattle.target_barrier.specs.Barrier.{Barrier, arrive_of, leave_of}
use Rattle.node.specs.declared.state.NodeState.{NodeState}
use Rattle.node.specs.declared.state.Send.{Send}
use Rattle.node.specs.State.{in_mode, one_barrier, one_stray}
use Rattle.node.specs.Handled.{Handled, quiet, sending, moved_on, message_to}

-- Go to each node, in their order
abbrev pub go_to : ℕ → List ℕ → List Send
go_to time nodes = map (λ node. message_to time node 0 bodies.Go) nodes

abbrev pub release_by : ℕ → NodeState → Release → Handled
release_by time node Hold = quiet node
release_by time node (Go nodes) = sending (go_to time nodes) (quiet node)
release_by time node Stray = quiet (one_stray node)

abbrev pub with_barrier : Barrier → NodeState → NodeState
with_barrier barrier node = record node { barrier = barrier }

-- The barrier unit stands at node 0 of a machine of several nodes; elsewhere the message is stray.
abbrev pub has_unit : MachineParts → NodeState → Bool
has_unit machine node = (node.number == 0) && not (machine.nodes == 1)

-- what the unit answers
abbrev pub unit_by : ℕ → NodeState → Barrier × Release → Handled
unit_by time node after = release_by time (with_barrier after.0 node) after.1

unfoldable pub arrive_message_of : MachineParts → ℕ → ℕ → NodeState → Handled
arrive_message_of machine time from node =
    if has_unit machine node then unit_by time node (arrive_of node.barrier from) else quiet (one_stray node)

unfoldable pub leave_message_of : MachineParts → ℕ → ℕ → NodeState → Handled
leave_message_of machine time from node =
    if has_unit machine node then unit_by time node (leave_of node.barrier from) else quiet (one_stray node)

abbrev pub go_by : MachineParts → ℕ → NodeState → Mode → Handled
go_by machine time node InBarrier =
    quiet (in_mode Running (one_barrier (moved_on (address_after node.pc) (time + machine.costs.call) node)))
go_by machine time node _ = quiet (one_stray node)

unfoldable pub go_message_of : MachineParts → ℕ → NodeState → Handled
go_message_of machine time node = go_by machine time node node.mode
