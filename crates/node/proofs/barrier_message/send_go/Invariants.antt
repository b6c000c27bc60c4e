use Rattle.std.proofs.Common.{◌≡◌, ◌-◌, ◌++◌, length}
use Rattle.std.specs.Prelude.{take}
use Rattle.node.specs.BarrierMessage.{go_to}
use Rattle.node.proofs.barrier_message.send_go.Given as goal

abbrev pub invariant-loop-node : goal.invariant-loop-node
invariant-loop-node l = l.sends ≡ l.initial.sends ++ go_to l.time (take l.i l.nodes)

abbrev pub decreases-loop-node : goal.decreases-loop-node
decreases-loop-node l = length l.nodes - l.i
