use Rattle.std.proofs.Common.{◌≡◌, ◌-◌, ◌++◌, length}
use Rattle.std.specs.Prelude.{take}
use Rattle.node.specs.React.{stamped_from}
use Rattle.node.proofs.event.stamp_all.Given as goal

abbrev pub invariant-loop-send : goal.invariant-loop-send
invariant-loop-send l = l.out ≡ l.initial.out ++ stamped_from l.machine l.from l.sequence (take l.i l.sends)

abbrev pub decreases-loop-send : goal.decreases-loop-send
decreases-loop-send l = length l.sends - l.i
