use Rattle.std.proofs.Common.{◌≡◌, ◌+◌, ◌<◌, ◌^◌, ◌++◌, length}
use Rattle.node.specs.React.{stamped_from}
use Rattle.node.specs.Sound.{AreSendable}
use Rattle.node.proofs.event.send_stamped.Given as goal

-- what is sent so far, with what is left
abbrev pub invariant-loop-send : goal.invariant-loop-send
invariant-loop-send l = record {
  fit : AreSendable l.machine l.sends;
  room : l.sequence + length l.sends < 2 ^ 63;
  all : l.out ++ stamped_from l.machine l.from l.sequence l.sends ≡ l.fn.out ++ stamped_from l.machine l.from l.fn.sequence l.fn.sends;
}

abbrev pub decreases-loop-send : goal.decreases-loop-send
decreases-loop-send l = length l.sends
