use Rattle.std.proofs.Common.{◌≡◌, ◌++◌, length}
use Rattle.std.specs.Prelude.{map}
use Rattle.node.specs.Handled.{sent_at}
use Rattle.node.proofs.directory_message.send_all.Given as goal

abbrev pub invariant-loop-outgoing : goal.invariant-loop-outgoing
invariant-loop-outgoing l = l.sends ++ map (sent_at l.at) l.out ≡ l.initial.sends ++ map (sent_at l.at) l.initial.out

abbrev pub decreases-loop-outgoing : goal.decreases-loop-outgoing
decreases-loop-outgoing l = length l.out
