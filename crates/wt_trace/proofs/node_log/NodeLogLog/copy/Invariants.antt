use Rattle.std.proofs.Common.{◌≡◌, ◌-◌, length, take}
use Rattle.wt_trace.proofs.node_log.NodeLogLog.copy.Given as goal

abbrev pub invariant-loop-item : goal.invariant-loop-item
invariant-loop-item l = l.list ≡ take (length l.list) l.self

abbrev pub decreases-loop-item : goal.decreases-loop-item
decreases-loop-item l = length l.self - length l.list
