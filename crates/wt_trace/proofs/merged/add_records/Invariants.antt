use Rattle.std.proofs.Common.{◌≡◌, ◌-◌, ◌++◌, length, take, map}
use Rattle.wt_trace.proofs.merged.add_records.Given as goal

abbrev pub invariant-loop-item : goal.invariant-loop-item
invariant-loop-item l = map (λ item. item.now) l.items.items ≡ map (λ item. item.now) l.fn.items.items ++ take l.i l.log

abbrev pub decreases-loop-item : goal.decreases-loop-item
decreases-loop-item l = length l.log - l.i
