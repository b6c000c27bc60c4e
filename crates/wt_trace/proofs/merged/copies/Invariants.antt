use Rattle.std.proofs.Common.{◌≡◌, take, map}
use Rattle.wt_trace.proofs.merged.copies.Given as goal

abbrev pub invariant-loop-item : goal.invariant-loop-item
invariant-loop-item l = l.log ≡ map (λ item. item.now) (take l.item-index l.items)
