use Rattle.std.proofs.Common.{◌≡◌, [], replicate}
use Rattle.target_cache.proofs.cache.empty_sets.Given as goal

abbrev pub invariant-loop-i : goal.invariant-loop-i
invariant-loop-i l = l.sets.items ≡ replicate l._i (record { lines = []; room = l.ways; size = l.size })
