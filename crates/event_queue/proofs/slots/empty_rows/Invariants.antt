use Rattle.std.proofs.Common.{◌≡◌, [], replicate}
use Rattle.event_queue.proofs.slots.empty_rows.Given as goal

abbrev pub invariant-loop-place : goal.invariant-loop-place
invariant-loop-place l = l.rows.items ≡ replicate l._place []
