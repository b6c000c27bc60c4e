use Rattle.std.proofs.Common.{◌≡◌, ◌+◌, ◌≤◌, length}
use Rattle.std.specs.List.{All}
use Rattle.parts_tests.proofs.queue.in_order.Given as goal

-- The messages so far have the sequences from this one on.
abbrev pub invariant-loop-time : goal.invariant-loop-time
invariant-loop-time g l = record {
  left : l.sequence + l.time-index ≡ length l.rows;
  above : All (λ message. l.sequence ≤ message.sequence) l.queue;
}
