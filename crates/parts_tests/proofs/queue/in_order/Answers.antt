use Rattle.std.proofs.Common.{◌-◌, ◌≤◌, arith}
use Rattle.event_queue.proofs.RisingLaws.{All-after_insert}
use Rattle.parts_tests.proofs.queue.in_order.Goals as goal

pub loop-time-preserved : goal.loop-time-preserved
loop-time-preserved g c = record {
  left = omega arith;
  above = All-after_insert (λ m. c.loop-time.sequence - 1 ≤ m.sequence) c.insert.result _ c.loop-time.queue c.insert.new.self c.insert.ensures.ok c.insert.ensures.err (omega arith) (λ k d within. omega (arith, c.loop-time.invariant.above k d within));
}
