use Rattle.std.proofs.Common.{arith}
use Rattle.start_memories.proofs.PartLaws.{part_apart, part_written}
use Rattle.start_memories.proofs.part.lay_bytes.Goals as goal

pub returns-then-low-high : goal.returns-then-low-high
returns-then-low-high c = λ size inside.
    part_written size c.args.start c.args.at c.max-low.result c.min-high.result c.args.part.now c.copy_from_slice.new.self c.args.bytes.now inside
    c.max-low.ensures c.min-high.ensures c.if-low-high.true c.copy_from_slice.ensures.after

pub returns-else-low-high : goal.returns-else-low-high
returns-else-low-high c = λ size inside.
    let low = c.max-low.ensures in
    let high = c.min-high.ensures in
    part_apart size c.args.start c.args.at c.args.part.now c.args.bytes.now inside (omega arith)
