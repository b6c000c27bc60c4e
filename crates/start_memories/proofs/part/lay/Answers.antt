use Rattle.std.proofs.Common.{◌≡◌, ◌-◌, ◌*◌, length, ap, arith}
use Rattle.wt_params.specs.Machine.{shared_base}
use Rattle.start_memories.proofs.PartLaws.{part_with_segment}
use Rattle.start_memories.proofs.part.lay.Goals as goal

pub returns : goal.returns
returns c =
    let machine = c.args.machine.now in
    let segment = c.args.segment.now in
    let size = machine.blocks * machine.block_bytes in
    let own : length c.get-bytes.result.now ≡ length segment.bytes = ap length c.get-bytes.ensures in
    part_with_segment size c.args.start shared_base (segment.at - shared_base) c.args.part.now c.lay_bytes.new.part c.lay_zeros.new.part c.get-bytes.result.now segment
    c.get-bytes.ensures (omega arith) (omega arith) c.requires.bytes (omega arith)
    (c.lay_bytes.ensures size (omega arith))
    (c.lay_zeros.ensures size (omega arith))
