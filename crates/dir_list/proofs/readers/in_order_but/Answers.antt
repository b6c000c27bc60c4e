use Rattle.std.proofs.Common.{◌-◌, arith}
use Rattle.dir_list.proofs.ListLaws.{inserted, unlike}
use Rattle.dir_list.proofs.readers.in_order_but.Goals as goal

pub loop-left-preserved-then-listed-node : goal.loop-left-preserved-then-listed-node
loop-left-preserved-then-listed-node c =
    let so_far = c.loop-left.invariant in
    let one = inserted c.args.node c.args.nodes.now c.loop-left.few c.insert.new.self (c.loop-left.left - 1) c.loop-left.left 0 (omega arith) (omega arith) (unlike _ _ c.if-listed-node.true) so_far.few so_far.so_far c.insert.ensures in
    record { within = omega arith; few = one.room; so_far = one.so_far }
