use Rattle.std.proofs.Common.{arith}
use Rattle.trap_handler.proofs.TrapLaws.{same_targets, one_sent, one_counted}
use Rattle.trap_handler.proofs.trap.invalidate_others.Goals as goal

pub loop-node-preserved-then-node-spared : goal.loop-node-preserved-then-node-spared
loop-node-preserved-then-node-spared c =
    let same = same_targets c.loop-node.node c.args.spared c.if-node-spared.true in
    record { sent = rw same c.loop-node.invariant.sent; count = rw same c.loop-node.invariant.count; few = omega arith }

pub loop-node-preserved : goal.loop-node-preserved
loop-node-preserved c =
    let another = c.if-node-spared.false in
    record {
      sent = one_sent c.args.block c.loop-node.node c.args.spared c.args.out.now c.loop-node.out c.invalidate_one.new.out another c.loop-node.invariant.sent c.in_ok-invalidate_one.ensures.ok;
      count = one_counted c.loop-node.node c.args.spared c.loop-node.count another c.loop-node.invariant.count;
      few = omega arith;
    }
