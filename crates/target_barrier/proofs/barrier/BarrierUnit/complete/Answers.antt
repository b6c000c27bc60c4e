use Rattle.std.proofs.Common.{◌≡◌, ◌<◌, false, true, ap, arith, rules}
use Rattle.target_barrier.specs.Barrier.{Barrier, is_known}
use Rattle.target_barrier.proofs.BarrierLaws.{fails_below, all_more, not_all}
use Rattle.target_barrier.proofs.barrier.BarrierUnit.complete.Goals as goal

pub returns-then-not-knows : goal.returns-then-not-knows
returns-then-not-knows c =
    let unknown : is_known c.args.self.now c.loop-node.node ≡ false = search rules in
    let nodes = ap (λ (unit : Barrier). unit.nodes) c.self.view_is in
    let below : c.loop-node.node < c.args.self.now.nodes = omega arith in
    not_all _ _ (fails_below (is_known c.args.self.now) c.args.self.now.nodes c.loop-node.node below unknown)

pub loop-node-preserved : goal.loop-node-preserved
loop-node-preserved c =
    let known : is_known c.args.self.now c.loop-node.node ≡ true = search rules in
    all_more (is_known c.args.self.now) c.loop-node.node c.loop-node.invariant known
