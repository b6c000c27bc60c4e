use Rattle.std.proofs.Common.{◌≡◌, false, rules}
use Rattle.std.specs.Prelude.{◌||◌}
use Rattle.wt_proto.specs.NodeSets.{has_node}
use Rattle.target_barrier.proofs.BarrierLaws.{apart_left}
use Rattle.target_barrier.proofs.barrier.BarrierUnit.leave.Goals as goal

pub invariant_of-self : goal.invariant_of-self
invariant_of-self c =
    let unit = c.self.inside in
    let unknown : (has_node unit.arrived c.args.node || has_node unit.left c.args.node) ≡ false = search rules in
    rw c.insert.ensures (record { some = c.self.invariant.some; apart = apart_left unit.arrived unit.left c.args.node c.self.invariant.apart unknown })
