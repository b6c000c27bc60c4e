use Rattle.std.proofs.Common.{Err, ap, sym, ◌∙◌}
use Rattle.priv_mem.specs.Memory.{store_of}
use Rattle.rv_exec.specs.Widths.{store_width_of}
use Rattle.node.proofs.Memory.{store_outside}
use Rattle.node.proofs.state.NodeState.store.Goals as goal

pub shared_store-requires-clause-aligned : goal.shared_store-requires-clause-aligned
shared_store-requires-clause-aligned c =
    store_outside c.args.self.now.private c.args.address (store_width_of c.args.op) c.args.value
    (ap (λ width. store_of c.args.self.now.private c.args.address width c.args.value) (sym c.store_width.ensures.value)
    ∙ c.in-Err-Outside.ensures.fault ∙ ap Err c.in-Err-Outside.field-0-is)
