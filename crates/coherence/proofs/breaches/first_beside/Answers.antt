use Rattle.std.proofs.Common.{ℕ, Some, ap, sym, ◌∙◌, arith}
use Rattle.node.specs.Laws.{NodeModel}
use Rattle.wt_report.specs.Stations.{node_of}
use Rattle.coherence.specs.Copies.{is_beside, two}
use Rattle.coherence.specs.declared.breaches.Breach.TheVariants.{Two}
use Rattle.coherence.proofs.Firsts.{first_passed, none_in_all, none_more}
use Rattle.coherence.proofs.breaches.first_beside.Goals as goal

pub returns-then-is_beside : goal.returns-then-is_beside
returns-then-is_beside c =
    ap (λ (n : ℕ). Some (Two c.args.block c.args.writer n)) (c.number.ensures ∙ ap (λ (node : NodeModel). node.state.number) c.node.ensures.value)
    ∙ sym (first_passed (is_beside c.args.block c.args.writer) node_of (two c.args.block c.args.writer) c.args.stations.now c.loop-station.station-index c.station-item.result (omega arith) c.station-item.is
    c.loop-station.invariant (sym c.is_beside.ensures ∙ c.if-is_beside.true))

pub loop-station-preserved : goal.loop-station-preserved
loop-station-preserved c =
    none_more (is_beside c.args.block c.args.writer) node_of c.args.stations.now c.loop-station.station-index c.station-item.result (omega arith) c.station-item.is
    c.loop-station.invariant (sym c.is_beside.ensures ∙ c.if-is_beside.false)

pub returns : goal.returns
returns c = sym (none_in_all (is_beside c.args.block c.args.writer) node_of (two c.args.block c.args.writer) c.args.stations.now c.loop-station.station-index (omega arith) c.loop-station.invariant)
