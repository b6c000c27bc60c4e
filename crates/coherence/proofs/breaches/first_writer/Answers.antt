use Rattle.std.proofs.Common.{ℕ, Some, ap, sym, ◌∙◌, arith}
use Rattle.node.specs.Laws.{NodeModel}
use Rattle.wt_report.specs.Stations.{node_of}
use Rattle.coherence.specs.Copies.{number_of, writes}
use Rattle.coherence.proofs.Firsts.{first_passed, none_in_all, none_more}
use Rattle.coherence.proofs.breaches.first_writer.Goals as goal

pub returns-then-writes : goal.returns-then-writes
returns-then-writes c =
    ap (λ (n : ℕ). Some n) (c.number.ensures ∙ ap (λ (node : NodeModel). node.state.number) c.node.ensures.value)
    ∙ sym (first_passed (writes c.args.block) node_of number_of c.args.stations.now c.loop-station.station-index c.station-item.result (omega arith) c.station-item.is
    c.loop-station.invariant (sym c.writes.ensures ∙ c.if-writes.true))

pub loop-station-preserved : goal.loop-station-preserved
loop-station-preserved c =
    none_more (writes c.args.block) node_of c.args.stations.now c.loop-station.station-index c.station-item.result (omega arith) c.station-item.is
    c.loop-station.invariant (sym c.writes.ensures ∙ c.if-writes.false)

pub returns : goal.returns
returns c = sym (none_in_all (writes c.args.block) node_of number_of c.args.stations.now c.loop-station.station-index (omega arith) c.loop-station.invariant)
