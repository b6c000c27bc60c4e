use Rattle.std.proofs.Common.{ℕ, Some, ap, sym, ◌∙◌, arith}
use Rattle.node.specs.Laws.{NodeModel}
use Rattle.wt_report.specs.Stations.{node_of}
use Rattle.coherence.specs.Copies.{is_stray, stray}
use Rattle.coherence.specs.declared.breaches.Breach.TheVariants.{Stray}
use Rattle.coherence.proofs.Firsts.{first_passed, none_in_all, none_more}
use Rattle.coherence.proofs.breaches.first_stray.Goals as goal

pub returns-then-is_stray : goal.returns-then-is_stray
returns-then-is_stray c =
    ap (λ (n : ℕ). Some (Stray n)) (c.number.ensures ∙ ap (λ (node : NodeModel). node.state.number) c.node.ensures.value)
    ∙ sym (first_passed is_stray node_of stray c.args.stations.now c.loop-station.station-index c.station-item.result (omega arith) c.station-item.is
    c.loop-station.invariant (sym c.is_stray.ensures ∙ c.if-is_stray.true))

pub loop-station-preserved : goal.loop-station-preserved
loop-station-preserved c =
    none_more is_stray node_of c.args.stations.now c.loop-station.station-index c.station-item.result (omega arith) c.station-item.is
    c.loop-station.invariant (sym c.is_stray.ensures ∙ c.if-is_stray.false)

pub returns : goal.returns
returns c = sym (none_in_all is_stray node_of stray c.args.stations.now c.loop-station.station-index (omega arith) c.loop-station.invariant)
