use Rattle.std.proofs.Common.{Bool, cond, ap, sym, ◌∙◌}
use Rattle.std.proofs.lemmas.List.Folds.{list_all-map}
use Rattle.node.specs.State.{exits_well}
use Rattle.quantum.specs.Stations.{StationModel}
use Rattle.engine.specs.Engine.{nodes_of}
use Rattle.wwt_run.specs.Status.{status_after_of}
use Rattle.wwt_run.specs.declared.status.Status.TheVariants.{Done, NodeFault}
use Rattle.wwt_run.proofs.run.status_after.Goals as goal

pub returns-then-all_exit_well : goal.returns-then-all_exit_well
returns-then-all_exit_well c =
    ap (λ (b : Bool). cond b Done NodeFault) (c.if-all_exit_well.ensures ∙ sym (list_all-map exits_well (λ (station : StationModel). station.node.state) c.args.stations.now))
    ∙ ap (λ outcome. status_after_of outcome (nodes_of c.args.stations.now)) (sym c.in-Finished.is)

pub returns-else-all_exit_well : goal.returns-else-all_exit_well
returns-else-all_exit_well c =
    ap (λ (b : Bool). cond b Done NodeFault) (c.if-all_exit_well.ensures ∙ sym (list_all-map exits_well (λ (station : StationModel). station.node.state) c.args.stations.now))
    ∙ ap (λ outcome. status_after_of outcome (nodes_of c.args.stations.now)) (sym c.in-Finished.is)
