use Rattle.std.proofs.Common.{ap, sym, ◌∙◌, subst}
use Rattle.std.specs.List.{All}
use Rattle.engine.specs.Engine.{EngineModel, IsSoundEngine, IsStationOf}
use Rattle.engine.proofs.Places.{all_by}
use Rattle.engine.proofs.engine.Engine.stations.Goals as goal

pub returns-clause-live : goal.returns-clause-live
returns-clause-live c =
    let engine = c.args.self.now in
    let sound = subst IsSoundEngine c.self.view_is c.self.invariant in
    λ whole. subst (All (IsStationOf engine.machine engine.kept_end)) (ap (λ (e : EngineModel). e.stations) (sym c.self.view_is) ∙ sym c.deref.ensures.value)
    (all_by (IsStationOf engine.machine engine.kept_end) engine.stations (sound whole).stations)
