use Rattle.std.proofs.Common.{List, ap, ◌∙◌, subst}
use Rattle.quantum.specs.Stations.{StationModel}
use Rattle.engine.specs.Engine.{EngineModel, IsSoundEngine}
use Rattle.engine.specs.Heads.{head_in}
use Rattle.engine.proofs.HeadLemmas.{head_is}
use Rattle.engine.proofs.engine.Engine.head.Goals as goal

pub returns : goal.returns
returns c = λ whole.
    let sound = subst IsSoundEngine c.self.view_is c.self.invariant in
    c.head.ensures
    ∙ ap (λ (ss : List StationModel). head_in ss c.self.inside.quanta) c.deref.ensures.value
    ∙ ap (λ (e : EngineModel). head_in e.stations e.quanta) c.self.view_is
    ∙ head_is c.args.self.now (sound whole)
