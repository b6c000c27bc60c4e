use Rattle.std.proofs.Common.{◌≡◌, List, length, drop, refl, ap, sym, ◌∙◌, subst, arith}
use Rattle.quantum.specs.Stations.{StationModel}
use Rattle.engine.specs.Sole.{AreSole}
use Rattle.engine.specs.Engine.{EngineModel}
use Rattle.engine.proofs.Going.{written}
use Rattle.engine.proofs.SoleLemmas.{are_alone, ended_on}
use Rattle.engine.proofs.engine.Engine.run_sole.Goals as goal

pub run_sole-requires : goal.run_sole-requires
run_sole-requires g c =
    subst (λ (ss : List StationModel). AreSole ss (record { kept_end = c.self.inside.kept_end; count = c.self.inside.quanta })) (sym c.deref_mut.ensures.value)
    (are_alone _ (c.self.invariant c.if-self.false) c.self.inside.stations.items refl (ap (λ (e : EngineModel). length e.stations) c.self.view_is ∙ c.requires.one))

pub invariant_of-self-2 : goal.invariant_of-self-2
invariant_of-self-2 g c = λ whole.
    let long : length c.run_sole.new.stations ≡ c.self.inside.stations.len = let l = c.self.inside.stations.ok.0 in let k = ap (length {A = StationModel}) c.deref_mut.ensures.value in let a = c.run_sole.auto.stations in omega arith in
    (ended_on _ c.args.self.now c.self.view_is (c.self.invariant c.if-self.false) c.deref_mut.result.now c.run_sole.new.stations _ c.deref_mut.ensures.value
    (written c.self.inside.stations.len c.run_sole.new.stations (drop (length c.run_sole.new.stations) c.self.inside.stations.items) long) c.in_ok-quanta.quanta c.in_ok-quanta.ensures).running

pub returns-clause-end : goal.returns-clause-end
returns-clause-end g c =
    let long : length c.run_sole.new.stations ≡ c.self.inside.stations.len = let l = c.self.inside.stations.ok.0 in let k = ap (length {A = StationModel}) c.deref_mut.ensures.value in let a = c.run_sole.auto.stations in omega arith in
    (ended_on _ c.args.self.now c.self.view_is (c.self.invariant c.if-self.false) c.deref_mut.result.now c.run_sole.new.stations _ c.deref_mut.ensures.value
    (written c.self.inside.stations.len c.run_sole.new.stations (drop (length c.run_sole.new.stations) c.self.inside.stations.items) long) c.in_ok-quanta.quanta c.in_ok-quanta.ensures).end
