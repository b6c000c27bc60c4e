use Rattle.std.proofs.Common.{◌≡◌, ℕ, ◌+◌, ◌<◌, ◌++◌, List, length, take, drop, false, refl, ap, sym, ◌∙◌, subst, arith}
use Rattle.std.specs.List.{All}
use Rattle.discrete_events.specs.Round.{quantum_end}
use Rattle.node.specs.React.{wind_tunnel}
use Rattle.quantum.specs.Stations.{StationModel, IsUnbroken as IsWholeStation}
use Rattle.engine.specs.Engine.{EngineModel}
use Rattle.engine.specs.Quantum.{HaveExchanged, MayExchange, MayRun, earliest_of}
use Rattle.engine.proofs.Going.{all_whole, before_budget, ended, few_quanta, gone_on, may_exchange, may_run, went, written}
use Rattle.engine.proofs.Quanta.{Done}
use Rattle.engine.proofs.engine.Engine.round_counted.Given as given
use Rattle.engine.proofs.engine.Engine.round_counted.Goals as goal

pub earliest-requires : goal.earliest-requires
earliest-requires g c = subst (All IsWholeStation) (sym c.deref.ensures.value) (all_whole _ (c.self.invariant c.if-self.false))

-- ---- without an event

pub returns-in_default-clause-goes : goal.returns-in_default-clause-goes
returns-in_default-clause-goes g c = ended _ c.args.self.now c.self.view_is (c.self.invariant c.if-self.false) c.if-self.false (ap earliest_of (sym c.deref.ensures.value) ∙ sym c.in_default.ensures)

-- ---- with one

pub quantum_end-until-requires-clause-early : goal.quantum_end-until-requires-clause-early
quantum_end-until-requires-clause-early g c =
    subst (λ (e : EngineModel). c.in-Some.time < e.machine.budget) c.self.view_is
    (before_budget _ (c.self.invariant c.if-self.false) c.in-Some.time (ap earliest_of (sym c.deref.ensures.value) ∙ sym c.in-Some.ensures))

pub advance-requires-clause-runs : goal.advance-requires-clause-runs
advance-requires-clause-runs g c =
    let running = c.self.invariant c.if-self.false in
    let end : c.quantum_end-until.result ≡ quantum_end (wind_tunnel c.self.inside.machine) c.in-Some.time = c.quantum_end-until.ensures ∙ ap (λ (e : EngineModel). quantum_end (wind_tunnel e.machine) c.in-Some.time) (sym c.self.view_is) in
    subst (λ (n : ℕ). MayRun n c.deref_mut.result.now) (sym end)
    (subst (λ (xs : List StationModel). MayRun (quantum_end (wind_tunnel c.self.inside.machine) c.in-Some.time) xs) (sym c.deref_mut.ensures.value)
    (may_run _ running c.in-Some.time (ap earliest_of (sym c.deref.ensures.value) ∙ sym c.in-Some.ensures)))

pub advance-requires-clause-exchange : goal.advance-requires-clause-exchange
advance-requires-clause-exchange g c =
    let running = c.self.invariant c.if-self.false in
    let end : c.quantum_end-until.result ≡ quantum_end (wind_tunnel c.self.inside.machine) c.in-Some.time = c.quantum_end-until.ensures ∙ ap (λ (e : EngineModel). quantum_end (wind_tunnel e.machine) c.in-Some.time) (sym c.self.view_is) in
    subst (λ (n : ℕ). MayExchange n c.deref_mut.result.now) (sym end)
    (subst (λ (xs : List StationModel). MayExchange (quantum_end (wind_tunnel c.self.inside.machine) c.in-Some.time) xs) (sym c.deref_mut.ensures.value)
    (may_exchange _ running c.in-Some.time (ap earliest_of (sym c.deref.ensures.value) ∙ sym c.in-Some.ensures)))

pub overflow_add-self : goal.overflow_add-self
overflow_add-self g c = let few = few_quanta _ (c.self.invariant c.if-self.false) in omega arith

-- what the quantum has come to
the_done : (g : given.Over) (c : goal.After-drop-steps-inside-3 g) → Done c.args.self.now c.in-Some.time (record {
  machine = c.self.inside.machine;
  threaded = c.self.inside.threaded;
  passes = c.self.inside.passes.items;
  stations = take c.self.inside.stations.len (c.advance.new.stations ++ drop (length c.advance.new.stations) c.self.inside.stations.items);
  kept_end = c.quantum_end-until.result;
  quanta = c.self.inside.quanta + 1;
  broken = false;
})
the_done g c =
    let running = c.self.invariant c.if-self.false in
    let end : c.quantum_end-until.result ≡ quantum_end (wind_tunnel c.self.inside.machine) c.in-Some.time = c.quantum_end-until.ensures ∙ ap (λ (e : EngineModel). quantum_end (wind_tunnel e.machine) c.in-Some.time) (sym c.self.view_is) in
    let items : c.deref_mut.result.now ≡ c.self.inside.stations.items = c.deref_mut.ensures.value in
    let long : length c.advance.new.stations ≡ c.self.inside.stations.len = let l = c.self.inside.stations.ok.0 in let k = ap (length {A = StationModel}) items in let a = c.advance.auto.stations in omega arith in
    gone_on _ c.args.self.now c.self.view_is running c.in-Some.time c.quantum_end-until.result (ap earliest_of (sym c.deref.ensures.value) ∙ sym c.in-Some.ensures) end
    c.advance.new.stations _ (written c.self.inside.stations.len c.advance.new.stations (drop (length c.advance.new.stations) c.self.inside.stations.items) long)
    (subst (λ (xs : List StationModel). HaveExchanged c.quantum_end-until.result xs c.advance.new.stations) items c.in_ok-advance.ensures)

pub invariant_of-self-2 : goal.invariant_of-self-2
invariant_of-self-2 g c = λ whole. (the_done g c).running

pub returns-clause-goes : goal.returns-clause-goes
returns-clause-goes g c = went c.args.self.now _ c.in-Some.time (the_done g c) (ap (λ (e : EngineModel). e.broken) (sym c.self.view_is) ∙ c.if-self.false) refl (ap (λ (e : EngineModel). e.machine) c.self.view_is)
