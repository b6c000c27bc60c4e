use Rattle.std.proofs.Common.{◌≡◌, ℕ, ◌+◌, ◌<◌, ◌++◌, List, length, take, drop, false, refl, ap, sym, ◌∙◌, subst, arith}
use Rattle.std.specs.List.{All}
use Rattle.discrete_events.specs.Round.{quantum_end}
use Rattle.node.specs.React.{wind_tunnel}
use Rattle.quantum.specs.Stations.{StationModel, IsUnbroken as IsWholeStation}
use Rattle.engine.specs.Engine.{EngineModel, IsRunning}
use Rattle.engine.specs.Quantum.{MayRun, earliest_of}
use Rattle.engine.specs.Inboxes.{HaveMet, MayMeet}
use Rattle.engine.proofs.Going.{all_whole, before_budget, by_inboxes, ended, few_quanta, few_threads, gone_by_inboxes, may_meet, may_run, was_interleaved, went, written}
use Rattle.engine.proofs.Quanta.{Done}
use Rattle.engine.proofs.engine.Engine.round_threaded.Given as given
use Rattle.engine.proofs.engine.Engine.round_threaded.Goals as goal

pub earliest-requires : goal.earliest-requires
earliest-requires g c = subst (All IsWholeStation) (sym c.deref.ensures.value) (all_whole _ (c.self.invariant c.if-self.false))

-- ---- without an event

pub returns-in_default-clause-goes : goal.returns-in_default-clause-goes
returns-in_default-clause-goes g c = ended _ c.args.self.now c.self.view_is (c.self.invariant c.if-self.false) c.if-self.false (ap earliest_of (sym c.deref.ensures.value) ∙ sym c.in_default.ensures)

-- ---- with one

pub quantum_end-until-requires-clause-early : goal.quantum_end-until-requires-clause-early
quantum_end-until-requires-clause-early g c =
    subst (λ (e : EngineModel). c.in-Some.time < e.machine.budget) c.self.view_is
    (before_budget _ (c.self.invariant c.if-self.false) c.in-Some.time (ap earliest_of (sym c.deref.ensures.value) ∙ sym c.in-Some.ensures))

pub advance_by_workers-requires-clause-runs : goal.advance_by_workers-requires-clause-runs
advance_by_workers-requires-clause-runs g c = λ _ _.
    let running = c.self.invariant c.if-self.false in
    let end : c.quantum_end-until.result ≡ quantum_end (wind_tunnel c.self.inside.machine) c.in-Some.time = c.quantum_end-until.ensures ∙ ap (λ (e : EngineModel). quantum_end (wind_tunnel e.machine) c.in-Some.time) (sym c.self.view_is) in
    subst (λ (n : ℕ). MayRun n c.deref_mut.result.now) (sym end)
    (subst (λ (xs : List StationModel). MayRun (quantum_end (wind_tunnel c.self.inside.machine) c.in-Some.time) xs) (sym c.deref_mut.ensures.value)
    (may_run _ running c.in-Some.time (ap earliest_of (sym c.deref.ensures.value) ∙ sym c.in-Some.ensures)))

pub advance_by_workers-requires-clause-meet : goal.advance_by_workers-requires-clause-meet
advance_by_workers-requires-clause-meet g c = λ _ _.
    let running = c.self.invariant c.if-self.false in
    let end : c.quantum_end-until.result ≡ quantum_end (wind_tunnel c.self.inside.machine) c.in-Some.time = c.quantum_end-until.ensures ∙ ap (λ (e : EngineModel). quantum_end (wind_tunnel e.machine) c.in-Some.time) (sym c.self.view_is) in
    subst (λ (n : ℕ). MayMeet n c.deref_mut.result.now) (sym end)
    (subst (λ (xs : List StationModel). MayMeet (quantum_end (wind_tunnel c.self.inside.machine) c.in-Some.time) xs) (sym c.deref_mut.ensures.value)
    (may_meet _ running c.in-Some.time (ap earliest_of (sym c.deref.ensures.value) ∙ sym c.in-Some.ensures)))

pub overflow_add-self : goal.overflow_add-self
overflow_add-self g c = let few = few_quanta _ (c.self.invariant c.if-self.false) in omega arith

pub overflow_add-self-2 : goal.overflow_add-self-2
overflow_add-self-2 g c = let few = few_threads _ (c.self.invariant c.if-self.false) in omega arith

pub invariant_of-self-2 : goal.invariant_of-self-2
invariant_of-self-2 g c =
    let running = c.self.invariant c.if-self.false in
    let end : c.quantum_end-until.result ≡ quantum_end (wind_tunnel c.self.inside.machine) c.in-Some.time = c.quantum_end-until.ensures ∙ ap (λ (e : EngineModel). quantum_end (wind_tunnel e.machine) c.in-Some.time) (sym c.self.view_is) in
    let items : c.deref_mut.result.now ≡ c.self.inside.stations.items = c.deref_mut.ensures.value in
    let new = c.advance_by_workers.new.stations in
    let long : length new ≡ c.self.inside.stations.len = let l = c.self.inside.stations.ok.0 in let k = ap (length {A = StationModel}) items in let a = c.advance_by_workers.auto.stations in omega arith in
    let have = subst (λ (xs : List StationModel). HaveMet c.quantum_end-until.result xs new c.in_ok-self-inside.field-0.items) items c.in_ok-self-inside.ensures in
    λ whole. (gone_by_inboxes _ c.args.self.now c.self.view_is running c.in-Some.time c.quantum_end-until.result (ap earliest_of (sym c.deref.ensures.value) ∙ sym c.in-Some.ensures) end new _
    (written c.self.inside.stations.len new (drop (length new) c.self.inside.stations.items) long) c.in_ok-self-inside.field-0.items have).running

pub returns-clause-goes : goal.returns-clause-goes
returns-clause-goes g c =
    let running = c.self.invariant c.if-self.false in
    let end : c.quantum_end-until.result ≡ quantum_end (wind_tunnel c.self.inside.machine) c.in-Some.time = c.quantum_end-until.ensures ∙ ap (λ (e : EngineModel). quantum_end (wind_tunnel e.machine) c.in-Some.time) (sym c.self.view_is) in
    let items : c.deref_mut.result.now ≡ c.self.inside.stations.items = c.deref_mut.ensures.value in
    let new = c.advance_by_workers.new.stations in
    let long : length new ≡ c.self.inside.stations.len = let l = c.self.inside.stations.ok.0 in let k = ap (length {A = StationModel}) items in let a = c.advance_by_workers.auto.stations in omega arith in
    let have = subst (λ (xs : List StationModel). HaveMet c.quantum_end-until.result xs new c.in_ok-self-inside.field-0.items) items c.in_ok-self-inside.ensures in
    went c.args.self.now _ c.in-Some.time (gone_by_inboxes _ c.args.self.now c.self.view_is running c.in-Some.time c.quantum_end-until.result (ap earliest_of (sym c.deref.ensures.value) ∙ sym c.in-Some.ensures) end new _
    (written c.self.inside.stations.len new (drop (length new) c.self.inside.stations.items) long) c.in_ok-self-inside.field-0.items have)
    (ap (λ (e : EngineModel). e.broken) (sym c.self.view_is) ∙ c.if-self.false) refl (ap (λ (e : EngineModel). e.machine) c.self.view_is)

pub returns-clause-inboxes : goal.returns-clause-inboxes
returns-clause-inboxes g c =
    let running = c.self.invariant c.if-self.false in
    let end : c.quantum_end-until.result ≡ quantum_end (wind_tunnel c.self.inside.machine) c.in-Some.time = c.quantum_end-until.ensures ∙ ap (λ (e : EngineModel). quantum_end (wind_tunnel e.machine) c.in-Some.time) (sym c.self.view_is) in
    let items : c.deref_mut.result.now ≡ c.self.inside.stations.items = c.deref_mut.ensures.value in
    let new = c.advance_by_workers.new.stations in
    let long : length new ≡ c.self.inside.stations.len = let l = c.self.inside.stations.ok.0 in let k = ap (length {A = StationModel}) items in let a = c.advance_by_workers.auto.stations in omega arith in
    let have = subst (λ (xs : List StationModel). HaveMet c.quantum_end-until.result xs new c.in_ok-self-inside.field-0.items) items c.in_ok-self-inside.ensures in
    was_interleaved _ c.args.self.now c.self.view_is running c.in-Some.time c.quantum_end-until.result (ap earliest_of (sym c.deref.ensures.value) ∙ sym c.in-Some.ensures) end new _
    (written c.self.inside.stations.len new (drop (length new) c.self.inside.stations.items) long) c.in_ok-self-inside.field-0.items have
