use Rattle.std.proofs.Common.{◌≡◌, ◌<◌, ◌^◌, ℕ, ◌+◌, List, ap, sym, ◌∙◌, subst, arith}
use Rattle.std.specs.Prelude.{IfSome}
use Rattle.std.specs.List.{All}
use Rattle.std.specs.Option.{option_map}
use Rattle.wt_params.specs.declared.parts.MachineParts.{MachineParts}
use Rattle.discrete_events.specs.Round.{quantum_end}
use Rattle.node.specs.React.{wind_tunnel}
use Rattle.quantum.specs.Stations.{StationModel, IsUnbroken as IsWholeStation}
use Rattle.engine.specs.Quantum.{earliest_of}
use Rattle.engine.proofs.StartLemmas.{AreAtStart, one_more_at_start}
use Rattle.core_steps.proofs.AtRest.{all_whole, early, start_live, start_reached, start_rests, start_stations}
use Rattle.core_steps.proofs.Starts.{start_core, start_rest, start_seen}
use Rattle.core_steps.proofs.interleaved.Core.start_counted.Goals as goal

pub loop-number-preserved : goal.loop-number-preserved
loop-number-preserved g c =
    subst (AreAtStart c.args.machine.now c.args.loaded.now c.args.traced (c.loop-number.number + 1)) (sym c.in_ok-push.ensures.items)
    (one_more_at_start c.args.machine.now c.args.loaded.now c.args.traced c.loop-number.number c.loop-number.stations.items c.in_ok-new.field-0 c.loop-number.invariant c.in_ok-new.ensures.start c.in_ok-new.ensures.machine c.in_ok-new.ensures.unbroken c.in_ok-new.ensures.live)

pub next_end-until-requires-clause-whole : goal.next_end-until-requires-clause-whole
next_end-until-requires-clause-whole g c =
    let all = subst (λ (n : ℕ). AreAtStart c.args.machine.now c.args.loaded.now c.args.traced n c.loop-number.stations.items) (let p = ap (λ (m : MachineParts). m.nodes) c.parts.ensures.value in let e : c.loop-number.number ≡ c.args.machine.now.nodes = omega arith in e) c.loop-number.invariant in
    subst (All IsWholeStation) (sym c.deref.ensures.value) (all_whole c.args.machine.now c.loop-number.stations.items (start_live c.args.machine.now c.args.loaded.now c.args.traced c.parts.ensures.machine c.loop-number.stations.items all))

pub next_end-until-requires-clause-early : goal.next_end-until-requires-clause-early
next_end-until-requires-clause-early g c =
    let all = subst (λ (n : ℕ). AreAtStart c.args.machine.now c.args.loaded.now c.args.traced n c.loop-number.stations.items) (let p = ap (λ (m : MachineParts). m.nodes) c.parts.ensures.value in let e : c.loop-number.number ≡ c.args.machine.now.nodes = omega arith in e) c.loop-number.invariant in
    subst (λ (stations : List StationModel). IfSome (earliest_of stations) (λ time. time < 2 ^ 40)) (sym c.deref.ensures.value)
    (early c.args.machine.now c.parts.ensures.machine _ (start_reached c.args.machine.now c.args.loaded.now c.args.traced c.parts.ensures.machine c.loop-number.stations.items all) (start_rests c.args.machine.now c.args.loaded.now c.args.traced c.parts.ensures.machine c.loop-number.stations.items all) c.loop-number.stations.items (start_live c.args.machine.now c.args.loaded.now c.args.traced c.parts.ensures.machine c.loop-number.stations.items all) (start_stations c.args.machine.now c.args.loaded.now c.args.traced c.parts.ensures.machine c.loop-number.stations.items all))

pub invariant_of-result : goal.invariant_of-result
invariant_of-result g c = λ whole.
    let all = subst (λ (n : ℕ). AreAtStart c.args.machine.now c.args.loaded.now c.args.traced n c.loop-number.stations.items) (let p = ap (λ (m : MachineParts). m.nodes) c.parts.ensures.value in let e : c.loop-number.number ≡ c.args.machine.now.nodes = omega arith in e) c.loop-number.invariant in
    start_core c.args.machine.now c.args.loaded.now c.args.traced c.parts.ensures.machine c.loop-number.stations.items all
    c.parts.result.nodes (ap (λ (m : MachineParts). m.nodes) c.parts.ensures.value) c.in_ok-vec.field-0.items c.in_ok-empty_lists.field-0.items c.in_ok-empty_lists-2.field-0.items
    (c.in_ok-vec.ensures.items_if_clones_equal (λ y e. e)) c.in_ok-empty_lists.ensures c.in_ok-empty_lists-2.ensures c.next_end-until.result
    (c.next_end-until.ensures ∙ ap (λ (stations : List StationModel). option_map (quantum_end (wind_tunnel c.args.machine.now)) (earliest_of stations)) c.deref.ensures.value)

pub returns-clause-start : goal.returns-clause-start
returns-clause-start g c =
    let all = subst (λ (n : ℕ). AreAtStart c.args.machine.now c.args.loaded.now c.args.traced n c.loop-number.stations.items) (let p = ap (λ (m : MachineParts). m.nodes) c.parts.ensures.value in let e : c.loop-number.number ≡ c.args.machine.now.nodes = omega arith in e) c.loop-number.invariant in
    start_seen c.args.machine.now c.args.loaded.now c.args.traced c.parts.ensures.machine c.loop-number.stations.items all
    c.parts.result.nodes (ap (λ (m : MachineParts). m.nodes) c.parts.ensures.value) c.in_ok-vec.field-0.items c.in_ok-empty_lists.field-0.items c.in_ok-empty_lists-2.field-0.items
    (c.in_ok-vec.ensures.items_if_clones_equal (λ y e. e)) c.in_ok-empty_lists.ensures c.in_ok-empty_lists-2.ensures c.next_end-until.result
    (c.next_end-until.ensures ∙ ap (λ (stations : List StationModel). option_map (quantum_end (wind_tunnel c.args.machine.now)) (earliest_of stations)) c.deref.ensures.value)

pub returns-clause-rest : goal.returns-clause-rest
returns-clause-rest g c =
    let all = subst (λ (n : ℕ). AreAtStart c.args.machine.now c.args.loaded.now c.args.traced n c.loop-number.stations.items) (let p = ap (λ (m : MachineParts). m.nodes) c.parts.ensures.value in let e : c.loop-number.number ≡ c.args.machine.now.nodes = omega arith in e) c.loop-number.invariant in
    start_rest c.args.machine.now c.args.loaded.now c.args.traced c.parts.ensures.machine c.loop-number.stations.items all
    c.parts.result.nodes (ap (λ (m : MachineParts). m.nodes) c.parts.ensures.value) c.in_ok-vec.field-0.items c.in_ok-empty_lists.field-0.items c.in_ok-empty_lists-2.field-0.items
    (c.in_ok-vec.ensures.items_if_clones_equal (λ y e. e)) c.in_ok-empty_lists.ensures c.in_ok-empty_lists-2.ensures c.next_end-until.result
    (c.next_end-until.ensures ∙ ap (λ (stations : List StationModel). option_map (quantum_end (wind_tunnel c.args.machine.now)) (earliest_of stations)) c.deref.ensures.value)
