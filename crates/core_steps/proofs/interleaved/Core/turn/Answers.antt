use Rattle.std.proofs.Common.{◌≡◌, ◌<◌, ◌+◌, ◌++◌, ◌^◌, false, List, length, take, drop, refl, ap, sym, ◌∙◌, subst, arith}
use Rattle.std.specs.Prelude.{IfSome}
use Rattle.std.specs.List.{All}
use Rattle.std.specs.Option.{option_map}
use Rattle.wt_proto.specs.declared.message.Stamped.{Stamped}
use Rattle.discrete_events.specs.Round.{quantum_end}
use Rattle.node.specs.React.{wind_tunnel}
use Rattle.quantum.specs.Stations.{StationModel, IsUnbroken as IsWholeStation}
use Rattle.engine.specs.Quantum.{earliest_of}
use Rattle.core_steps.specs.declared.step.Step.TheVariants as step
use Rattle.core_steps.specs.Cores.{CoreModel}
use Rattle.core_steps.specs.Deliveries.{HaveBeenGiven, MayAllBeGiven}
use Rattle.core_steps.specs.Steps.{IsEnabledStep, step_of}
use Rattle.core_steps.proofs.AtRest.{all_whole}
use Rattle.core_steps.proofs.Changed.{written}
use Rattle.core_steps.proofs.Stepping.{Went, finished, may_all, turn_early, turn_few, turned_live, view, went_turn}
use Rattle.core_steps.proofs.interleaved.Core.turn.Given as given
use Rattle.core_steps.proofs.interleaved.Core.turn.Goals as goal

pub deliver-requires-clause-may : goal.deliver-requires-clause-may
deliver-requires-clause-may g c =
    let is = c.self.invariant (ap (λ (m : CoreModel). m.broken) c.self.view_is ∙ c.requires.whole) in
    let until = ap (λ (m : CoreModel). m.until) c.self.view_is ∙ c.requires.opened in
    subst (λ (boxes : List (List Stamped)). MayAllBeGiven boxes c.deref_mut.result.now) (sym c.deref_mut-2.ensures.value)
    (subst (λ (stations : List StationModel). MayAllBeGiven c.self.inside.inboxes.items stations) (sym c.deref_mut.ensures.value) (may_all _ is c.args.until until))

pub overflow_add-self : goal.overflow_add-self
overflow_add-self g c =
    let is = c.self.invariant (ap (λ (m : CoreModel). m.broken) c.self.view_is ∙ c.requires.whole) in
    let until = ap (λ (m : CoreModel). m.until) c.self.view_is ∙ c.requires.opened in
    let enabled = subst (λ (core : CoreModel). IsEnabledStep core step.Turn) (sym c.self.view_is) c.requires.enabled in
    let have : HaveBeenGiven c.self.inside.inboxes.items c.self.inside.stations.items c.deliver.new.inboxes c.deliver.new.stations =
    subst (λ (boxes : List (List Stamped)). HaveBeenGiven boxes c.self.inside.stations.items c.deliver.new.inboxes c.deliver.new.stations) c.deref_mut-2.ensures.value
    (subst (λ (stations : List StationModel). HaveBeenGiven c.deref_mut-2.result.now stations c.deliver.new.inboxes c.deliver.new.stations) c.deref_mut.ensures.value c.in_ok-deliver.ensures)
    in
    let few = turn_few _ is c.args.until until enabled c.deliver.new.inboxes c.deliver.new.stations have in
    omega arith

pub next_end-self-inside-requires-clause-whole : goal.next_end-self-inside-requires-clause-whole
next_end-self-inside-requires-clause-whole g c =
    let is = c.self.invariant (ap (λ (m : CoreModel). m.broken) c.self.view_is ∙ c.requires.whole) in
    let until = ap (λ (m : CoreModel). m.until) c.self.view_is ∙ c.requires.opened in
    let enabled = subst (λ (core : CoreModel). IsEnabledStep core step.Turn) (sym c.self.view_is) c.requires.enabled in
    let have : HaveBeenGiven c.self.inside.inboxes.items c.self.inside.stations.items c.deliver.new.inboxes c.deliver.new.stations =
    subst (λ (boxes : List (List Stamped)). HaveBeenGiven boxes c.self.inside.stations.items c.deliver.new.inboxes c.deliver.new.stations) c.deref_mut-2.ensures.value
    (subst (λ (stations : List StationModel). HaveBeenGiven c.deref_mut-2.result.now stations c.deliver.new.inboxes c.deliver.new.stations) c.deref_mut.ensures.value c.in_ok-deliver.ensures)
    in
    let long : length c.deliver.new.stations ≡ c.self.inside.stations.len = (let l = c.self.inside.stations.ok.0 in let k = have.count in omega arith) in
    let all = written c.self.inside.stations.len c.deliver.new.stations (drop (length c.deliver.new.stations) c.self.inside.stations.items) long in
    subst (All IsWholeStation) (sym (c.deref.ensures.value ∙ all))
    (all_whole c.self.inside.machine c.deliver.new.stations (turned_live _ is c.args.until until enabled c.deliver.new.inboxes c.deliver.new.stations have))

pub next_end-self-inside-requires-clause-early : goal.next_end-self-inside-requires-clause-early
next_end-self-inside-requires-clause-early g c =
    let is = c.self.invariant (ap (λ (m : CoreModel). m.broken) c.self.view_is ∙ c.requires.whole) in
    let until = ap (λ (m : CoreModel). m.until) c.self.view_is ∙ c.requires.opened in
    let enabled = subst (λ (core : CoreModel). IsEnabledStep core step.Turn) (sym c.self.view_is) c.requires.enabled in
    let have : HaveBeenGiven c.self.inside.inboxes.items c.self.inside.stations.items c.deliver.new.inboxes c.deliver.new.stations =
    subst (λ (boxes : List (List Stamped)). HaveBeenGiven boxes c.self.inside.stations.items c.deliver.new.inboxes c.deliver.new.stations) c.deref_mut-2.ensures.value
    (subst (λ (stations : List StationModel). HaveBeenGiven c.deref_mut-2.result.now stations c.deliver.new.inboxes c.deliver.new.stations) c.deref_mut.ensures.value c.in_ok-deliver.ensures)
    in
    let long : length c.deliver.new.stations ≡ c.self.inside.stations.len = (let l = c.self.inside.stations.ok.0 in let k = have.count in omega arith) in
    let all = written c.self.inside.stations.len c.deliver.new.stations (drop (length c.deliver.new.stations) c.self.inside.stations.items) long in
    subst (λ (stations : List StationModel). IfSome (earliest_of stations) (λ time. time < 2 ^ 40)) (sym (c.deref.ensures.value ∙ all))
    (turn_early _ is c.args.until until enabled c.deliver.new.inboxes c.deliver.new.stations have)

the_went : (g : given.Over) (c : goal.After-self-7-1 g) → Went (view c.self.inside) (step_of step.Turn) (record (view c.self.inside) {
  stations = take c.self.inside.stations.len (c.deliver.new.stations ++ drop (length c.deliver.new.stations) c.self.inside.stations.items);
  done = c.fill.new.self.items;
  inboxes = take c.self.inside.inboxes.len (c.deliver.new.inboxes ++ drop (length c.deliver.new.inboxes) c.self.inside.inboxes.items);
  kept_end = c.args.until;
  quanta = c.self.inside.quanta + 1;
  until = c.next_end-self-inside.result;
  broken = false;
})
the_went g c =
    let is = c.self.invariant (ap (λ (m : CoreModel). m.broken) c.self.view_is ∙ c.requires.whole) in
    let until = ap (λ (m : CoreModel). m.until) c.self.view_is ∙ c.requires.opened in
    let enabled = subst (λ (core : CoreModel). IsEnabledStep core step.Turn) (sym c.self.view_is) c.requires.enabled in
    let have : HaveBeenGiven c.self.inside.inboxes.items c.self.inside.stations.items c.deliver.new.inboxes c.deliver.new.stations =
    subst (λ (boxes : List (List Stamped)). HaveBeenGiven boxes c.self.inside.stations.items c.deliver.new.inboxes c.deliver.new.stations) c.deref_mut-2.ensures.value
    (subst (λ (stations : List StationModel). HaveBeenGiven c.deref_mut-2.result.now stations c.deliver.new.inboxes c.deliver.new.stations) c.deref_mut.ensures.value c.in_ok-deliver.ensures)
    in
    let long : length c.deliver.new.stations ≡ c.self.inside.stations.len = (let l = c.self.inside.stations.ok.0 in let k = have.count in omega arith) in
    let all = written c.self.inside.stations.len c.deliver.new.stations (drop (length c.deliver.new.stations) c.self.inside.stations.items) long in
    let short : length c.deliver.new.inboxes ≡ c.self.inside.inboxes.len = (let l = c.self.inside.inboxes.ok.0 in let k = have.inboxes_count in omega arith) in
    let boxes = written c.self.inside.inboxes.len c.deliver.new.inboxes (drop (length c.deliver.new.inboxes) c.self.inside.inboxes.items) short in
    let now : HaveBeenGiven c.self.inside.inboxes.items c.self.inside.stations.items (take c.self.inside.inboxes.len (c.deliver.new.inboxes ++ drop (length c.deliver.new.inboxes) c.self.inside.inboxes.items)) (take c.self.inside.stations.len (c.deliver.new.stations ++ drop (length c.deliver.new.stations) c.self.inside.stations.items)) =
    subst (λ (left : List (List Stamped)). HaveBeenGiven c.self.inside.inboxes.items c.self.inside.stations.items left (take c.self.inside.stations.len (c.deliver.new.stations ++ drop (length c.deliver.new.stations) c.self.inside.stations.items))) (sym boxes)
    (subst (λ (stations : List StationModel). HaveBeenGiven c.self.inside.inboxes.items c.self.inside.stations.items c.deliver.new.inboxes stations) (sym all) have)
    in
    went_turn _ is c.args.until until enabled _ _ now c.fill.new.self.items c.self.inside.done.len (c.fill.ensures.items (λ y e. e)) c.self.inside.done.ok.0 c.next_end-self-inside.result
    (c.next_end-self-inside.ensures ∙ ap (λ (stations : List StationModel). option_map (quantum_end (wind_tunnel c.self.inside.machine)) (earliest_of stations)) c.deref.ensures.value)

pub invariant_of-self-2 : goal.invariant_of-self-2
invariant_of-self-2 g c = λ whole. (the_went g c).is_core

pub returns-clause-done : goal.returns-clause-done
returns-clause-done g c = finished _ c.args.self.now c.self.view_is step.Turn _ (the_went g c) c.requires.enabled c.requires.whole refl refl
