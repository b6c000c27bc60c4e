use Rattle.std.proofs.Common.{◌<◌, ◌≤◌, length, set, true, false, get_or, refl, ap, sym, ◌∙◌, subst, arith}
use Rattle.quantum.specs.FreeRuns.{run_to_of}
use Rattle.quantum.specs.Stations.{StationModel, machine_of}
use Rattle.core_steps.specs.declared.step.Step.TheVariants as step
use Rattle.core_steps.specs.Cores.{CoreModel}
use Rattle.core_steps.specs.Steps.{IsEnabledStep, step_of}
use Rattle.core_steps.proofs.Changed.{place_in}
use Rattle.core_steps.proofs.Stepping.{Went, finished, may_go_on, may_run, view, went_run}
use Rattle.core_steps.proofs.interleaved.Core.run_node.Given as given
use Rattle.core_steps.proofs.interleaved.Core.run_node.Goals as goal

pub run_to-requires-clause-budget : goal.run_to-requires-clause-budget
run_to-requires-clause-budget g c =
    let is = c.self.invariant (ap (λ (m : CoreModel). m.broken) c.self.view_is ∙ c.requires.whole) in
    let until = ap (λ (m : CoreModel). m.until) c.self.view_is ∙ c.requires.opened in
    let enabled = subst (λ (core : CoreModel). IsEnabledStep core (step.Quantum c.args.node)) (sym c.self.view_is) c.requires.enabled in
    let there : c.args.node < length c.self.inside.stations.items = (let n = is.stations in let e = enabled.1 in omega arith) in
    subst (λ (s : StationModel). c.args.until ≤ (machine_of s).budget) (sym c.index_mut.ensures.value)
    (may_run _ is c.args.until until (get_or c.self.inside.stations.items c.args.node c.index_mut.result.now) (place_in c.self.inside.stations.items c.args.node c.index_mut.result.now there))

pub run_to-requires-clause-forward : goal.run_to-requires-clause-forward
run_to-requires-clause-forward g c =
    let is = c.self.invariant (ap (λ (m : CoreModel). m.broken) c.self.view_is ∙ c.requires.whole) in
    let until = ap (λ (m : CoreModel). m.until) c.self.view_is ∙ c.requires.opened in
    let enabled = subst (λ (core : CoreModel). IsEnabledStep core (step.Quantum c.args.node)) (sym c.self.view_is) c.requires.enabled in
    let there : c.args.node < length c.self.inside.stations.items = (let n = is.stations in let e = enabled.1 in omega arith) in
    subst (λ (s : StationModel). s.until ≤ c.args.until) (sym c.index_mut.ensures.value)
    (may_go_on _ is c.args.until until (get_or c.self.inside.stations.items c.args.node c.index_mut.result.now) (place_in c.self.inside.stations.items c.args.node c.index_mut.result.now there))

the_went : (g : given.Over) (c : goal.After-self-5-1 g) → Went (view c.self.inside) (step_of (step.Quantum c.args.node)) (record (view c.self.inside) {
  stations = set c.self.inside.stations.items c.args.node c.run_to.new.self;
  done = set c.self.inside.done.items c.args.node true;
  outs = set c.self.inside.outs.items c.args.node c.in_ok-outs.outs;
  broken = false;
})
the_went g c =
    let is = c.self.invariant (ap (λ (m : CoreModel). m.broken) c.self.view_is ∙ c.requires.whole) in
    let until = ap (λ (m : CoreModel). m.until) c.self.view_is ∙ c.requires.opened in
    let enabled = subst (λ (core : CoreModel). IsEnabledStep core (step.Quantum c.args.node)) (sym c.self.view_is) c.requires.enabled in
    let there : c.args.node < length c.self.inside.stations.items = (let n = is.stations in let e = enabled.1 in omega arith) in
    went_run _ is c.args.until until c.args.node enabled c.run_to.new.self c.index_mut.result.now c.in_ok-outs.outs
    (c.in_ok-outs.ensures.ran ∙ ap (λ (s : StationModel). (run_to_of c.args.until s).0) c.index_mut.ensures.value)
    (c.in_ok-outs.ensures.outs.exactly ∙ ap (λ (s : StationModel). (run_to_of c.args.until s).1) c.index_mut.ensures.value)
    (record {
      whole = c.in_ok-outs.ensures.live.1;
      machine_is = c.in_ok-outs.ensures.machine ∙ ap machine_of c.index_mut.ensures.value ∙ (is.live c.args.node c.index_mut.result.now there).machine_is;
      live = c.in_ok-outs.ensures.live.2;
    })

pub invariant_of-self-2 : goal.invariant_of-self-2
invariant_of-self-2 g c = λ whole. (the_went g c).is_core

pub returns-clause-done : goal.returns-clause-done
returns-clause-done g c = finished _ c.args.self.now c.self.view_is (step.Quantum c.args.node) _ (the_went g c) c.requires.enabled c.requires.whole refl refl
