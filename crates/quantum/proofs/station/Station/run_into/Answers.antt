use Rattle.std.proofs.Common.{◌≡◌, ◌≤◌, sym, ◌∙◌, subst}
use Rattle.quantum.specs.FreeRuns.{AddsOuts, run_to_of}
use Rattle.quantum.specs.Sites.{run_up_to}
use Rattle.quantum.specs.Stations.{machine_of, station_of}
use Rattle.quantum.proofs.Accepted.{live_site}
use Rattle.quantum.proofs.Due.{idle_adds, idle_ran}
use Rattle.quantum.proofs.station.Station.run_into.Goals as goal

pub returns-clause-ran : goal.returns-clause-ran
returns-clause-ran g c =
    let inside = c.self.inside in
    let kept = c.self.invariant c.if-self.false in
    subst (λ s. station_of (run_up_to c.args.until inside.site) ≡ (run_to_of c.args.until s).0) c.self.view_is
    (idle_ran c.args.until inside.until inside.site inside.due (live_site inside.until inside.site inside.broken kept.live)
    (subst (λ s. s.until ≤ c.args.until) (sym c.self.view_is) c.requires.forward)
    (subst (λ s. c.args.until ≤ (machine_of s).budget) (sym c.self.view_is) c.requires.budget) kept.rising kept.due_is (sym c.comes_before.ensures ∙ c.if-comes_before.false))

pub returns-clause-outs : goal.returns-clause-outs
returns-clause-outs g c =
    let inside = c.self.inside in
    let kept = c.self.invariant c.if-self.false in
    let adds =
    subst (λ s. AddsOuts c.args.until s (run_up_to c.args.until inside.site) c.args.outs.now c.args.outs.now c.args.steps.now c.args.steps.now) c.self.view_is
    (let a = idle_adds c.args.until inside.until inside.site inside.due (live_site inside.until inside.site inside.broken kept.live)
    (subst (λ s. s.until ≤ c.args.until) (sym c.self.view_is) c.requires.forward)
    (subst (λ s. c.args.until ≤ (machine_of s).budget) (sym c.self.view_is) c.requires.budget) kept.rising kept.due_is (sym c.comes_before.ensures ∙ c.if-comes_before.false) c.args.outs.now c.args.steps.now in
    record { outs = a.outs; added = a.added; handed = record { exactly = a.handed.exactly; numbered = a.handed.numbered; grown = a.handed.grown; counted = a.handed.counted }; free = a.free }) in
    record {
      outs = adds.outs;
      added = adds.added;
      handed = record { exactly = adds.handed.exactly; numbered = adds.handed.numbered; grown = adds.handed.grown; counted = adds.handed.counted };
      free = adds.free;
    }
