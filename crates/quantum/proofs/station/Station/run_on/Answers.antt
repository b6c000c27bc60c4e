use Rattle.std.proofs.Common.{◌≡◌, subst}
use Rattle.quantum.specs.FreeRuns.{AddsOuts, run_to_of}
use Rattle.quantum.specs.Sites.{run_up_to}
use Rattle.quantum.specs.Stations.{station_of}
use Rattle.quantum.proofs.Accepted.{site_live}
use Rattle.quantum.proofs.station.Station.run_on.Goals as goal

pub returns-in-Ok-clause-ran : goal.returns-in-Ok-clause-ran
returns-in-Ok-clause-ran g c =
    subst (λ s. station_of (run_up_to c.args.until c.run_to.new.self) ≡ (run_to_of c.args.until s).0) c.self.view_is (c.in-Ok.ensures.ran c.self.inside.until)

pub returns-in-Ok-clause-outs : goal.returns-in-Ok-clause-outs
returns-in-Ok-clause-outs g c =
    let adds =
    subst (λ s. AddsOuts c.args.until s (run_up_to c.args.until c.run_to.new.self) c.args.outs.now c.run_to.new.outs c.args.steps.now c.run_to.new.steps) c.self.view_is
    (let a = c.in-Ok.ensures.outs c.self.inside.until in
    record { outs = a.outs; added = a.added; handed = record { exactly = a.handed.exactly; numbered = a.handed.numbered; grown = a.handed.grown; counted = a.handed.counted }; free = a.free }) in
    record {
      outs = adds.outs;
      added = adds.added;
      handed = record { exactly = adds.handed.exactly; numbered = adds.handed.numbered; grown = adds.handed.grown; counted = adds.handed.counted };
      free = adds.free;
    }

pub invariant_of-self : goal.invariant_of-self
invariant_of-self g c = λ unbroken. record {
  rising = c.in-Ok.ensures.rising;
  live = site_live c.args.until c.run_to.new.self c.self.inside.broken c.in-Ok.ensures.site;
  due_is = c.least-self-inside.ensures c.args.until c.in-Ok.ensures.site;
}
