use Rattle.std.proofs.Common.{List, subst}
use Rattle.wt_proto.specs.declared.message.Stamped.{Stamped}
use Rattle.quantum.specs.FreeRuns.{AddsOuts}
use Rattle.quantum.proofs.Tails.{all_free, all_handed}
use Rattle.quantum.proofs.station.Station.run_to.Goals as goal

pub returns-clause-outs : goal.returns-clause-outs
returns-clause-outs g c =
    all_handed c.args.until c.args.self.now c.run_into.new.self c.run_into.new.outs c.args.steps.now c.run_into.new.steps
    (subst (λ (list : List Stamped). AddsOuts c.args.until c.args.self.now c.run_into.new.self list c.run_into.new.outs c.args.steps.now c.run_into.new.steps) c.new-outs.ensures c.in_ok-run_into.ensures.outs)

pub returns-clause-free : goal.returns-clause-free
returns-clause-free g c =
    all_free c.args.until c.args.self.now c.run_into.new.self c.run_into.new.outs c.args.steps.now c.run_into.new.steps
    (subst (λ (list : List Stamped). AddsOuts c.args.until c.args.self.now c.run_into.new.self list c.run_into.new.outs c.args.steps.now c.run_into.new.steps) c.new-outs.ensures c.in_ok-run_into.ensures.outs)
