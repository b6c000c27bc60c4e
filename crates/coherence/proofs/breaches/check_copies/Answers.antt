use Rattle.std.proofs.Common.{◌∙◌}
use Rattle.wt_report.specs.Stations.{nodes_of}
use Rattle.coherence.proofs.NoBreach.{no_breach_of_run}
use Rattle.coherence.proofs.breaches.check_copies.Goals as goal

pub returns-clause-coherent : goal.returns-clause-coherent
returns-clause-coherent c = λ run.
    c.first_breach.ensures ∙ no_breach_of_run c.args.machine.now (nodes_of c.args.stations.now) c.width.ensures.machine run
