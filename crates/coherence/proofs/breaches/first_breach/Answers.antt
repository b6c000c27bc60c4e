use Rattle.std.proofs.Common.{sym, ◌∙◌}
use Rattle.wt_report.specs.Stations.{nodes_of}
use Rattle.coherence.specs.Copies.{strays, twos}
use Rattle.coherence.proofs.Firsts.{first_behind}
use Rattle.coherence.proofs.breaches.first_breach.Goals as goal

pub returns-in-None : goal.returns-in-None
returns-in-None c =
    c.first_two.ensures
    ∙ sym (first_behind (strays (nodes_of c.args.stations.now)) (twos c.args.machine.now (nodes_of c.args.stations.now)) (sym c.in-None.ensures))
