use Rattle.std.proofs.Common.{sym, ◌∙◌}
use Rattle.wt_report.specs.Stations.{nodes_of}
use Rattle.coherence.proofs.WhoHolds.{first_pair, no_pair}
use Rattle.coherence.proofs.breaches.two_of.Goals as goal

pub returns-in-Some : goal.returns-in-Some
returns-in-Some c = c.first_beside.ensures ∙ first_pair (nodes_of c.args.stations.now) c.args.block c.in-Some.writer (sym c.in-Some.ensures)

pub returns-in-None : goal.returns-in-None
returns-in-None c = sym (no_pair (nodes_of c.args.stations.now) c.args.block (sym c.in-None.ensures))
