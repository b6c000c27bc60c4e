use Rattle.std.proofs.Common.{◌≡◌, [], take}
use Rattle.std.specs.List.{filter}
use Rattle.wt_report.specs.Stations.{nodes_of}
use Rattle.coherence.specs.Copies.{writes}
use Rattle.coherence.proofs.breaches.first_writer.Given as goal

-- None of the nodes so far may write the block.
abbrev pub invariant-loop-station : goal.invariant-loop-station
invariant-loop-station l = filter (writes l.block) (nodes_of (take l.station-index l.stations)) ≡ []
