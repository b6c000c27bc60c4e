use Rattle.std.proofs.Common.{◌≡◌, [], take}
use Rattle.std.specs.List.{filter}
use Rattle.wt_report.specs.Stations.{nodes_of}
use Rattle.coherence.specs.Copies.{is_beside}
use Rattle.coherence.proofs.breaches.first_beside.Given as goal

-- None of the nodes so far holds the block beside the writer.
abbrev pub invariant-loop-station : goal.invariant-loop-station
invariant-loop-station l = filter (is_beside l.block l.writer) (nodes_of (take l.station-index l.stations)) ≡ []
