use Rattle.std.proofs.Common.{◌≡◌, [], take}
use Rattle.std.specs.List.{filter}
use Rattle.wt_report.specs.Stations.{nodes_of}
use Rattle.coherence.specs.Copies.{is_stray}
use Rattle.coherence.proofs.breaches.first_stray.Given as goal

-- No stray message came to any of the nodes so far.
abbrev pub invariant-loop-station : goal.invariant-loop-station
invariant-loop-station l = filter is_stray (nodes_of (take l.station-index l.stations)) ≡ []
