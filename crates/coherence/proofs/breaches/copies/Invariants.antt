use Rattle.std.proofs.Common.{◌≡◌, take}
use Rattle.wt_report.specs.Stations.{nodes_of}
use Rattle.coherence.specs.Copies.{readers_of, writers_of}
use Rattle.coherence.proofs.breaches.copies.Given as goal

-- The holders among the nodes so far are in the sets.
abbrev pub invariant-loop-station : goal.invariant-loop-station
invariant-loop-station l = record {
  writers : l.copies.writers ≡ writers_of (nodes_of (take l.station-index l.stations)) l.block;
  readers : l.copies.readers ≡ readers_of (nodes_of (take l.station-index l.stations)) l.block;
}
