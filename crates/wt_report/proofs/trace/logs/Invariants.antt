use Rattle.std.proofs.Common.{◌≡◌, map, take}
use Rattle.std.specs.Prelude.{All}
use Rattle.quantum.specs.Stations.{StationModel, IsUnbroken, IsLive}
use Rattle.wt_report.proofs.trace.logs.Given as goal

-- The logs of the stations so far are copied, and those stations are sound.
abbrev pub invariant-loop-station : goal.invariant-loop-station
invariant-loop-station l = record {
  copied : l.logs.items ≡ map (λ (station : StationModel). station.node.state.log) (take l.station-index l.stations);
  live : All (λ station. IsUnbroken station → IsLive station) (take l.station-index l.stations);
}
