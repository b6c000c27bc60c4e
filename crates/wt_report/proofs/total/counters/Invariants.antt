use Rattle.std.proofs.Common.{◌≡◌, map, take}
use Rattle.quantum.specs.Stations.{StationModel}
use Rattle.wt_report.proofs.total.counters.Given as goal

-- The counters of the stations so far are in the list.
abbrev pub invariant-loop-station : goal.invariant-loop-station
invariant-loop-station l = l.list.items ≡ map (λ (station : StationModel). station.node.state.counters) (take l.station-index l.stations)
