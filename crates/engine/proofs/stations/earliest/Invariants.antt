use Rattle.std.proofs.Common.{◌≡◌, drop}
use Rattle.engine.specs.Quantum.{earliest_of, sooner}
use Rattle.engine.proofs.stations.earliest.Given as goal

-- the least time so far, with that of the stations that are left
abbrev pub invariant-loop-station : goal.invariant-loop-station
invariant-loop-station g l = sooner l.first (earliest_of (drop l.station-index l.stations)) ≡ earliest_of l.stations
