use Rattle.std.proofs.Common.{◌≡◌, drop, max}
use Rattle.quantum.specs.Outcome.{greatest_time}
use Rattle.engine.specs.Engine.{nodes_of}
use Rattle.engine.proofs.head.last_time.Given as goal

-- the greatest time so far, with that of the stations that are left
abbrev pub invariant-loop-station : goal.invariant-loop-station
invariant-loop-station l = max l.greatest (greatest_time (nodes_of (drop l.station-index l.stations))) ≡ greatest_time (nodes_of l.stations)
