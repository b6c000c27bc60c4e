use Rattle.std.proofs.Common.{◌≡◌, take}
use Rattle.engine.specs.Heads.{events_in_all}
use Rattle.engine.proofs.head.events.Given as goal

abbrev pub invariant-loop-station : goal.invariant-loop-station
invariant-loop-station l = l.events ≡ events_in_all (take l.station-index l.stations)
