use Rattle.std.proofs.Common.{◌≡◌, ◌++◌, map, take, drop}
use Rattle.std.specs.List.{AllWithin}
use Rattle.engine.specs.Quantum.{AreHandedOut, IsGood, ran_to}
use Rattle.engine.proofs.stations.run_all.Given as goal

-- the stations so far have run, and what they hand out is in the list
abbrev pub invariant-loop-station : goal.invariant-loop-station
invariant-loop-station g l = record {
  ran : l.stations ≡ map (ran_to l.until) (take l.station-index l.fn.stations) ++ drop l.station-index l.fn.stations;
  outs : AreHandedOut l.until (take l.station-index l.fn.stations) l.letters;
  good : AllWithin IsGood l.stations 0 l.station-index;
}
