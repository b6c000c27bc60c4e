use Rattle.std.proofs.Common.{◌≡◌, [], ◌++◌, List, map, take, drop}
use Rattle.std.specs.List.{AllWithin}
use Rattle.wt_proto.specs.declared.message.Stamped.{Stamped}
use Rattle.engine.specs.Quantum.{AreHandedOut, IsGood, ran_to}
use Rattle.engine.specs.Inboxes.{posted}
use Rattle.engine.proofs.parts.run_part_counted.Given as goal

-- the stations so far have run, and what they hand out was put in
abbrev pub invariant-loop-station : goal.invariant-loop-station
invariant-loop-station g l = record {
  none_left : l.outs ≡ [];
  letters : List Stamped;
  ran : l.stations ≡ map (ran_to l.until) (take l.station-index l.fn.stations) ++ drop l.station-index l.fn.stations;
  outs : AreHandedOut l.until (take l.station-index l.fn.stations) letters;
  good : AllWithin IsGood l.stations 0 l.station-index;
  passes : l.passes ≡ posted 0 letters l.fn.passes;
}
