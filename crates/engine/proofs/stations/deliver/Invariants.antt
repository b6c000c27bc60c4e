use Rattle.std.proofs.Common.{◌≡◌, length}
use Rattle.std.specs.List.{All}
use Rattle.engine.specs.Quantum.{IsGood, MayDeliver, delivered}
use Rattle.engine.proofs.stations.deliver.Given as goal

-- what is left may be given, and comes to the same as all from the start
abbrev pub invariant-loop-letter : goal.invariant-loop-letter
invariant-loop-letter g l = record {
  may : MayDeliver l.letters l.stations;
  same : delivered l.letters l.stations ≡ delivered l.fn.letters l.fn.stations;
  good : All IsGood l.stations;
}

abbrev pub decreases-loop-letter : goal.decreases-loop-letter
decreases-loop-letter g l = length l.letters
