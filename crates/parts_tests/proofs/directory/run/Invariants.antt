use Rattle.dir1sw.specs.Homes.{IsHome}
use Rattle.parts_tests.proofs.directory.run.Given as goal

abbrev pub invariant-loop-row : goal.invariant-loop-row
invariant-loop-row g l = IsHome l.directory 0
