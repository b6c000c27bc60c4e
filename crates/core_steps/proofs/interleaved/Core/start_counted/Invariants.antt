use Rattle.engine.proofs.StartLemmas.{AreAtStart}
use Rattle.core_steps.proofs.interleaved.Core.start_counted.Given as goal

-- the stations so far are at the start
abbrev pub invariant-loop-number : goal.invariant-loop-number
invariant-loop-number g l = AreAtStart l.machine l.loaded l.traced l.number l.stations.items
