use Rattle.engine.proofs.StartLemmas.{AreAtStart}
use Rattle.engine.proofs.engine.Engine.new.Given as goal

-- the stations so far are at the start
abbrev pub invariant-loop-number : goal.invariant-loop-number
invariant-loop-number l = AreAtStart l.machine l.loaded l.traced l.number l.stations.items
