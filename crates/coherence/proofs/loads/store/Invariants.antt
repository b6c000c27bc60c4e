use Rattle.std.proofs.Common.{◌≡◌, ◌≤◌, ◌+◌, ◌-◌}
use Rattle.coherence.specs.Traces.{with_number}
use Rattle.coherence.proofs.loads.store.Given as goal

-- what is left to put makes it what all of it makes
abbrev pub invariant-loop-at : goal.invariant-loop-at
invariant-loop-at l = record {
  from : l.place ≤ l.at;
  rest : with_number l.memory l.at (l.place + l.width - l.at) l.rest ≡ with_number l.fn.memory l.place l.width l.number;
}

abbrev pub decreases-loop-at : goal.decreases-loop-at
decreases-loop-at l = l.end - l.at
