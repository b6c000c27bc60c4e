use Rattle.std.proofs.Common.{◌≡◌, ◌-◌, length, drop}
use Rattle.coherence.specs.Traces.{first_wrong}
use Rattle.coherence.specs.Loads.{known_first, known_before}
use Rattle.coherence.proofs.loads.first_wrong_load.Given as goal

-- the records so far are right, and memory is as they leave it
abbrev pub invariant-loop-item : goal.invariant-loop-item
invariant-loop-item l = record {
  rest : first_wrong l.place (known_before l.fn.memory l.log l.place) (drop l.place l.log) ≡ first_wrong 0 (known_first l.fn.memory) l.log;
  memory : l.memory ≡ (known_before l.fn.memory l.log l.place).memory;
}

abbrev pub decreases-loop-item : goal.decreases-loop-item
decreases-loop-item l = length l.log - l.place
