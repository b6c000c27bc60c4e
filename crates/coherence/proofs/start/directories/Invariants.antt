use Rattle.std.proofs.Common.{◌≡◌, ◌<◌, ℕ, Some, length}
use Rattle.std.specs.Prelude.{slice_get}
use Rattle.start_memories.specs.Start.{homes_of}
use Rattle.coherence.proofs.start.directories.Given as goal

-- the nodes so far
abbrev pub invariant-loop-node : goal.invariant-loop-node
invariant-loop-node l = record {
  count : length l.homes.items ≡ l.node;
  each : (node : ℕ) → node < l.node → slice_get l.homes.items node ≡ Some (homes_of l.machine l.loaded node);
}
