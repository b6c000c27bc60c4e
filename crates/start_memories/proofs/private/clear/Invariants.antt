use Rattle.std.proofs.Common.{◌-◌, ◌≡◌, ◌≤◌, length, replicate}
use Rattle.priv_mem.specs.Memory.{overwritten}
use Rattle.start_memories.proofs.private.clear.Given as goal

-- so many zeros have been laid
abbrev pub invariant-loop-done : goal.invariant-loop-done
invariant-loop-done l = record {
  within : l.done ≤ l.count;
  value : l.memory ≡ overwritten l.fn.memory l.at (replicate l.done 0);
  size : length l.memory ≡ length l.fn.memory;
}

abbrev pub decreases-loop-done : goal.decreases-loop-done
decreases-loop-done l = l.count - l.done
