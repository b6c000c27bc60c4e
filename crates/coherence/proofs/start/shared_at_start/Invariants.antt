use Rattle.std.proofs.Common.{◌≡◌, ◌*◌, take}
use Rattle.image_loader.specs.Loading.{shared_of}
use Rattle.coherence.proofs.start.shared_at_start.Given as goal

-- the blocks so far
abbrev pub invariant-loop-block : goal.invariant-loop-block
invariant-loop-block l = l.memory.items ≡ take (l.block * l.machine.block_bytes) (shared_of l.loaded)
