use Rattle.std.proofs.Common.{◌≡◌, ◌<◌, ℕ, length}
use Rattle.image_loader.specs.Loading.{block_of}
use Rattle.start_memories.specs.Start.{block_at}
use Rattle.start_memories.proofs.HomesLaws.{homes_filled}
use Rattle.start_memories.proofs.shared.directory_at_start.Given as goal

-- the blocks so far are filled, and each has the bytes of a block
abbrev pub invariant-loop-place : goal.invariant-loop-place
invariant-loop-place l = record {
  value : l.directory ≡ homes_filled l.machine l.loaded l.node l.place;
  sizes : (place : ℕ) → place < l.place → length (block_of l.loaded (block_at l.machine l.node place)) ≡ l.machine.block_bytes;
}
