use Rattle.std.proofs.Common.{◌≡◌, length, take, replicate}
use Rattle.std.specs.Prelude.{fold}
use Rattle.image_loader.specs.Loading.{with_segment}
use Rattle.start_memories.proofs.private.private_at_start.Given as goal

-- the segments so far have been laid
abbrev pub invariant-loop-segment : goal.invariant-loop-segment
invariant-loop-segment l = record {
  value : l.memory ≡ fold (with_segment 0) (replicate l.machine.private_bytes 0) (take l.segment-index l.segment-items);
  size : length l.memory ≡ l.machine.private_bytes;
}
