use Rattle.std.proofs.Common.{◌*◌, take}
use Rattle.std.specs.Prelude.{fold}
use Rattle.wt_params.specs.Machine.{shared_base}
use Rattle.image_loader.specs.Loading.{with_segment}
use Rattle.start_memories.specs.Parts.{IsPartAfter}
use Rattle.start_memories.proofs.part.lay_image.Given as goal

-- the segments so far have been laid
abbrev pub invariant-loop-segment : goal.invariant-loop-segment
invariant-loop-segment l =
    IsPartAfter (l.machine.blocks * l.machine.block_bytes) l.start l.fn.part l.part
    (λ memory. fold (with_segment shared_base) memory (take l.segment-index l.segment-items))
