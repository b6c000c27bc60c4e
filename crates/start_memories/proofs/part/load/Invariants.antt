use Rattle.std.proofs.Common.{◌*◌}
use Rattle.std.specs.Prelude.{fold}
use Rattle.std.specs.List.{range_with_len, flat_map}
use Rattle.wt_params.specs.Machine.{shared_base}
use Rattle.image_loader.specs.Loading.{with_segment, segments_of}
use Rattle.start_memories.specs.Parts.{IsPartAfter}
use Rattle.start_memories.proofs.part.load.Given as goal

-- the segments of the nodes so far have been laid
abbrev pub invariant-loop-node : goal.invariant-loop-node
invariant-loop-node l =
    IsPartAfter (l.machine.blocks * l.machine.block_bytes) l.start l.fn.part l.part
    (λ memory. fold (with_segment shared_base) memory (flat_map (segments_of l.loaded) (range_with_len 0 l.node)))
