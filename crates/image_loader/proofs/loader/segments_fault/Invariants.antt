use Rattle.std.proofs.Common.{◌≡◌, ◌*◌, take, drop}
use Rattle.std.specs.Prelude.{All}
use Rattle.image_loader.specs.Faults.{segments_fault}
use Rattle.image_loader.specs.Loading.{IsPlaced}
use Rattle.image_loader.proofs.loader.segments_fault.Given as goal

-- none of the segments so far has a fault
abbrev pub invariant-loop-segment : goal.invariant-loop-segment
invariant-loop-segment l = record {
  rest : segments_fault l.machine l.segments ≡ segments_fault l.machine (drop l.segment-index l.segments);
  placed : All (IsPlaced l.machine.private_bytes (l.machine.blocks * l.machine.block_bytes)) (take l.segment-index l.segments);
}
