use Rattle.std.proofs.Common.{◌≡◌, ◌*◌, take, drop}
use Rattle.std.specs.Prelude.{All}
use Rattle.image_loader.specs.Faults.{load_fault}
use Rattle.image_loader.specs.Loading.{IsProgram}
use Rattle.image_loader.proofs.loader.first_fault.Given as goal

-- none of the images so far has a fault
abbrev pub invariant-loop-number : goal.invariant-loop-number
invariant-loop-number l = record {
  rest : load_fault l.machine 0 l.images ≡ load_fault l.machine l.number (drop l.number l.images);
  programs : All (IsProgram l.machine.private_bytes (l.machine.blocks * l.machine.block_bytes)) (take l.number l.images);
}
