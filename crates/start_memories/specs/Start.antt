-- What stands in a node's memories at the start: its private memory is `private_of` of image_loader, and its directory
-- has the memory of each block whose home it is. Own.
use Rattle.std.specs.Prelude.{ℕ, ◌+◌, ◌*◌, map}
use Rattle.std.specs.List.{range_with_len}
use Rattle.wt_params.specs.declared.parts.MachineParts.{MachineParts}
use Rattle.dir1sw.specs.declared.home.HomeBlock.{HomeBlock}
use Rattle.dir1sw.specs.Table.{with_memory}
use Rattle.dir1sw.specs.Homes.{Homes, count_of, fresh_block, start_of}
use Rattle.image_loader.specs.Images.{LoadedImages}
use Rattle.image_loader.specs.Loading.{block_of}

-- block b stands at place b / nodes of its home b % nodes, so this is the block at a place of a node's directory
abbrev pub block_at : MachineParts → ℕ → ℕ → ℕ
block_at machine node place = node + place * machine.nodes

-- a block at the start: nobody holds or awaits a copy, and its memory is what loading leaves there
abbrev pub block_at_start : MachineParts → LoadedImages → ℕ → HomeBlock
block_at_start machine loaded block = with_memory (block_of loaded block) (fresh_block machine)

-- the directory of a node at the start, after the images were loaded
abbrev pub homes_of : MachineParts → LoadedImages → ℕ → Homes
homes_of machine loaded node =
    record (start_of machine node) {
      blocks = map (λ place. block_at_start machine loaded (block_at machine node place)) (range_with_len 0 (count_of machine node));
    }
