-- A small worked example of loading, for the definitions to be compared with. Own.
use Rattle.std.specs.Prelude.{ℕ, ◌+◌, List, [], ◌∷◌}
use Rattle.wt_params.specs.Machine.{shared_base}
use Rattle.elf_image.specs.declared.image.Segment.{Segment}
use Rattle.image_loader.specs.Images.{LoadedImages}

abbrev pub segment : ℕ → List ℕ → ℕ → Segment
segment at bytes size = record { at = at; bytes = bytes; size = size }

-- two images for two nodes with 8 bytes of private and 8 of shared memory: the first lays a byte over another one of its
-- own, and the second lays bytes and zeros over those of the first in shared memory
abbrev pub two_images : LoadedImages
two_images = record {
  nodes = 2;
  private_bytes = 8;
  block_bytes = 4;
  blocks = 2;
  images =
      record {
        entry = 0;
        segments =
            segment 1 (1 ∷ 2 ∷ 3 ∷ []) 5 ∷ segment 2 (9 ∷ []) 1 ∷ segment (shared_base + 1) (5 ∷ 6 ∷ 7 ∷ 4 ∷ []) 5
            ∷ segment (shared_base + 7) (6 ∷ []) 1
            ∷ [];
      }
      ∷ record { entry = 4; segments = segment 7 (7 ∷ []) 1 ∷ segment (shared_base + 2) (8 ∷ []) 4 ∷ [] }
      ∷ [];
}
