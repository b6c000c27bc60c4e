-- Flat bytes as an image. Own.
use Rattle.std.specs.Prelude.{ℕ, List, [], ◌∷◌, length}
use Rattle.elf_image.specs.declared.image.Image.{Image}

-- one segment of these bytes at an address, and the entry there
abbrev pub flat_image : List ℕ → ℕ → Image
flat_image bytes at =
    record { entry = at; segments = record { at = at; bytes = bytes; size = length bytes } ∷ [] }
