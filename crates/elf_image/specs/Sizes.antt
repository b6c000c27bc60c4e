-- How many bytes an image has. Own.
use Rattle.std.specs.Prelude.{ℕ, ◌≤◌, List, length, All}
use Rattle.std.specs.List.{sum_by}
use Rattle.elf_image.specs.declared.image.Image.{Image}
use Rattle.elf_image.specs.declared.image.Segment.{Segment}

-- a segment has no more bytes of its own than its size
abbrev pub FitsItsSize : Segment → Type 0
FitsItsSize segment = length segment.bytes ≤ segment.size

-- the same of all segments
abbrev pub HoldsItsBytes : Image → Type 0
HoldsItsBytes image = All FitsItsSize image.segments

-- how many bytes of their file some segments have together
abbrev pub bytes_in : List Segment → ℕ
bytes_in segments = sum_by (λ segment. length segment.bytes) segments

-- no image has more than these; no machine has memory for as many
abbrev pub most_bytes : ℕ
most_bytes = 67108864
