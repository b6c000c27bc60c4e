use Rattle.std.proofs.Common.{◌≡◌, ◌+◌, map, take}
use Rattle.std.specs.Prelude.{filter, All}
use Rattle.elf_image.specs.Elf.{is_loaded, segment_of}
use Rattle.elf_image.specs.Sizes.{FitsItsSize, bytes_in, most_bytes}
use Rattle.elf_image.proofs.elf.load_segments.Given as goal

-- the segments of the headers so far, each with room for its bytes, and what room is left for others
abbrev pub invariant-loop-header : goal.invariant-loop-header
invariant-loop-header l = record {
  value : l.segments.items ≡ map (segment_of l.bytes) (filter is_loaded (take l.header-index l.headers));
  sizes : All FitsItsSize l.segments.items;
  room : bytes_in l.segments.items + l.room ≡ most_bytes;
}
