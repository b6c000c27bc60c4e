use Rattle.std.proofs.Common.{◌≡◌, map}
use Rattle.std.specs.List.{range_with_len}
use Rattle.elf_image.specs.Elf.{header_at}
use Rattle.elf_image.proofs.header.read_program_headers.Given as goal

-- the headers so far
abbrev pub invariant-loop-k : goal.invariant-loop-k
invariant-loop-k l = l.headers.items ≡ map (header_at l.bytes) (range_with_len 0 l.k)
