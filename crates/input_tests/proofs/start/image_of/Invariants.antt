use Rattle.std.specs.Prelude.{All}
use Rattle.elf_image.specs.Sizes.{FitsItsSize}
use Rattle.input_tests.proofs.start.image_of.Given as goal

abbrev pub invariant-loop-row : goal.invariant-loop-row
invariant-loop-row l = All FitsItsSize l.segments.items
