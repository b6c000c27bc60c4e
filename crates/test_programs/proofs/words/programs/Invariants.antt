use Rattle.std.specs.List.{All}
use Rattle.elf_image.specs.Sizes.{HoldsItsBytes}
use Rattle.test_programs.proofs.words.programs.Given as goal

abbrev pub invariant-loop-words : goal.invariant-loop-words
invariant-loop-words l = All HoldsItsBytes l.images.items
