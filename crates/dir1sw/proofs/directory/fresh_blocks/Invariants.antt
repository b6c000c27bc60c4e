use Rattle.std.proofs.Common.{◌≡◌, replicate}
use Rattle.dir1sw.specs.Homes.{fresh_block}
use Rattle.dir1sw.proofs.directory.fresh_blocks.Given as goal

abbrev pub invariant-loop-i : goal.invariant-loop-i
invariant-loop-i l = l.blocks.items ≡ replicate l._i (fresh_block l.machine)
