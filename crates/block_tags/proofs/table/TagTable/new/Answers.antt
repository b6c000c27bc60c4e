use Rattle.std.proofs.Common.{rules}
use Rattle.block_tags.proofs.PackedLaws.{none_held}
use Rattle.block_tags.proofs.table.TagTable.new.Goals as goal

pub returns : goal.returns
returns c = search (rules, none_held)
