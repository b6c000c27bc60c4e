use Rattle.std.proofs.Common.{arith}
use Rattle.block_tags.proofs.PackedLaws.{has_byte, tag_written}
use Rattle.block_tags.proofs.table.TagTable.set.Goals as goal

pub index-byte-requires : goal.index-byte-requires
index-byte-requires c =
    let has = has_byte c.self.inside.blocks c.args.block c.self.inside.bytes.items c.args.self.now c.self.view_is c.self.invariant.count c.requires in
    omega (arith, has.1, c.self.inside.bytes.ok)

pub index_mut-requires : goal.index_mut-requires
index_mut-requires c =
    let has = has_byte c.self.inside.blocks c.args.block c.self.inside.bytes.items c.args.self.now c.self.view_is c.self.invariant.count c.requires in
    omega (arith, has.1, c.self.inside.bytes.ok)

pub returns : goal.returns
returns c =
    tag_written c.self.inside.blocks c.args.block c.index-byte.result.now c.with_tag.result c.self.inside.bytes.items c.args.self.now c.args.tag c.self.view_is c.self.invariant.count c.requires c.index-byte.ensures c.with_tag.ensures
