use Rattle.std.proofs.Common.{arith, ap, ◌∙◌, ◌/◌, ◌%◌}
use Rattle.block_tags.specs.Packed.{tag_of}
use Rattle.block_tags.proofs.PackedLaws.{has_byte, tag_read}
use Rattle.block_tags.proofs.table.TagTable.get.Goals as goal

pub index-byte-requires : goal.index-byte-requires
index-byte-requires c =
    let has = has_byte c.self.inside.blocks c.args.block c.self.inside.bytes.items c.args.self.now c.self.view_is c.self.invariant.count c.requires in
    omega (arith, has.1, c.self.inside.bytes.ok)

pub returns : goal.returns
returns c =
    c.tag.ensures ∙ ap (λ worth. tag_of (c.index-byte.result.now / worth % 4)) c.worth.ensures
    ∙ tag_read c.self.inside.blocks c.args.block c.index-byte.result.now c.self.inside.bytes.items c.args.self.now c.self.view_is c.self.invariant.count c.requires c.index-byte.ensures
