use Rattle.std.proofs.Common.{◌≡◌, ap, sym, ◌∙◌, arith}
use Rattle.block_tags.specs.declared.tag.Tag.TheVariants.{Invalid, ReadOnly, Writable}
use Rattle.target_cache.specs.Cached.{Cached, set_of, tag_of, write_of}
use Rattle.target_cache.proofs.SetLaws.{access_inside}
use Rattle.target_cache.proofs.KeptLaws.{Reached, reached, held_are, kept_written, put_written, not_written}
use Rattle.target_cache.proofs.cache.Cache.write.Goals as goal

reached_write : (c : goal.After-index_mut-set) → Reached c.self.inside.machine c.self.inside.tags c.self.inside.sets.items c.args.block c.set-i.result c.index_mut-set.result.now
reached_write c = reached c.self.inside.machine c.self.inside.tags c.self.inside.sets.items c.args.block c.set-i.result c.index_mut-set.result.now c.args.self.now
    c.self.invariant c.self.view_is c.set-i.ensures.set c.set-i.ensures.there c.index_mut-set.ensures.value

pub write-requires-clause-inside : goal.write-requires-clause-inside
write-requires-clause-inside c =
    let r = reached_write c in
    access_inside c.self.inside.machine (set_of c.self.inside.machine c.args.block) c.args.offset c.args.width c.index_mut-set.result.now.lines
    (let same : c.self.inside.machine.block_bytes ≡ c.args.self.now.machine.block_bytes = ap (λ (cache : Cached). cache.machine.block_bytes) c.self.view_is in omega (arith, c.requires.access.inside))
    (held_are _ _ _ _ _ _ r)

pub write-requires-clause-distinct : goal.write-requires-clause-distinct
write-requires-clause-distinct c = let are = held_are _ _ _ _ _ _ (reached_write c) in are.distinct

pub invariant_of-self : goal.invariant_of-self
invariant_of-self c =
    let r : Reached c.self.inside.machine c.self.inside.tags c.self.inside.sets.items c.args.block c.set-i.result c.index_mut-set.result.now =
    reached c.self.inside.machine c.self.inside.tags c.self.inside.sets.items c.args.block c.set-i.result c.index_mut-set.result.now c.args.self.now
    c.self.invariant c.self.view_is c.set-i.ensures.set c.set-i.ensures.there c.index_mut-set.ensures.value in
    kept_written c.self.inside.machine c.self.inside.tags c.self.inside.sets.items c.args.block c.set-i.result c.index_mut-set.result.now c.write.new.self
    c.args.offset c.args.width c.args.value r
    (let same : c.self.inside.machine.block_bytes ≡ c.args.self.now.machine.block_bytes = ap (λ (cache : Cached). cache.machine.block_bytes) c.self.view_is in omega (arith, c.requires.access.inside))
    c.write.ensures.room c.write.ensures.size c.write.ensures.lines

pub returns-in-Writable-clause-after : goal.returns-in-Writable-clause-after
returns-in-Writable-clause-after c =
    let r : Reached c.self.inside.machine c.self.inside.tags c.self.inside.sets.items c.args.block c.set-i.result c.index_mut-set.result.now =
    reached c.self.inside.machine c.self.inside.tags c.self.inside.sets.items c.args.block c.set-i.result c.index_mut-set.result.now c.args.self.now
    c.self.invariant c.self.view_is c.set-i.ensures.set c.set-i.ensures.there c.index_mut-set.ensures.value in
    put_written c.self.inside.machine c.self.inside.tags c.self.inside.sets.items c.args.block c.set-i.result c.index_mut-set.result.now c.write.new.self
    c.args.offset c.args.width c.args.value r c.write.ensures.lines
    (ap (λ (cache : Cached). tag_of cache c.args.block) c.self.view_is ∙ sym c.tag.ensures.tag ∙ c.in-Writable.is)
    ∙ ap (λ (cache : Cached). write_of c.args.block c.args.offset c.args.width c.args.value cache) c.self.view_is

pub returns-in-Invalid-clause-after : goal.returns-in-Invalid-clause-after
returns-in-Invalid-clause-after c =
    not_written c.args.self.now c.args.block c.args.offset c.args.width c.args.value
    (λ (e : tag_of c.args.self.now c.args.block ≡ Writable). let clash : Invalid ≡ Writable = sym c.in-Invalid.is ∙ c.tag.ensures.tag ∙ e in cc)

pub returns-in-ReadOnly-clause-after : goal.returns-in-ReadOnly-clause-after
returns-in-ReadOnly-clause-after c =
    not_written c.args.self.now c.args.block c.args.offset c.args.width c.args.value
    (λ (e : tag_of c.args.self.now c.args.block ≡ Writable). let clash : ReadOnly ≡ Writable = sym c.in-ReadOnly.is ∙ c.tag.ensures.tag ∙ e in cc)
