use Rattle.std.proofs.Common.{◌≡◌, List, ap, sym, ◌∙◌, arith, rules}
use Rattle.std.specs.List.{find}
use Rattle.block_tags.specs.declared.tag.Tag.TheVariants.{Invalid}
use Rattle.target_cache.specs.declared.line.Line.{Line}
use Rattle.target_cache.specs.Lines.{holds}
use Rattle.target_cache.specs.Cached.{Cached, lines_of, line_of, drop_of}
use Rattle.target_cache.proofs.KeptLaws.{reached, held_are, held_lines, kept_dropped, put_dropped, not_dropped}
use Rattle.target_cache.proofs.cache.Cache.drop_block.Goals as goal

pub returns-then-eq-clause-after : goal.returns-then-eq-clause-after
returns-then-eq-clause-after c =
    let is : c.tag.result ≡ Invalid = search rules in
    not_dropped c.args.self.now c.args.block (sym c.tag.ensures.tag ∙ is)

pub take-line-requires : goal.take-line-requires
take-line-requires c =
    let are = held_are _ _ _ _ _ _
    (reached c.self.inside.machine c.self.inside.tags c.self.inside.sets.items c.args.block c.set-i.result c.index_mut-set.result.now c.args.self.now
    c.self.invariant c.self.view_is c.set-i.ensures.set c.set-i.ensures.there c.index_mut-set.ensures.value) in
    are.distinct

pub set-requires : goal.set-requires
set-requires c = omega (arith, c.self.invariant.tagged.count, ap (λ (cache : Cached). cache.machine.blocks) c.self.view_is)

pub invariant_of-self : goal.invariant_of-self
invariant_of-self c =
    rw c.set.ensures
    (kept_dropped c.self.inside.machine c.self.inside.tags c.self.inside.sets.items c.args.block c.set-i.result c.index_mut-set.result.now c.take-line.new.self
    (reached c.self.inside.machine c.self.inside.tags c.self.inside.sets.items c.args.block c.set-i.result c.index_mut-set.result.now c.args.self.now
    c.self.invariant c.self.view_is c.set-i.ensures.set c.set-i.ensures.there c.index_mut-set.ensures.value)
    (omega (arith, ap (λ (cache : Cached). cache.machine.blocks) c.self.view_is))
    c.take-line.ensures.room c.take-line.ensures.size c.take-line.ensures.lines)

pub returns-clause-line : goal.returns-clause-line
unfolding line_of
returns-clause-line c =
    let same = held_lines _ _ _ _ _ _
    (reached c.self.inside.machine c.self.inside.tags c.self.inside.sets.items c.args.block c.set-i.result c.index_mut-set.result.now c.args.self.now
    c.self.invariant c.self.view_is c.set-i.ensures.set c.set-i.ensures.there c.index_mut-set.ensures.value) in
    c.take-line.ensures.line
    ∙ ap (λ (lines : List Line). find (holds c.args.block) lines) (same ∙ ap (λ (cache : Cached). lines_of cache c.args.block) c.self.view_is)

pub returns-clause-after : goal.returns-clause-after
returns-clause-after c =
    put_dropped c.self.inside.machine c.self.inside.tags c.self.inside.sets.items c.args.block c.set-i.result c.index_mut-set.result.now c.take-line.new.self
    (reached c.self.inside.machine c.self.inside.tags c.self.inside.sets.items c.args.block c.set-i.result c.index_mut-set.result.now c.args.self.now
    c.self.invariant c.self.view_is c.set-i.ensures.set c.set-i.ensures.there c.index_mut-set.ensures.value)
    c.take-line.ensures.lines
    ∙ ap (λ (cache : Cached). drop_of c.args.block cache) c.self.view_is
