use Rattle.std.proofs.Common.{◌≡◌, List, ap, ◌∙◌, arith}
use Rattle.std.specs.List.{find}
use Rattle.std.specs.Option.{option_map}
use Rattle.target_cache.specs.declared.line.Line.{Line}
use Rattle.target_cache.specs.Lines.{holds, number_in}
use Rattle.target_cache.specs.Cached.{Cached, set_of, line_of, lines_of}
use Rattle.target_cache.proofs.SetLaws.{access_inside}
use Rattle.target_cache.proofs.KeptLaws.{reached, held_are, held_lines}
use Rattle.target_cache.proofs.cache.Cache.read.Goals as goal

pub read-requires-clause-inside : goal.read-requires-clause-inside
read-requires-clause-inside c =
    access_inside c.self.inside.machine (set_of c.self.inside.machine c.args.block) c.args.offset c.args.width c.index.result.now.lines
    (let same : c.self.inside.machine.block_bytes ≡ c.args.self.now.machine.block_bytes = ap (λ (cache : Cached). cache.machine.block_bytes) c.self.view_is in omega (arith, c.requires.access.inside))
    (held_are _ _ _ _ _ _
    (reached c.self.inside.machine c.self.inside.tags c.self.inside.sets.items c.args.block c.set-set.result c.index.result.now c.args.self.now
    c.self.invariant c.self.view_is c.set-set.ensures.set c.set-set.ensures.there c.index.ensures))

pub returns : goal.returns
unfolding line_of
returns c =
    let same = held_lines _ _ _ _ _ _
    (reached c.self.inside.machine c.self.inside.tags c.self.inside.sets.items c.args.block c.set-set.result c.index.result.now c.args.self.now
    c.self.invariant c.self.view_is c.set-set.ensures.set c.set-set.ensures.there c.index.ensures) in
    c.read.ensures
    ∙ ap (λ (lines : List Line). option_map (number_in c.args.offset c.args.width) (find (holds c.args.block) lines)) (same ∙ ap (λ (cache : Cached). lines_of cache c.args.block) c.self.view_is)
