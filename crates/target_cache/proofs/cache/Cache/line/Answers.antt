use Rattle.std.proofs.Common.{List, ap, ◌∙◌}
use Rattle.std.specs.List.{find}
use Rattle.target_cache.specs.declared.line.Line.{Line}
use Rattle.target_cache.specs.Lines.{holds}
use Rattle.target_cache.specs.Cached.{Cached, line_of, lines_of}
use Rattle.target_cache.proofs.KeptLaws.{reached, held_lines}
use Rattle.target_cache.proofs.cache.Cache.line.Goals as goal

pub returns : goal.returns
unfolding line_of
returns c =
    let same = held_lines _ _ _ _ _ _
    (reached c.self.inside.machine c.self.inside.tags c.self.inside.sets.items c.args.block c.set-set.result c.index.result.now c.args.self.now
    c.self.invariant c.self.view_is c.set-set.ensures.set c.set-set.ensures.there c.index.ensures) in
    c.line.ensures
    ∙ ap (λ (lines : List Line). find (holds c.args.block) lines) (same ∙ ap (λ (cache : Cached). lines_of cache c.args.block) c.self.view_is)
