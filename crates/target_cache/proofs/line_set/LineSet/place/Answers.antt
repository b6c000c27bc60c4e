use Rattle.std.proofs.Common.{List, ap, ◌∙◌}
use Rattle.std.specs.List.{position}
use Rattle.target_cache.specs.declared.line.Head.{Head}
use Rattle.target_cache.specs.declared.line.Line.{Line}
use Rattle.target_cache.specs.Lines.{LinesInRoom, holds}
use Rattle.target_cache.specs.Flat.{is_of}
use Rattle.target_cache.proofs.PlaceLaws.{places_below}
use Rattle.target_cache.proofs.FlatLaws.{place_is}
use Rattle.target_cache.proofs.line_set.LineSet.place.Goals as goal

pub returns-clause-place : goal.returns-clause-place
returns-clause-place c =
    c.place_of.ensures
    ∙ ap (λ (heads : List Head). position (is_of c.args.block) heads) c.as_slice.ensures.value
    ∙ place_is c.args.block c.self.inside.size c.self.inside.heads.items c.self.inside.bytes.items
    ∙ ap (λ (lines : List Line). position (holds c.args.block) lines) (ap (λ (set : LinesInRoom). set.lines) c.self.view_is)

pub returns-clause-there : goal.returns-clause-there
returns-clause-there c =
    places_below (holds c.args.block) c.args.self.now.lines c.place_of.result (returns-clause-place c)
