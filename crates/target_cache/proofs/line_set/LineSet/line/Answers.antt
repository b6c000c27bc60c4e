use Rattle.std.proofs.Common.{◌≡◌, Some, None, sym, ◌∙◌}
use Rattle.std.specs.List.{position}
use Rattle.target_cache.specs.Lines.{holds}
use Rattle.target_cache.proofs.PlaceLaws.{found_there, not_found}
use Rattle.target_cache.proofs.line_set.LineSet.line.Goals as goal

pub returns-in-Some : goal.returns-in-Some
returns-in-Some c =
    let at : position (holds c.args.block) c.args.self.now.lines ≡ Some c.in-Some.place = sym c.place.ensures.place ∙ c.in-Some.is in
    sym (found_there (holds c.args.block) c.args.self.now.lines c.in-Some.place at ∙ c.line_at.ensures)

pub returns-in-None : goal.returns-in-None
returns-in-None c =
    let gone : position (holds c.args.block) c.args.self.now.lines ≡ None = sym c.place.ensures.place ∙ c.in-None.is in
    sym (not_found (holds c.args.block) c.args.self.now.lines gone)
