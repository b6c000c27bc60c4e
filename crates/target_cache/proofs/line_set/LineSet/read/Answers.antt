use Rattle.std.proofs.Common.{◌≡◌, Option, Some, None, ap, sym, ◌∙◌}
use Rattle.std.specs.List.{position}
use Rattle.std.specs.Option.{option_map}
use Rattle.target_cache.specs.declared.line.Line.{Line}
use Rattle.target_cache.specs.Lines.{holds, number_in}
use Rattle.target_cache.proofs.PlaceLaws.{found_there, not_found}
use Rattle.target_cache.proofs.line_set.LineSet.read.Goals as goal

pub returns-in-Some : goal.returns-in-Some
returns-in-Some c =
    let at : position (holds c.args.block) c.args.self.now.lines ≡ Some c.in-Some.place = sym c.place.ensures.place ∙ c.in-Some.is in
    sym (ap (λ (line : Option Line). option_map (number_in c.args.offset c.args.width) line) (found_there (holds c.args.block) c.args.self.now.lines c.in-Some.place at) ∙ c.number_at.ensures)

pub returns-in-None : goal.returns-in-None
returns-in-None c =
    let gone : position (holds c.args.block) c.args.self.now.lines ≡ None = sym c.place.ensures.place ∙ c.in-None.is in
    sym (ap (λ (line : Option Line). option_map (number_in c.args.offset c.args.width) line) (not_found (holds c.args.block) c.args.self.now.lines gone))
