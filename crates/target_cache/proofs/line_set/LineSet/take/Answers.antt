use Rattle.std.proofs.Common.{◌≡◌, Some, None, sym, ◌∙◌}
use Rattle.std.specs.List.{position}
use Rattle.target_cache.specs.Lines.{holds, without}
use Rattle.target_cache.proofs.PlaceLaws.{found_there, not_found, none_passes, taken_out, all_kept}
use Rattle.target_cache.proofs.line_set.LineSet.take.Goals as goal

pub returns-in-Some-clause-line : goal.returns-in-Some-clause-line
returns-in-Some-clause-line c =
    let at : position (holds c.args.block) c.args.self.now.lines ≡ Some c.in-Some.place = sym c.place.ensures.place ∙ c.in-Some.is in
    sym (found_there (holds c.args.block) c.args.self.now.lines c.in-Some.place at ∙ c.take_at.ensures.line)

pub returns-in-Some-clause-lines : goal.returns-in-Some-clause-lines
unfolding without
returns-in-Some-clause-lines c =
    let at : position (holds c.args.block) c.args.self.now.lines ≡ Some c.in-Some.place = sym c.place.ensures.place ∙ c.in-Some.is in
    c.take_at.ensures.lines ∙ taken_out (holds c.args.block) c.args.self.now.lines c.in-Some.place at (c.requires c.args.block)

pub returns-in-None-clause-line : goal.returns-in-None-clause-line
returns-in-None-clause-line c =
    let gone : position (holds c.args.block) c.args.self.now.lines ≡ None = sym c.place.ensures.place ∙ c.in-None.is in
    sym (not_found (holds c.args.block) c.args.self.now.lines gone)

pub returns-in-None-clause-lines : goal.returns-in-None-clause-lines
unfolding without
returns-in-None-clause-lines c =
    let gone : position (holds c.args.block) c.args.self.now.lines ≡ None = sym c.place.ensures.place ∙ c.in-None.is in
    sym (all_kept (holds c.args.block) c.args.self.now.lines (none_passes (holds c.args.block) c.args.self.now.lines (not_found (holds c.args.block) c.args.self.now.lines gone)))
