use Rattle.std.proofs.Common.{◌≡◌, [], set, get_or, false, Option, Some, None, sym, subst, ◌∙◌}
use Rattle.std.specs.List.{position, slice_get}
use Rattle.std.proofs.lemmas.Option.{slice_get-get_or}
use Rattle.std.specs.Prelude.{IfSome}
use Rattle.target_cache.specs.declared.line.Line.{Line}
use Rattle.target_cache.specs.Lines.{holds, written_line, with_written}
use Rattle.target_cache.proofs.PlaceLaws.{place_below, not_found, changed, all_same, none_passes}
use Rattle.target_cache.proofs.line_set.LineSet.write.Goals as goal

pub returns-in-Some-clause-lines : goal.returns-in-Some-clause-lines
unfolding with_written
returns-in-Some-clause-lines c =
    let at : position (holds c.args.block) c.args.self.now.lines ≡ Some c.in-Some.place = sym c.place.ensures.place ∙ c.in-Some.is in
    let line : Line = record { block = 0; writable = false; bytes = [] } in
    let is : slice_get c.args.self.now.lines c.in-Some.place ≡ Some (get_or c.args.self.now.lines c.in-Some.place line) =
    slice_get-get_or c.args.self.now.lines c.in-Some.place line (place_below (holds c.args.block) c.args.self.now.lines c.in-Some.place at) in
    subst (λ (o : Option Line). IfSome o (λ line. c.write_at.new.self.lines ≡ set c.args.self.now.lines c.in-Some.place (written_line c.args.offset c.args.width c.args.value line))) is c.write_at.ensures.lines
    ∙ changed (holds c.args.block) (written_line c.args.offset c.args.width c.args.value) c.args.self.now.lines c.in-Some.place line at (c.requires.distinct c.args.block)

pub returns-in_default-clause-lines : goal.returns-in_default-clause-lines
unfolding with_written
returns-in_default-clause-lines c =
    let gone : position (holds c.args.block) c.args.self.now.lines ≡ None = sym c.place.ensures.place ∙ c.in_default.is in
    sym (all_same (holds c.args.block) (written_line c.args.offset c.args.width c.args.value) c.args.self.now.lines (none_passes (holds c.args.block) c.args.self.now.lines (not_found (holds c.args.block) c.args.self.now.lines gone)))
