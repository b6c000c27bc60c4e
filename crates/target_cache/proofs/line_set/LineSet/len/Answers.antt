use Rattle.std.proofs.Common.{length, ap, sym, ◌∙◌}
use Rattle.target_cache.specs.Lines.{LinesInRoom}
use Rattle.target_cache.proofs.FlatLaws.{length-lines_in}
use Rattle.target_cache.proofs.line_set.LineSet.len.Goals as goal

pub returns : goal.returns
returns c =
    c.len.ensures ∙ c.self.inside.heads.ok.0 ∙ sym (length-lines_in c.self.inside.size c.self.inside.heads.items c.self.inside.bytes.items) ∙ ap (λ (set : LinesInRoom). length set.lines) c.self.view_is
