use Rattle.std.proofs.Common.{◌≡◌, List, [], ◌∷◌, ◌++◌, length, ap, sym, ◌∙◌, arith}
use Rattle.target_cache.specs.declared.line.Line.{Line}
use Rattle.target_cache.specs.Lines.{LinesInRoom}
use Rattle.target_cache.proofs.LineLaws.{free_way_replaces, free_way_takes, full_set_replaces, full_set_takes}
use Rattle.target_cache.proofs.line_set.LineSet.install.Goals as goal
use Rattle.target_cache.proofs.line_set.LineSet.install.Goals.{then-len-ways, else-len-ways}

pub returns-clause-replaced : goal.returns-clause-replaced
returns-clause-replaced c =
    let size : c.len.result ≡ length c.args.self.now.lines = c.len.ensures in
    elim c.if-len-ways.branch [
      | then-len-ways w ↦ w.replaced-is ∙ sym (free_way_replaces c.args.ways c.args.self.now.lines (let free = w.if-len-ways.true in omega arith))
      | else-len-ways w ↦
          let full = w.if-len-ways.false in
          w.replaced-is ∙ sym w.take_at.ensures.line
          ∙ sym (full_set_replaces c.args.ways c.args.self.now.lines (omega arith))
    ]

pub returns-clause-lines : goal.returns-clause-lines
returns-clause-lines c =
    let size : c.len.result ≡ length c.args.self.now.lines = c.len.ensures in
    c.push.ensures.lines ∙ (elim c.if-len-ways.branch [
      | then-len-ways w ↦
          ap (λ (set : LinesInRoom). set.lines ++ c.args.line ∷ []) w.self-is
          ∙ sym (free_way_takes c.args.ways c.args.line c.args.self.now.lines (let free = w.if-len-ways.true in omega arith))
      | else-len-ways w ↦
          let full = w.if-len-ways.false in
          ap (λ (set : LinesInRoom). set.lines ++ c.args.line ∷ []) w.self-is
          ∙ ap (λ (lines : List Line). lines ++ c.args.line ∷ []) w.take_at.ensures.lines
          ∙ sym (full_set_takes c.args.ways c.args.line c.args.self.now.lines (omega arith))
    ])
