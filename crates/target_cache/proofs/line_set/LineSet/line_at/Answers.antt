use Rattle.std.proofs.Common.{◌≡◌, ℕ, List, length, Some, ap, sym, ◌∙◌, arith}
use Rattle.target_cache.specs.declared.line.Head.{Head}
use Rattle.target_cache.specs.Lines.{LinesInRoom}
use Rattle.target_cache.specs.Flat.{line_with, bytes_at}
use Rattle.target_cache.proofs.FlatLaws.{place_fits, line_there, place_there, heads_fit}
use Rattle.target_cache.proofs.line_set.LineSet.line_at.Goals as goal

pub index-head-requires : goal.index-head-requires
index-head-requires c =
    let len = c.self.inside.heads.ok.0 in
    omega (arith, (place_there c.self.inside.size c.self.inside.heads.items c.self.inside.bytes.items c.args.self.now.lines c.args.place (ap (λ (set : LinesInRoom). set.lines) c.self.view_is) c.requires))

pub block_at-requires-clause-there : goal.block_at-requires-clause-there
block_at-requires-clause-there c =
    let all : length c.as_slice.result.now ≡ length c.self.inside.bytes.items = ap (λ (xs : List ℕ). length xs) c.as_slice.ensures.value in
    omega (arith, (place_fits c.args.place (length c.self.inside.heads.items) c.self.inside.size (length c.self.inside.bytes.items) (place_there c.self.inside.size c.self.inside.heads.items c.self.inside.bytes.items c.args.self.now.lines c.args.place (ap (λ (set : LinesInRoom). set.lines) c.self.view_is) c.requires) (heads_fit (length c.self.inside.heads.items) c.self.inside.size c.self.inside.heads.cap (length c.self.inside.bytes.items) (let len = c.self.inside.heads.ok.0 in let few = c.self.inside.heads.ok.1 in omega arith) c.self.invariant.enough)))

pub returns : goal.returns
returns c =
    rw (← c.self.view_is)
    (line_there c.self.inside.size c.self.inside.heads.items c.self.inside.bytes.items c.args.place c.index-head.result.now (place_there c.self.inside.size c.self.inside.heads.items c.self.inside.bytes.items c.args.self.now.lines c.args.place (ap (λ (set : LinesInRoom). set.lines) c.self.view_is) c.requires)
    ∙ ap (λ (head : Head). Some (line_with head (bytes_at c.self.inside.size c.args.place c.self.inside.bytes.items))) (sym c.index-head.ensures)
    ∙ ap (λ (bytes : List ℕ). Some (line_with c.index-head.result.now bytes))
    (sym (c.block_at.ensures ∙ ap (λ (bytes : List ℕ). bytes_at c.self.inside.size c.args.place bytes) c.as_slice.ensures.value)))
