use Rattle.std.proofs.Common.{◌≡◌, ◌+◌, ◌*◌, ℕ, List, length, Some, ap, sym, ◌∙◌, arith}
use Rattle.std.specs.List.{copy_within}
use Rattle.target_cache.specs.declared.line.Head.{Head}
use Rattle.target_cache.specs.Lines.{LinesInRoom}
use Rattle.target_cache.specs.Flat.{line_with, bytes_at}
use Rattle.target_cache.proofs.FlatLaws.{place_fits, line_there, place_there, heads_fit, written_back, gap_done}
use Rattle.target_cache.proofs.line_set.LineSet.take_at.Goals as goal

pub block_at-bytes-requires-clause-there : goal.block_at-bytes-requires-clause-there
block_at-bytes-requires-clause-there c =
    let all : length c.as_slice.result.now ≡ length c.self.inside.bytes.items = ap (λ (xs : List ℕ). length xs) c.as_slice.ensures.value in
    omega (arith, (place_fits c.args.place (length c.self.inside.heads.items) c.self.inside.size (length c.self.inside.bytes.items) (place_there c.self.inside.size c.self.inside.heads.items c.self.inside.bytes.items c.args.self.now.lines c.args.place (ap (λ (set : LinesInRoom). set.lines) c.self.view_is) c.requires) (heads_fit (length c.self.inside.heads.items) c.self.inside.size c.self.inside.heads.cap (length c.self.inside.bytes.items) (let len = c.self.inside.heads.ok.0 in let few = c.self.inside.heads.ok.1 in omega arith) c.self.invariant.enough)))

pub remove-head-requires : goal.remove-head-requires
remove-head-requires c =
    let len = c.self.inside.heads.ok.0 in
    omega (arith, (place_there c.self.inside.size c.self.inside.heads.items c.self.inside.bytes.items c.args.self.now.lines c.args.place (ap (λ (set : LinesInRoom). set.lines) c.self.view_is) c.requires))

pub returns-clause-line : goal.returns-clause-line
returns-clause-line c =
    rw (← c.self.view_is)
    (line_there c.self.inside.size c.self.inside.heads.items c.self.inside.bytes.items c.args.place c.remove-head.result (place_there c.self.inside.size c.self.inside.heads.items c.self.inside.bytes.items c.args.self.now.lines c.args.place (ap (λ (set : LinesInRoom). set.lines) c.self.view_is) c.requires)
    ∙ ap (λ (head : Head). Some (line_with head (bytes_at c.self.inside.size c.args.place c.self.inside.bytes.items))) (sym c.remove-head.ensures.value)
    ∙ ap (λ (bytes : List ℕ). Some (line_with c.remove-head.result bytes))
    (sym (c.block_at-bytes.ensures ∙ ap (λ (bytes : List ℕ). bytes_at c.self.inside.size c.args.place bytes) c.as_slice.ensures.value)))

pub returns-clause-lines : goal.returns-clause-lines
returns-clause-lines c =
    let all : length c.as_mut_slice.result.now ≡ length c.self.inside.bytes.items = ap (λ (xs : List ℕ). length xs) c.as_mut_slice.ensures.value in
    let kept = c.close_gap.auto.bytes in
    let len = c.self.inside.bytes.ok.0 in
    let back = written_back c.self.inside.bytes.items c.close_gap.new.bytes c.self.inside.bytes.len len (omega arith) in
    rw (← c.self.view_is, back, c.remove-head.ensures.items)
    (gap_done c.self.inside.size c.self.inside.heads.items c.self.inside.bytes.items c.close_gap.new.bytes c.args.place (place_there c.self.inside.size c.self.inside.heads.items c.self.inside.bytes.items c.args.self.now.lines c.args.place (ap (λ (set : LinesInRoom). set.lines) c.self.view_is) c.requires) (heads_fit (length c.self.inside.heads.items) c.self.inside.size c.self.inside.heads.cap (length c.self.inside.bytes.items) (let len = c.self.inside.heads.ok.0 in let few = c.self.inside.heads.ok.1 in omega arith) c.self.invariant.enough)
    (c.close_gap.ensures ∙ ap (λ (xs : List ℕ). copy_within xs (c.args.place * c.self.inside.size + c.self.inside.size) (length xs) (c.args.place * c.self.inside.size)) c.as_mut_slice.ensures.value))
