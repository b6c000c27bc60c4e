use Rattle.std.proofs.Common.{◌≡◌, ◌≤◌, ◌+◌, ◌*◌, ℕ, List, length, ap, sym, subst, ◌∙◌, arith}
use Rattle.std.specs.List.{All}
use Rattle.priv_mem.specs.Memory.{low_bytes, overwritten}
use Rattle.target_cache.specs.declared.line.Line.{Line}
use Rattle.target_cache.specs.Lines.{LinesInRoom}
use Rattle.target_cache.proofs.FlatLaws.{place_fits, place_there, heads_fit, access_there, written_back, write_done}
use Rattle.target_cache.proofs.line_set.LineSet.write_at.Goals as goal

pub write_at-requires-clause-there : goal.write_at-requires-clause-there
write_at-requires-clause-there c =
    let all : length c.as_mut_slice.result.now ≡ length c.self.inside.bytes.items = ap (λ (xs : List ℕ). length xs) c.as_mut_slice.ensures.value in
    omega (arith, (place_fits c.args.place (length c.self.inside.heads.items) c.self.inside.size (length c.self.inside.bytes.items) (place_there c.self.inside.size c.self.inside.heads.items c.self.inside.bytes.items c.args.self.now.lines c.args.place (ap (λ (set : LinesInRoom). set.lines) c.self.view_is) c.requires.there) (heads_fit (length c.self.inside.heads.items) c.self.inside.size c.self.inside.heads.cap (length c.self.inside.bytes.items) (let len = c.self.inside.heads.ok.0 in let few = c.self.inside.heads.ok.1 in omega arith) c.self.invariant.enough)))

pub write_at-requires-clause-inside : goal.write_at-requires-clause-inside
write_at-requires-clause-inside c =
    access_there c.self.inside.size c.self.inside.heads.items c.self.inside.bytes.items c.args.place c.args.offset c.args.width (place_there c.self.inside.size c.self.inside.heads.items c.self.inside.bytes.items c.args.self.now.lines c.args.place (ap (λ (set : LinesInRoom). set.lines) c.self.view_is) c.requires.there)
    (place_fits c.args.place (length c.self.inside.heads.items) c.self.inside.size (length c.self.inside.bytes.items) (place_there c.self.inside.size c.self.inside.heads.items c.self.inside.bytes.items c.args.self.now.lines c.args.place (ap (λ (set : LinesInRoom). set.lines) c.self.view_is) c.requires.there) (heads_fit (length c.self.inside.heads.items) c.self.inside.size c.self.inside.heads.cap (length c.self.inside.bytes.items) (let len = c.self.inside.heads.ok.0 in let few = c.self.inside.heads.ok.1 in omega arith) c.self.invariant.enough))
    (subst (λ (lines : List Line). All (λ (line : Line). c.args.offset + c.args.width ≤ length line.bytes) lines) (sym (ap (λ (set : LinesInRoom). set.lines) c.self.view_is)) c.requires.inside)

pub returns-clause-lines : goal.returns-clause-lines
returns-clause-lines c =
    let all : length c.as_mut_slice.result.now ≡ length c.self.inside.bytes.items = ap (λ (xs : List ℕ). length xs) c.as_mut_slice.ensures.value in
    let kept = c.write_at.auto.bytes in
    let len = c.self.inside.bytes.ok.0 in
    let back = written_back c.self.inside.bytes.items c.write_at.new.bytes c.self.inside.bytes.len len (omega arith) in
    let inside = access_there c.self.inside.size c.self.inside.heads.items c.self.inside.bytes.items c.args.place c.args.offset c.args.width (place_there c.self.inside.size c.self.inside.heads.items c.self.inside.bytes.items c.args.self.now.lines c.args.place (ap (λ (set : LinesInRoom). set.lines) c.self.view_is) c.requires.there)
    (place_fits c.args.place (length c.self.inside.heads.items) c.self.inside.size (length c.self.inside.bytes.items) (place_there c.self.inside.size c.self.inside.heads.items c.self.inside.bytes.items c.args.self.now.lines c.args.place (ap (λ (set : LinesInRoom). set.lines) c.self.view_is) c.requires.there) (heads_fit (length c.self.inside.heads.items) c.self.inside.size c.self.inside.heads.cap (length c.self.inside.bytes.items) (let len = c.self.inside.heads.ok.0 in let few = c.self.inside.heads.ok.1 in omega arith) c.self.invariant.enough))
    (subst (λ (lines : List Line). All (λ (line : Line). c.args.offset + c.args.width ≤ length line.bytes) lines) (sym (ap (λ (set : LinesInRoom). set.lines) c.self.view_is)) c.requires.inside) in
    rw (← c.self.view_is, back)
    (write_done c.self.inside.size c.self.inside.heads.items c.self.inside.bytes.items c.write_at.new.bytes c.args.place c.args.offset c.args.width c.args.value (place_there c.self.inside.size c.self.inside.heads.items c.self.inside.bytes.items c.args.self.now.lines c.args.place (ap (λ (set : LinesInRoom). set.lines) c.self.view_is) c.requires.there) (heads_fit (length c.self.inside.heads.items) c.self.inside.size c.self.inside.heads.cap (length c.self.inside.bytes.items) (let len = c.self.inside.heads.ok.0 in let few = c.self.inside.heads.ok.1 in omega arith) c.self.invariant.enough)
    inside
    (c.write_at.ensures ∙ ap (λ (xs : List ℕ). overwritten xs (c.args.place * c.self.inside.size + c.args.offset) (low_bytes c.args.width c.args.value)) c.as_mut_slice.ensures.value))
