use Rattle.std.proofs.Common.{◌≡◌, ◌≤◌, ◌+◌, ℕ, List, length, false, Some, ap, sym, subst, ◌∙◌, arith}
use Rattle.std.specs.List.{All}
use Rattle.std.specs.Prelude.{slice_range}
use Rattle.priv_mem.specs.Memory.{little_endian}
use Rattle.target_cache.specs.declared.line.Line.{Line}
use Rattle.target_cache.specs.Lines.{LinesInRoom}
use Rattle.target_cache.specs.Flat.{bytes_at}
use Rattle.target_cache.proofs.FlatLaws.{place_fits, line_there, place_there, heads_fit, access_there}
use Rattle.target_cache.proofs.line_set.LineSet.number_at.Goals as goal

pub number_at-requires-clause-there : goal.number_at-requires-clause-there
number_at-requires-clause-there c =
    let all : length c.as_slice.result.now ≡ length c.self.inside.bytes.items = ap (λ (xs : List ℕ). length xs) c.as_slice.ensures.value in
    omega (arith, (place_fits c.args.place (length c.self.inside.heads.items) c.self.inside.size (length c.self.inside.bytes.items) (place_there c.self.inside.size c.self.inside.heads.items c.self.inside.bytes.items c.args.self.now.lines c.args.place (ap (λ (set : LinesInRoom). set.lines) c.self.view_is) c.requires.there) (heads_fit (length c.self.inside.heads.items) c.self.inside.size c.self.inside.heads.cap (length c.self.inside.bytes.items) (let len = c.self.inside.heads.ok.0 in let few = c.self.inside.heads.ok.1 in omega arith) c.self.invariant.enough)))

pub number_at-requires-clause-inside : goal.number_at-requires-clause-inside
number_at-requires-clause-inside c =
    access_there c.self.inside.size c.self.inside.heads.items c.self.inside.bytes.items c.args.place c.args.offset c.args.width (place_there c.self.inside.size c.self.inside.heads.items c.self.inside.bytes.items c.args.self.now.lines c.args.place (ap (λ (set : LinesInRoom). set.lines) c.self.view_is) c.requires.there)
    (place_fits c.args.place (length c.self.inside.heads.items) c.self.inside.size (length c.self.inside.bytes.items) (place_there c.self.inside.size c.self.inside.heads.items c.self.inside.bytes.items c.args.self.now.lines c.args.place (ap (λ (set : LinesInRoom). set.lines) c.self.view_is) c.requires.there) (heads_fit (length c.self.inside.heads.items) c.self.inside.size c.self.inside.heads.cap (length c.self.inside.bytes.items) (let len = c.self.inside.heads.ok.0 in let few = c.self.inside.heads.ok.1 in omega arith) c.self.invariant.enough))
    (subst (λ (lines : List Line). All (λ (line : Line). c.args.offset + c.args.width ≤ length line.bytes) lines) (sym (ap (λ (set : LinesInRoom). set.lines) c.self.view_is)) c.requires.inside)

pub returns : goal.returns
returns c =
    rw (← c.self.view_is, line_there c.self.inside.size c.self.inside.heads.items c.self.inside.bytes.items c.args.place (record { block = 0; writable = false }) (place_there c.self.inside.size c.self.inside.heads.items c.self.inside.bytes.items c.args.self.now.lines c.args.place (ap (λ (set : LinesInRoom). set.lines) c.self.view_is) c.requires.there))
    (ap Some (sym (c.number_at.ensures
    ∙ ap (λ (bytes : List ℕ). little_endian (slice_range (bytes_at c.self.inside.size c.args.place bytes) c.args.offset (c.args.offset + c.args.width))) c.as_slice.ensures.value)))
