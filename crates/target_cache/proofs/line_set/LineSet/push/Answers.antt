use Rattle.std.proofs.Common.{◌≡◌, ◌<◌, ◌*◌, ℕ, List, length, ap, sym, ◌∙◌, arith}
use Rattle.priv_mem.specs.Memory.{overwritten}
use Rattle.target_cache.specs.declared.line.Head.{Head}
use Rattle.target_cache.specs.Lines.{LinesInRoom}
use Rattle.target_cache.proofs.FlatLaws.{place_fits, length-lines_in, written_back, lines_added}
use Rattle.target_cache.proofs.line_set.LineSet.push.Goals as goal

pub put_block-requires-clause-there : goal.put_block-requires-clause-there
put_block-requires-clause-there c =
    let there : length c.self.inside.heads.items < c.self.inside.heads.cap = omega (arith, c.requires.room, length-lines_in c.self.inside.size c.self.inside.heads.items c.self.inside.bytes.items, ap (λ (set : LinesInRoom). length set.lines) c.self.view_is, ap (λ (set : LinesInRoom). set.room) c.self.view_is) in
    let len : c.len.result ≡ length c.self.inside.heads.items = c.len.ensures ∙ c.self.inside.heads.ok.0 in
    let all : length c.as_mut_slice.result.now ≡ length c.self.inside.bytes.items = ap (λ (xs : List ℕ). length xs) c.as_mut_slice.ensures.value in
    omega (arith, place_fits c.len.result c.self.inside.heads.cap c.self.inside.size (length c.self.inside.bytes.items) (omega arith) c.self.invariant.enough)

pub push_reserved-requires : goal.push_reserved-requires
push_reserved-requires c =
    let there : length c.self.inside.heads.items < c.self.inside.heads.cap = omega (arith, c.requires.room, length-lines_in c.self.inside.size c.self.inside.heads.items c.self.inside.bytes.items, ap (λ (set : LinesInRoom). length set.lines) c.self.view_is, ap (λ (set : LinesInRoom). set.room) c.self.view_is) in
    let len = c.self.inside.heads.ok.0 in
    omega arith

pub returns-clause-lines : goal.returns-clause-lines
returns-clause-lines c =
    let there : length c.self.inside.heads.items < c.self.inside.heads.cap = omega (arith, c.requires.room, length-lines_in c.self.inside.size c.self.inside.heads.items c.self.inside.bytes.items, ap (λ (set : LinesInRoom). length set.lines) c.self.view_is, ap (λ (set : LinesInRoom). set.room) c.self.view_is) in
    let head : Head = record { block = c.args.line.now.block; writable = c.args.line.now.writable } in
    let count : c.len.result ≡ length c.self.inside.heads.items = c.len.ensures ∙ c.self.inside.heads.ok.0 in
    let all : length c.as_mut_slice.result.now ≡ length c.self.inside.bytes.items = ap (λ (xs : List ℕ). length xs) c.as_mut_slice.ensures.value in
    let kept = c.put_block.auto.bytes in
    let len = c.self.inside.bytes.ok.0 in
    let back = written_back c.self.inside.bytes.items c.put_block.new.bytes c.self.inside.bytes.len len (omega arith) in
    let size : c.self.inside.size ≡ c.args.self.now.size = ap (λ (set : LinesInRoom). set.size) c.self.view_is in
    let put : c.put_block.new.bytes ≡ overwritten c.self.inside.bytes.items (length c.self.inside.heads.items * c.self.inside.size) c.args.line.now.bytes =
    c.put_block.ensures
    ∙ ap (λ (n : ℕ). overwritten c.as_mut_slice.result.now (n * c.self.inside.size) c.args.line.now.bytes) count
    ∙ ap (λ (xs : List ℕ). overwritten xs (length c.self.inside.heads.items * c.self.inside.size) c.args.line.now.bytes) c.as_mut_slice.ensures.value in
    rw (← c.self.view_is, back, c.push_reserved.ensures.items, put)
    (lines_added c.self.inside.size c.self.inside.heads.items c.self.inside.bytes.items c.args.line.now.bytes head (c.requires.size ∙ sym size)
    (place_fits (length c.self.inside.heads.items) c.self.inside.heads.cap c.self.inside.size (length c.self.inside.bytes.items) there c.self.invariant.enough))
