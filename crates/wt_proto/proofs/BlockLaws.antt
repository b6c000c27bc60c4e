-- What a write of some bytes of a block leaves.
use Rattle.std.proofs.Common.{◌≡◌, ℕ, ◌+◌, ◌-◌, ◌≤◌, List, ◌++◌, length, take, drop, inl, inr, ap, sym, ◌∙◌, subst, arith}
use Rattle.std.proofs.lemmas.Grind.{common_steps}
use Rattle.std.proofs.lemmas.List.{length-take-le, drop-take}
use Rattle.std.proofs.Math.Seq.{take-append-add}
use Rattle.std.specs.List.{splice}
use Rattle.wt_params.specs.Machine.{IsBlockSize}
use Rattle.wt_proto.specs.Blocks.{AreKept}

-- the bytes after a write of new ones from a place on
abbrev written : List ℕ → ℕ → List ℕ → List ℕ
written bytes start new = splice bytes start (start + length new) new

size_at_most : (len : ℕ) → IsBlockSize len → len ≤ 128
size_at_most len (inl is) = omega arith
size_at_most len (inr (inl is)) = omega arith
size_at_most len (inr (inr (inl is))) = omega arith
size_at_most len (inr (inr (inr is))) = omega arith

pub in_room : (bytes : List ℕ) (len : ℕ) → AreKept bytes len → len ≤ length bytes
in_room bytes len kept = omega (arith, size_at_most len kept.size)

pub length-view : (bytes : List ℕ) (len : ℕ) → AreKept bytes len → length (take len bytes) ≡ len
length-view bytes len kept = length-take-le len bytes (in_room bytes len kept)

-- what three lists, one after another, begin with
take_past : (front new back : List ℕ) (n m : ℕ) → length front ≡ n → take (n + (length new + m)) (front ++ (new ++ back)) ≡ front ++ (new ++ take m back)
take_past front new back n m e =
    subst (λ k. take (k + (length new + m)) (front ++ (new ++ back)) ≡ front ++ (new ++ take m back)) e
    (take-append-add front (new ++ back) (length new + m) ∙ ap (λ rest. front ++ rest) (take-append-add new back m))

front_of : (bytes : List ℕ) (start more : ℕ) → take start bytes ≡ take start (take (start + more) bytes)
front_of bytes start more = grind (arith, common_steps)

by_parts : (bytes new : List ℕ) (start rest : ℕ) → start + length new + rest ≤ length bytes → take (start + (length new + rest)) (written bytes start new) ≡ written (take (start + length new + rest) bytes) start new
by_parts bytes new start rest fits =
    let front : length (take start bytes) ≡ start = length-take-le start bytes (omega arith) in
    take_past (take start bytes) new (drop (start + length new) bytes) start rest front
    ∙ ap (λ before. before ++ (new ++ take rest (drop (start + length new) bytes))) (front_of bytes start (length new + rest) ∙ ap (λ n. take start (take n bytes)) (omega arith))
    ∙ ap (λ back. take start (take (start + length new + rest) bytes) ++ (new ++ back)) (sym (drop-take (start + length new) rest bytes))

pub still_kept : (bytes new : List ℕ) (start len : ℕ) → AreKept bytes len → start + length new ≤ len → AreKept (written bytes start new) len
still_kept bytes new start len kept fits =
    let end : start + length new ≤ length bytes = omega (arith, in_room bytes len kept) in
    record { size = kept.size; room = grind (arith, common_steps) }

pub take-written : (bytes new : List ℕ) (start len : ℕ) → AreKept bytes len → start + length new ≤ len → take len (written bytes start new) ≡ written (take len bytes) start new
take-written bytes new start len kept fits =
    let held = in_room bytes len kept in
    let rest = len - start - length new in
    let left : start + (length new + rest) ≡ len = omega arith in
    let right : start + length new + rest ≡ len = omega arith in
    ap (λ n. take n (written bytes start new)) (sym left)
    ∙ by_parts bytes new start rest (omega arith)
    ∙ ap (λ n. written (take n bytes) start new) right
