-- What the bytes of lines, one behind another, give and become.
use Rattle.std.proofs.Common.{◌≡◌, ℕ, zero, suc, ◌+◌, ◌-◌, ◌*◌, ◌<◌, ◌≤◌, false, cond, eqb, List, [], ◌∷◌, ◌++◌, length, take, drop, get_or, set, Some, None, refl, ap, sym, ◌∙◌, subst, inl, inr, arith, ltb, suc-mul, zero-mul, mul-le-mul_right, take-take, drop-drop, length-append}
use Rattle.std.specs.List.{All, position, position_or_len, remove, slice_get, copy_within}
use Rattle.std.proofs.lemmas.Option.{slice_get-get_or}
use Rattle.std.specs.Prelude.{slice_range, IfSome}
use Rattle.std.proofs.lemmas.Bool.{cases_Bool}
use Rattle.std.proofs.lemmas.List.{drop-take, length-take-le, length-drop, take-append-le, drop-append-le, take_at}
use Rattle.std.proofs.lemmas.List.Edits.{paste_all}
use Rattle.std.proofs.lemmas.Slice.{drop-put_mid}
use Rattle.std.proofs.Math.Seq.{take-append-add}
use Rattle.priv_mem.specs.Memory.{overwritten, low_bytes}
use Rattle.priv_mem.proofs.MemoryLaws.{length-low_bytes}
use Rattle.target_cache.specs.declared.line.Head.{Head}
use Rattle.target_cache.specs.declared.line.Line.{Line}
use Rattle.target_cache.specs.Lines.{LinesInRoom, holds, written_line}
use Rattle.target_cache.specs.Flat.{is_of, line_with, lines_in, bytes_at}

-- where the bytes of a line lie
pub place_fits : (place count size room : ℕ) → place < count → count * size ≤ room → place * size + size ≤ room
place_fits place count size room below fits =
    let less : suc place * size ≤ count * size = mul-le-mul_right size (omega arith) in
    let is : suc place * size ≡ place * size + size = suc-mul place size in
    omega arith

pub next_at : (place size : ℕ) → suc place * size ≡ size + place * size
next_at place size = let is : suc place * size ≡ place * size + size = suc-mul place size in omega arith

-- a part of a line is a part of all the bytes
pub part_of_line : (bytes : List ℕ) (size at offset width : ℕ) → offset + width ≤ size →
    slice_range (take size (drop at bytes)) offset (offset + width) ≡ slice_range bytes (at + offset) (at + offset + width)
part_of_line bytes size at offset width inside =
    let rest = size - offset in
    let whole : size ≡ offset + rest = omega arith in
    let one : offset + width - offset ≡ width = omega arith in
    let two : width ≡ at + offset + width - (at + offset) = omega arith in
    ap (λ n. take n (drop offset (take size (drop at bytes)))) one
    ∙ ap (λ n. take width (drop offset (take n (drop at bytes)))) whole
    ∙ ap (λ xs. take width xs) (drop-take offset rest (drop at bytes))
    ∙ take-take width rest (drop offset (drop at bytes)) (omega arith)
    ∙ ap (λ xs. take width xs) (drop-drop offset at bytes)
    ∙ ap (λ n. take n (drop (at + offset) bytes)) two

pub line_size : (bytes : List ℕ) (size at : ℕ) → at + size ≤ length bytes → length (take size (drop at bytes)) ≡ size
line_size bytes size at inside = length-take-le size (drop at bytes) (omega (arith, length-drop at bytes))

-- the first bytes and the rest of a list whose front stays
take_front : (bytes back : List ℕ) (size at : ℕ) → size + at ≤ length bytes → take size (take (size + at) bytes ++ back) ≡ take size bytes
take_front bytes back size at inside =
    take-append-le size (take (size + at) bytes) back (omega (arith, length-take-le (size + at) bytes inside))
    ∙ take-take size (size + at) bytes (omega arith)

drop_front : (bytes back : List ℕ) (size at : ℕ) → size + at ≤ length bytes →
    drop size (take (size + at) bytes ++ back) ≡ take at (drop size bytes) ++ back
drop_front bytes back size at inside =
    drop-append-le size (take (size + at) bytes) back (omega (arith, length-take-le (size + at) bytes inside))
    ∙ ap (λ front. front ++ back) (drop-take size at bytes)

-- what is written behind the first bytes
take_behind : (bytes new : List ℕ) (size at : ℕ) → size + at ≤ length bytes → take size (overwritten bytes (size + at) new) ≡ take size bytes
take_behind bytes new size at inside = take_front bytes (new ++ drop (size + at + length new) bytes) size at inside

drop_behind : (bytes new : List ℕ) (size at : ℕ) → size + at ≤ length bytes →
    drop size (overwritten bytes (size + at) new) ≡ overwritten (drop size bytes) at new
drop_behind bytes new size at inside =
    drop_front bytes (new ++ drop (size + at + length new) bytes) size at inside
    ∙ ap (λ n. take at (drop size bytes) ++ (new ++ drop n bytes)) (omega arith)
    ∙ ap (λ back. take at (drop size bytes) ++ (new ++ back)) (sym (drop-drop (at + length new) size bytes))

-- and what is written into them
take_past : (front new back : List ℕ) (n m : ℕ) → length front ≡ n → take (n + (length new + m)) (front ++ (new ++ back)) ≡ front ++ (new ++ take m back)
take_past front new back n m e =
    subst (λ k. take (k + (length new + m)) (front ++ (new ++ back)) ≡ front ++ (new ++ take m back)) e
    (take-append-add front (new ++ back) (length new + m) ∙ ap (λ rest. front ++ rest) (take-append-add new back m))

take_here : (bytes new : List ℕ) (size at : ℕ) → at + length new ≤ size → size ≤ length bytes →
    take size (overwritten bytes at new) ≡ overwritten (take size bytes) at new
take_here bytes new size at inside fits =
    let rest = size - at - length new in
    let whole : size ≡ at + (length new + rest) = omega arith in
    let parts : at + length new + rest ≡ size = omega arith in
    ap (λ n. take n (overwritten bytes at new)) whole
    ∙ take_past (take at bytes) new (drop (at + length new) bytes) at rest (length-take-le at bytes (omega arith))
    ∙ ap (λ front. front ++ (new ++ take rest (drop (at + length new) bytes))) (sym (take-take at size bytes (omega arith)))
    ∙ ap (λ back. take at (take size bytes) ++ (new ++ back)) (sym (drop-take (at + length new) rest bytes))
    ∙ ap (λ n. take at (take size bytes) ++ (new ++ drop (at + length new) (take n bytes))) parts

drop_here : (bytes new : List ℕ) (size at : ℕ) → at + length new ≤ size → size ≤ length bytes →
    drop size (overwritten bytes at new) ≡ drop size bytes
drop_here bytes new size at inside fits =
    ap (λ back. drop size (take at bytes ++ (new ++ back))) (sym (drop-drop (length new) at bytes))
    ∙ drop-put_mid at (length new) bytes new size inside (omega arith) refl

-- the bytes after those of one line were taken out, with others behind them
pub closed_up : ℕ → ℕ → List ℕ → List ℕ → List ℕ
closed_up size at bytes tail = take at bytes ++ (drop (at + size) bytes ++ tail)

take_closed : (bytes tail : List ℕ) (size at : ℕ) → size + at ≤ length bytes → take size (closed_up size (size + at) bytes tail) ≡ take size bytes
unfolding closed_up
take_closed bytes tail size at inside = take_front bytes (drop (size + at + size) bytes ++ tail) size at inside

drop_closed : (bytes tail : List ℕ) (size at : ℕ) → size + at ≤ length bytes →
    drop size (closed_up size (size + at) bytes tail) ≡ closed_up size at (drop size bytes) tail
unfolding closed_up
drop_closed bytes tail size at inside =
    drop_front bytes (drop (size + at + size) bytes ++ tail) size at inside
    ∙ ap (λ n. take at (drop size bytes) ++ (drop n bytes ++ tail)) (omega arith)
    ∙ ap (λ back. take at (drop size bytes) ++ (back ++ tail)) (sym (drop-drop (at + size) size bytes))

closed_first : (bytes tail : List ℕ) (size : ℕ) → closed_up size 0 bytes tail ≡ drop size bytes ++ tail
unfolding closed_up
closed_first bytes tail size = ap (λ n. drop n bytes ++ tail) (omega arith)

pub closed_is : (bytes : List ℕ) (size at : ℕ) → at + size ≤ length bytes →
    copy_within bytes (at + size) (length bytes) at ≡ closed_up size at bytes (drop (length bytes - size) bytes)
unfolding closed_up
closed_is bytes size at inside =
    paste_all bytes at (drop (at + size) bytes) (length bytes - (at + size)) (sym (length-drop (at + size) bytes))
    ∙ ap (λ n. take at bytes ++ (drop (at + size) bytes ++ drop n bytes)) (omega arith)

pub length-closed : (bytes tail : List ℕ) (size at : ℕ) → at + size ≤ length bytes → length tail ≡ size →
    length (closed_up size at bytes tail) ≡ length bytes
unfolding closed_up
length-closed bytes tail size at inside long =
    omega (
      arith,
      length-append (take at bytes) (drop (at + size) bytes ++ tail),
      length-append (drop (at + size) bytes) tail,
      length-take-le at bytes (omega arith),
      length-drop (at + size) bytes,
    )

-- the lines of heads and their bytes
pub length-lines_in : (size : ℕ) (heads : List Head) (bytes : List ℕ) → length (lines_in size heads bytes) ≡ length heads
unfolding lines_in
length-lines_in size [] bytes = refl
length-lines_in size (head ∷ heads) bytes = ap suc (length-lines_in size heads (drop size bytes))

place_or_len : (block size : ℕ) (heads : List Head) (bytes : List ℕ) →
    position_or_len (holds block) (lines_in size heads bytes) ≡ position_or_len (is_of block) heads
unfolding lines_in
place_or_len block size [] bytes = refl
place_or_len block size (head ∷ heads) bytes =
    elim (cases_Bool (eqb head.block block)) [
      | inl is ↦ rw is refl
      | inr is ↦ rw is (ap (λ n. 1 + n) (place_or_len block size heads (drop size bytes)))
    ]

pub place_is : (block size : ℕ) (heads : List Head) (bytes : List ℕ) →
    position (is_of block) heads ≡ position (holds block) (lines_in size heads bytes)
place_is block size heads bytes =
    let f = λ (place count : ℕ). cond (ltb place count) (Some place) None in
    ap (λ (place : ℕ). f place (length heads)) (sym (place_or_len block size heads bytes))
    ∙ ap (λ (count : ℕ). f (position_or_len (holds block) (lines_in size heads bytes)) count) (sym (length-lines_in size heads bytes))

pub line_there : (size : ℕ) (heads : List Head) (bytes : List ℕ) (place : ℕ) (head : Head) → place < length heads →
    slice_get (lines_in size heads bytes) place ≡ Some (line_with (get_or heads place head) (bytes_at size place bytes))
unfolding lines_in
line_there size [] bytes place head there = absurd (omega arith)
line_there size (first ∷ heads) bytes zero head there =
    ap (λ n. Some (line_with first (take size (drop n bytes)))) (sym (zero-mul size))
line_there size (first ∷ heads) bytes (suc place) head there =
    line_there size heads (drop size bytes) place head (omega arith)
    ∙ ap (λ xs. Some (line_with (get_or heads place head) (take size xs))) (drop-drop (place * size) size bytes)
    ∙ ap (λ n. Some (line_with (get_or heads place head) (take size (drop n bytes)))) (sym (next_at place size))

-- bytes behind those of the lines are none of theirs
rest_fits : (size : ℕ) (head : Head) (heads : List Head) (bytes : List ℕ) → length (head ∷ heads) * size ≤ length bytes →
    (size ≤ length bytes) × (length heads * size ≤ length (drop size bytes))
rest_fits size head heads bytes fits =
    let is : suc (length heads) * size ≡ size + length heads * size = next_at (length heads) size in
    (omega arith, omega (arith, length-drop size bytes))

lines_before : (size : ℕ) (heads : List Head) (bytes back : List ℕ) → length heads * size ≤ length bytes →
    lines_in size heads (bytes ++ back) ≡ lines_in size heads bytes
unfolding lines_in
lines_before size [] bytes back fits = refl
lines_before size (head ∷ heads) bytes back fits =
    let parts = rest_fits size head heads bytes fits in
    rw (take-append-le size bytes back parts.0, drop-append-le size bytes back parts.0)
    (ap (λ rest. line_with head (take size bytes) ∷ rest) (lines_before size heads (drop size bytes) back parts.1))

-- a write into the line at a place
pub lines_written_at : (size : ℕ) (heads : List Head) (bytes : List ℕ) (place offset : ℕ) (new : List ℕ) (head : Head) →
    place < length heads → length heads * size ≤ length bytes → offset + length new ≤ size →
    lines_in size heads (overwritten bytes (place * size + offset) new)
    ≡ set (lines_in size heads bytes) place (line_with (get_or heads place head) (overwritten (bytes_at size place bytes) offset new))
unfolding lines_in
lines_written_at size [] bytes place offset new head there fits inside = absurd (omega arith)
lines_written_at size (first ∷ heads) bytes zero offset new head there fits inside =
    let parts = rest_fits size first heads bytes fits in
    let at : zero * size + offset ≡ offset = omega (arith, zero-mul size) in
    rw (at, zero-mul size, take_here bytes new size offset inside parts.0, drop_here bytes new size offset inside parts.0) refl
lines_written_at size (first ∷ heads) bytes (suc place) offset new head there fits inside =
    let parts = rest_fits size first heads bytes fits in
    let below = place_fits place (length heads) size (length (drop size bytes)) (omega arith) parts.1 in
    let at : suc place * size + offset ≡ size + (place * size + offset) = omega (arith, next_at place size) in
    let in_bytes : size + (place * size + offset) ≤ length bytes = omega (arith, length-drop size bytes) in
    rw (
      at,
      take_behind bytes new size (place * size + offset) in_bytes,
      drop_behind bytes new size (place * size + offset) in_bytes,
      next_at place size,
      ← drop-drop (place * size) size bytes,
    )
    (ap (λ rest. line_with first (take size bytes) ∷ rest) (lines_written_at size heads (drop size bytes) place offset new head (omega arith) parts.1 inside))

-- the line at a place taken out
pub lines_closed_up : (size : ℕ) (heads : List Head) (bytes tail : List ℕ) (place : ℕ) → place < length heads → length heads * size ≤ length bytes →
    lines_in size (remove heads place) (closed_up size (place * size) bytes tail) ≡ remove (lines_in size heads bytes) place
unfolding lines_in
lines_closed_up size [] bytes tail place there fits = absurd (omega arith)
lines_closed_up size (first ∷ heads) bytes tail zero there fits =
    let parts = rest_fits size first heads bytes fits in
    rw (zero-mul size, closed_first bytes tail size) (lines_before size heads (drop size bytes) tail parts.1)
lines_closed_up size (first ∷ heads) bytes tail (suc place) there fits =
    let parts = rest_fits size first heads bytes fits in
    let below = place_fits place (length heads) size (length (drop size bytes)) (omega arith) parts.1 in
    let in_bytes : size + place * size ≤ length bytes = omega (arith, length-drop size bytes) in
    rw (next_at place size, take_closed bytes tail size (place * size) in_bytes, drop_closed bytes tail size (place * size) in_bytes)
    (ap (λ rest. line_with first (take size bytes) ∷ rest) (lines_closed_up size heads (drop size bytes) tail place (omega arith) parts.1))

-- a line added behind the others
pub lines_added : (size : ℕ) (heads : List Head) (bytes new : List ℕ) (head : Head) → length new ≡ size →
    length heads * size + size ≤ length bytes →
    lines_in size (heads ++ head ∷ []) (overwritten bytes (length heads * size) new) ≡ lines_in size heads bytes ++ line_with head new ∷ []
unfolding lines_in
lines_added size [] bytes new head long fits =
    let none : zero * size ≡ 0 = zero-mul size in
    let front : take size (new ++ drop (0 + length new) bytes) ≡ new = take_at new (drop (0 + length new) bytes) size long in
    rw (none, front) refl
lines_added size (first ∷ heads) bytes new head long fits =
    let at : suc (length heads) * size ≡ size + length heads * size = next_at (length heads) size in
    let in_bytes : size + length heads * size ≤ length bytes = omega arith in
    rw (at, take_behind bytes new size (length heads * size) in_bytes, drop_behind bytes new size (length heads * size) in_bytes)
    (ap (λ rest. line_with first (take size bytes) ∷ rest) (lines_added size heads (drop size bytes) new head long (omega (arith, length-drop size bytes))))

-- a place of a line is one of a head, and its bytes are there
pub place_there : (size : ℕ) (heads : List Head) (bytes : List ℕ) (lines : List Line) (place : ℕ) → lines_in size heads bytes ≡ lines →
    place < length lines → place < length heads
place_there size heads bytes lines place are there =
    omega (arith, length-lines_in size heads bytes, ap (λ (l : List Line). length l) are)

pub heads_fit : (count size room bytes : ℕ) → count ≤ room → room * size ≤ bytes → count * size ≤ bytes
heads_fit count size room bytes few fits =
    let less : count * size ≤ room * size = mul-le-mul_right size few in omega arith

-- an access that lies in each line lies in the size of a line
pub access_there : (size : ℕ) (heads : List Head) (bytes : List ℕ) (place offset width : ℕ) → place < length heads →
    place * size + size ≤ length bytes → All (λ (line : Line). offset + width ≤ length line.bytes) (lines_in size heads bytes) → offset + width ≤ size
access_there size heads bytes place offset width there fits inside =
    let head : Head = record { block = 0; writable = false } in
    let line : Line = line_with (get_or heads place head) (bytes_at size place bytes) in
    let below : place < length (lines_in size heads bytes) = omega (arith, length-lines_in size heads bytes) in
    let same : Some (get_or (lines_in size heads bytes) place line) ≡ Some line =
    sym (slice_get-get_or (lines_in size heads bytes) place line below) ∙ line_there size heads bytes place head there in
    let is : get_or (lines_in size heads bytes) place line ≡ line = cc in
    let in_line : offset + width ≤ length (bytes_at size place bytes) =
    subst (λ (l : Line). offset + width ≤ length l.bytes) is (inside place line below) in
    omega (arith, line_size bytes size (place * size) fits)

-- what was lent out of a vector and comes back
pub written_back : (items new : List ℕ) (len : ℕ) → len ≡ length items → length new ≡ length items → take len (new ++ drop (length new) items) ≡ new
written_back items new len all same = take_at new (drop (length new) items) len (omega arith)

pub write_done : (size : ℕ) (heads : List Head) (bytes after : List ℕ) (place offset width value : ℕ) → place < length heads →
    length heads * size ≤ length bytes → offset + width ≤ size → after ≡ overwritten bytes (place * size + offset) (low_bytes width value) →
    IfSome (slice_get (lines_in size heads bytes) place)
    (λ line. lines_in size heads after ≡ set (lines_in size heads bytes) place (written_line offset width value line))
write_done size heads bytes after place offset width value there fits inside is =
    let head : Head = record { block = 0; writable = false } in
    rw (line_there size heads bytes place head there)
    (ap (λ xs. lines_in size heads xs) is
    ∙ lines_written_at size heads bytes place offset (low_bytes width value) head there fits (omega (arith, length-low_bytes width value)))

pub empty_is : (size room ways : ℕ) (heads : List Head) (bytes : List ℕ) → heads ≡ [] → room ≡ ways →
    (let set : LinesInRoom = record { lines = lines_in size heads bytes; room = room; size = size } in set) ≡ record { lines = []; room = ways; size = size }
unfolding lines_in
empty_is size room ways heads bytes none same = rw (none, same) refl

-- the bytes with a gap closed
pub gap_done : (size : ℕ) (heads : List Head) (bytes after : List ℕ) (place : ℕ) → place < length heads → length heads * size ≤ length bytes →
    after ≡ copy_within bytes (place * size + size) (length bytes) (place * size) →
    lines_in size (remove heads place) after ≡ remove (lines_in size heads bytes) place
gap_done size heads bytes after place there fits is =
    ap (λ xs. lines_in size (remove heads place) xs) (is ∙ closed_is bytes size (place * size) (place_fits place (length heads) size (length bytes) there fits))
    ∙ lines_closed_up size heads bytes (drop (length bytes - size) bytes) place there fits
