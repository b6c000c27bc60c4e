-- Laws of a part of a memory, while bytes are laid into the memory.
use Rattle.std.proofs.Common.{◌≡◌, ℕ, ◌+◌, ◌-◌, ◌<◌, ◌≤◌, List, ◌++◌, replicate, length, get_or, take, drop, inl, inr, sym, ap, ◌∙◌, subst, arith, min, max}
use Rattle.std.specs.Prelude.{slice_range, fold}
use Rattle.std.proofs.lemmas.Bool.{cases_lt}
use Rattle.std.proofs.lemmas.Grind.{same_number_lists}
use Rattle.std.proofs.lemmas.List.{drop-drop, take-replicate, drop-replicate}
use borrow.Rule.Slice.PartMut.{put_mid}
use Rattle.std.proofs.lemmas.List.Sums.{fold_more}
use Rattle.std.proofs.lemmas.List.Edits.{length-between, get_or-between}
use Rattle.elf_image.specs.declared.image.Segment.{Segment}
use Rattle.image_loader.specs.Loading.{with_segment}
use Rattle.priv_mem.specs.Memory.{overwritten}
use Rattle.priv_mem.proofs.MemoryLaws.{length-overwritten}
use Rattle.start_memories.specs.Parts.{IsPart, IsPartAfter}
use Rattle.start_memories.proofs.Overwrites.{get_or-overwritten_inside, get_or-overwritten_before, get_or-overwritten_after, segment_in_two_parts}

-- a part, where bytes are laid of which none lies in it
apart : (memory bytes : List ℕ) (at start end : ℕ) → at + length bytes ≤ length memory → end ≤ length memory →
    min (at + length bytes) end ≤ max at start →
    slice_range (overwritten memory at bytes) start end ≡ slice_range memory start end
apart memory bytes at start end inside within beside =
    let size = length-overwritten memory bytes at inside in
    let left : length (slice_range (overwritten memory at bytes) start end) ≡ end - start = length-between _ start end (omega arith) in
    let right : length (slice_range memory start end) ≡ end - start = length-between memory start end within in
    same_number_lists _ _ (left ∙ sym right)
    (λ k low.
    get_or-between (overwritten memory at bytes) start end k 0 (omega arith)
    ∙ beside_at k (omega (arith, left))
    ∙ sym (get_or-between memory start end k 0 (omega arith)))
  where
    beside_at : (k : ℕ) → start + k < end → get_or (overwritten memory at bytes) (start + k) 0 ≡ get_or memory (start + k) 0
    beside_at k low = elim (cases_lt (start + k) at) [
      | inl before ↦ get_or-overwritten_before memory bytes at (start + k) 0 inside before
      | inr from ↦ get_or-overwritten_after memory bytes at (start + k) 0 inside (omega arith)
    ]

-- a part, where bytes are laid that lie in it from one place up to another
meets : (memory bytes : List ℕ) (at start end low high : ℕ) → at + length bytes ≤ length memory → end ≤ length memory →
    low ≡ max at start → high ≡ min (at + length bytes) end → low < high →
    overwritten (slice_range memory start end) (low - start) (slice_range bytes (low - at) (high - at))
    ≡ slice_range (overwritten memory at bytes) start end
meets memory bytes at start end low high inside within first last some =
    let size = length-overwritten memory bytes at inside in
    let all : length (slice_range memory start end) ≡ end - start = length-between memory start end within in
    let cut : length (slice_range bytes (low - at) (high - at)) ≡ high - at - (low - at) = length-between bytes (low - at) (high - at) (omega arith) in
    let left : length (overwritten (slice_range memory start end) (low - start) (slice_range bytes (low - at) (high - at))) ≡ end - start =
    length-overwritten (slice_range memory start end) (slice_range bytes (low - at) (high - at)) (low - start) (omega arith) ∙ all
    in
    let right : length (slice_range (overwritten memory at bytes) start end) ≡ end - start = length-between _ start end (omega arith) in
    same_number_lists _ _ (left ∙ sym right)
    (λ k small. here k (omega (arith, left)) all cut ∙ sym (get_or-between (overwritten memory at bytes) start end k 0 (omega arith)))
  where
    here : (k : ℕ) → k < end - start → length (slice_range memory start end) ≡ end - start → length (slice_range bytes (low - at) (high - at)) ≡ high - at - (low - at) →
        get_or (overwritten (slice_range memory start end) (low - start) (slice_range bytes (low - at) (high - at))) k 0
        ≡ get_or (overwritten memory at bytes) (start + k) 0
    here k small all cut = elim (cases_lt (start + k) low) [
      | inl below ↦
          get_or-overwritten_before (slice_range memory start end) (slice_range bytes (low - at) (high - at)) (low - start) k 0 (omega arith) (omega arith)
          ∙ get_or-between memory start end k 0 (omega arith)
          ∙ sym (get_or-overwritten_before memory bytes at (start + k) 0 inside (omega arith))
      | inr from ↦ elim (cases_lt (start + k) high) [
        | inl under ↦
            get_or-overwritten_inside (slice_range memory start end) (slice_range bytes (low - at) (high - at)) (low - start) k 0 (omega arith) (omega arith) (omega arith)
            ∙ get_or-between bytes (low - at) (high - at) (k - (low - start)) 0 (omega arith)
            ∙ ap (λ (place : ℕ). get_or bytes place 0) (omega arith)
            ∙ sym (get_or-overwritten_inside memory bytes at (start + k) 0 inside (omega arith) (omega arith))
        | inr past ↦
            get_or-overwritten_after (slice_range memory start end) (slice_range bytes (low - at) (high - at)) (low - start) k 0 (omega arith) (omega arith)
            ∙ get_or-between memory start end k 0 (omega arith)
            ∙ sym (get_or-overwritten_after memory bytes at (start + k) 0 inside (omega arith))
      ]
    ]

-- bytes of which none lies in a part leave it
pub part_apart : (size start at : ℕ) (part bytes : List ℕ) → at + length bytes ≤ size → min (at + length bytes) (start + length part) ≤ max at start →
    IsPartAfter size start part part (λ memory. overwritten memory at bytes)
part_apart size start at part bytes inside beside = λ memory is. record {
  whole = length-overwritten memory bytes at (omega (arith, is.whole)) ∙ is.whole;
  inside = is.inside;
  bytes = is.bytes ∙ sym (apart memory bytes at start (start + length part) (omega (arith, is.whole)) (omega (arith, is.whole, is.inside)) beside);
}

-- bytes of which some lie in a part are laid into it so far
pub part_meets : (size start at low high : ℕ) (before after bytes : List ℕ) → at + length bytes ≤ size → length after ≡ length before →
    low ≡ max at start → high ≡ min (at + length bytes) (start + length before) → low < high →
    after ≡ overwritten before (low - start) (slice_range bytes (low - at) (high - at)) →
    IsPartAfter size start before after (λ memory. overwritten memory at bytes)
part_meets size start at low high before after bytes inside same first last some laid = λ memory is. record {
  whole = length-overwritten memory bytes at (omega (arith, is.whole)) ∙ is.whole;
  inside = omega (arith, is.inside, same);
  bytes =
      laid
      ∙ ap (λ (part : List ℕ). overwritten part (low - start) (slice_range bytes (low - at) (high - at))) is.bytes
      ∙ meets memory bytes at start (start + length before) low high (omega (arith, is.whole)) (omega (arith, is.whole, is.inside)) first last some
      ∙ ap (λ (count : ℕ). slice_range (overwritten memory at bytes) start (start + count)) (sym same);
}

-- what a write to a place of a list leaves
pub put_mid-overwritten : (at count : ℕ) (bytes part : List ℕ) → length part ≡ count → put_mid at count bytes part ≡ overwritten bytes at part
put_mid-overwritten at count bytes part long = ap (λ (rest : List ℕ). take at bytes ++ (part ++ rest)) (drop-drop count at bytes ∙ ap (λ (n : ℕ). drop (at + n) bytes) (sym long))

-- a cut of zeros
pub zeros_cut : (count low high : ℕ) → low ≤ high → high ≤ count → slice_range (replicate {A = ℕ} count 0) low high ≡ replicate (high - low) 0
zeros_cut count low high order within =
    ap (λ (rest : List ℕ). take (high - low) rest) (drop-replicate low count 0) ∙ take-replicate (high - low) (count - low) 0 (omega arith)

-- bytes of which some lie in a part, written into it
pub part_written : (size start at low high : ℕ) (before written bytes : List ℕ) → at + length bytes ≤ size →
    low ≡ max at start → high ≡ min (at + length bytes) (start + length before) → low < high →
    written ≡ slice_range bytes (low - at) (high - at) →
    IsPartAfter size start before (put_mid (low - start) (high - start - (low - start)) before written) (λ memory. overwritten memory at bytes)
part_written size start at low high before written bytes inside first last some cut =
    let long : length (slice_range bytes (low - at) (high - at)) ≡ high - at - (low - at) = length-between bytes (low - at) (high - at) (omega arith) in
    let is : put_mid (low - start) (high - start - (low - start)) before written ≡ overwritten before (low - start) (slice_range bytes (low - at) (high - at)) =
    put_mid-overwritten (low - start) (high - start - (low - start)) before written (ap length cut ∙ omega arith)
    ∙ ap (λ (part : List ℕ). overwritten before (low - start) part) cut
    in
    part_meets size start at low high before (put_mid (low - start) (high - start - (low - start)) before written) bytes inside
    (ap length is ∙ length-overwritten before (slice_range bytes (low - at) (high - at)) (low - start) (omega arith))
    first last some is

-- a segment is its own bytes and then its zeros
pub part_with_segment : (size start base at : ℕ) (before between after bytes : List ℕ) (segment : Segment) → bytes ≡ segment.bytes →
    base + at ≡ segment.at → 0 < segment.size → length segment.bytes ≤ segment.size → at + segment.size ≤ size →
    IsPartAfter size start before between (λ memory. overwritten memory at bytes) →
    IsPartAfter size start between after (λ memory. overwritten memory (at + length bytes) (replicate (segment.size - length bytes) 0)) →
    IsPartAfter size start before after (λ memory. with_segment base memory segment)
part_with_segment size start base at before between after bytes segment same place some own inside one two = λ memory is.
    let both : overwritten (overwritten memory at bytes) (at + length bytes) (replicate (segment.size - length bytes) 0) ≡ with_segment base memory segment =
    ap (λ (bytes : List ℕ). overwritten (overwritten memory at bytes) (at + length bytes) (replicate (segment.size - length bytes) 0)) same
    ∙ sym (segment_in_two_parts base at memory segment place (omega (arith, is.whole)) own (omega (arith, is.whole)))
    in
    subst (λ (after_both : List ℕ). IsPart size start after_both after) both (two (overwritten memory at bytes) (one memory is))

-- one segment more
pub part_after_next : (size start base i : ℕ) (before between after : List ℕ) (segments : List Segment) (segment : Segment) → i < length segments →
    segment ≡ get_or segments i segment →
    IsPartAfter size start before between (λ memory. fold (with_segment base) memory (take i segments)) →
    IsPartAfter size start between after (λ memory. with_segment base memory segment) →
    IsPartAfter size start before after (λ memory. fold (with_segment base) memory (take (i + 1) segments))
part_after_next size start base i before between after segments segment within at one two = λ memory is.
    let step : with_segment base (fold (with_segment base) memory (take i segments)) segment ≡ fold (with_segment base) memory (take (i + 1) segments) =
    ap (λ (next : Segment). with_segment base (fold (with_segment base) memory (take i segments)) next) at
    ∙ sym (fold_more (with_segment base) memory segments i segment within)
    in
    subst (λ (after_next : List ℕ). IsPart size start after_next after) step (two (fold (with_segment base) memory (take i segments)) (one memory is))
