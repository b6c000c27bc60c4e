-- Laws of bytes that are laid into a memory: one run after another, and where they stand.
use Rattle.std.proofs.Common.{◌≡◌, ℕ, ◌+◌, ◌-◌, ◌<◌, ◌≤◌, ◌⊎◌, List, ◌++◌, replicate, length, get_or, Ok, sym, ap, ◌∙◌, arith}
use Rattle.std.proofs.lemmas.Grind.{common_steps, same_number_lists}
use Rattle.std.proofs.lemmas.List.{places, length-replicate, replicate-append-replicate}
use Rattle.std.proofs.lemmas.Bool.Decides.{nat_tests}
use Rattle.elf_image.specs.declared.image.Segment.{Segment}
use Rattle.image_loader.specs.Loading.{content_of, with_segment}
use Rattle.priv_mem.specs.Memory.{overwritten, fill_of}

-- bytes that lie in the memory are laid into it
pub inside_is_filled : (memory bytes : List ℕ) (address : ℕ) → address + length bytes ≤ length memory →
    fill_of memory address bytes ≡ Ok (overwritten memory address bytes)
unfolding fill_of
inside_is_filled memory bytes address inside = grind (arith, common_steps)

-- a byte that was laid, and bytes before and after those that were
pub get_or-overwritten_inside : (memory bytes : List ℕ) (at k d : ℕ) → at + length bytes ≤ length memory → at ≤ k → k < at + length bytes →
    get_or (overwritten memory at bytes) k d ≡ get_or bytes (k - at) d
get_or-overwritten_inside memory bytes at k d inside low high = grind (arith, places)

pub get_or-overwritten_before : (memory bytes : List ℕ) (at k d : ℕ) → at + length bytes ≤ length memory → k < at →
    get_or (overwritten memory at bytes) k d ≡ get_or memory k d
get_or-overwritten_before memory bytes at k d inside low = grind (arith, places)

pub get_or-overwritten_after : (memory bytes : List ℕ) (at k d : ℕ) → at + length bytes ≤ length memory → at + length bytes ≤ k →
    get_or (overwritten memory at bytes) k d ≡ get_or memory k d
get_or-overwritten_after memory bytes at k d inside high = grind (arith, places)

-- bytes and then other bytes behind them are laid one after another
pub overwritten-append : (memory first second : List ℕ) (at : ℕ) → at + length first + length second ≤ length memory →
    overwritten memory at (first ++ second) ≡ overwritten (overwritten memory at first) (at + length first) second
overwritten-append memory first second at inside =
    same_number_lists _ _ (grind (arith, common_steps)) (λ k low. grind (arith, places))

-- zeros and then more zeros behind them are so many zeros
pub overwritten_with_zeros : (memory : List ℕ) (at done more : ℕ) → at + (done + more) ≤ length memory →
    overwritten (overwritten memory at (replicate done 0)) (at + done) (replicate more 0) ≡ overwritten memory at (replicate (done + more) 0)
overwritten_with_zeros memory at done more inside =
    let first : length (replicate {A = ℕ} done 0) ≡ done = length-replicate done 0 in
    let second : length (replicate {A = ℕ} more 0) ≡ more = length-replicate more 0 in
    ap (λ (place : ℕ). overwritten (overwritten memory at (replicate done 0)) (at + place) (replicate more 0)) (sym first)
    ∙ sym (overwritten-append memory (replicate done 0) (replicate more 0) at (omega arith))
    ∙ ap (λ (bytes : List ℕ). overwritten memory at bytes) (replicate-append-replicate done more 0)

-- a segment that begins in a memory, and ends there
pub with_segment_inside : (base : ℕ) (memory : List ℕ) (segment : Segment) → base ≤ segment.at → segment.at < base + length memory →
    with_segment base memory segment ≡ overwritten memory (segment.at - base) (content_of segment)
with_segment_inside base memory segment low high = grind (arith, nat_tests)

-- its own bytes are laid first, and its zeros behind them
pub segment_in_two_parts : (base at : ℕ) (memory : List ℕ) (segment : Segment) → base + at ≡ segment.at → at < length memory →
    length segment.bytes ≤ segment.size → at + segment.size ≤ length memory →
    with_segment base memory segment
    ≡ overwritten (overwritten memory at segment.bytes) (at + length segment.bytes) (replicate (segment.size - length segment.bytes) 0)
segment_in_two_parts base at memory segment place begins own ends =
    let zeros : length (replicate {A = ℕ} (segment.size - length segment.bytes) 0) ≡ segment.size - length segment.bytes =
    length-replicate (segment.size - length segment.bytes) 0
    in
    let there : segment.at - base ≡ at = omega arith in
    with_segment_inside base memory segment (omega arith) (omega arith)
    ∙ ap (λ (start : ℕ). overwritten memory start (content_of segment)) there
    ∙ overwritten-append memory segment.bytes (replicate (segment.size - length segment.bytes) 0) at (omega arith)

-- one that begins elsewhere
pub with_segment_elsewhere : (base : ℕ) (memory : List ℕ) (segment : Segment) → (segment.at < base) ⊎ (base + length memory ≤ segment.at) →
    with_segment base memory segment ≡ memory
with_segment_elsewhere base memory segment outside = grind (arith, nat_tests)
