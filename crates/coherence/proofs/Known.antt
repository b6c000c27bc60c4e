-- Bytes and words along a trace, one byte and one record at a time.
use Rattle.std.proofs.Common.{◌≡◌, ℕ, zero, suc, ◌+◌, ◌/◌, ◌%◌, ◌<◌, ◌≤◌, Some, None, List, [], ◌∷◌, ◌++◌, length, take, drop, replicate, get_or, set, refl, ap, sym, ◌∙◌, arith}
use Rattle.std.specs.Prelude.{slice_get}
use Rattle.std.proofs.lemmas.List.{take-replicate, take_all, drop_more}
use Rattle.std.proofs.lemmas.Option.{slice_get_within, get_or_from_slice_get}
use Rattle.wt_trace.proofs.Walks.{take_next}
use Rattle.priv_mem.specs.Memory.{low_bytes}
use Rattle.wt_trace.specs.declared.record.Record.{Record}
use Rattle.coherence.specs.Traces.{Known, after_record, after_records, bytes_from, with_number}
use Rattle.coherence.specs.Loads.{known_first, known_before}

-- ---- bytes that are read

-- of zeros at the end as many count as are asked for
zeros_enough : (xs : List ℕ) (count n m : ℕ) → count ≤ n → count ≤ m → take count (xs ++ replicate n 0) ≡ take count (xs ++ replicate m 0)
zeros_enough [] count n m low high = take-replicate count n 0 low ∙ sym (take-replicate count m 0 high)
zeros_enough (x ∷ xs) zero n m low high = refl
zeros_enough (x ∷ xs) (suc count) n m low high = ap (λ ys. x ∷ ys) (zeros_enough xs count n m (omega arith) (omega arith))

pub bytes_from_more : (memory : List ℕ) (place count : ℕ) → bytes_from memory place (suc count) ≡ get_or memory place 0 ∷ bytes_from memory (suc place) count
bytes_from_more [] zero count = refl
bytes_from_more [] (suc place) count = refl
bytes_from_more (x ∷ xs) zero count = ap (λ ys. x ∷ ys) (zeros_enough xs count (suc count) count (omega arith) (omega arith))
bytes_from_more (x ∷ xs) (suc place) count = bytes_from_more xs place count

-- ---- bytes that are put

behind_first : (x : ℕ) (xs : List ℕ) (place width number : ℕ) → with_number (x ∷ xs) (suc place) width number ≡ x ∷ with_number xs place width number
behind_first x xs place width number =
    let bytes = low_bytes width number in
    let next : suc place + length bytes ≡ suc (place + length bytes) = omega arith in
    ap (λ (n : ℕ). take (suc (length xs)) (x ∷ take place xs ++ (bytes ++ drop n (x ∷ xs)))) next

pub none_put : (memory : List ℕ) (place number : ℕ) → with_number memory place 0 number ≡ memory
none_put [] place number = refl
none_put (x ∷ xs) zero number = take_all (length (x ∷ xs)) (x ∷ xs) (omega arith)
none_put (x ∷ xs) (suc place) number = behind_first x xs place 0 number ∙ ap (λ ys. x ∷ ys) (none_put xs place number)

pub put_past : (memory : List ℕ) (place width number : ℕ) → length memory ≤ place → with_number memory place width number ≡ memory
put_past [] place width number past = refl
put_past (x ∷ xs) zero width number past = absurd (omega arith)
put_past (x ∷ xs) (suc place) width number past =
    behind_first x xs place width number ∙ ap (λ ys. x ∷ ys) (put_past xs place width number (omega arith))

pub put_more : (memory : List ℕ) (place width number : ℕ) → place < length memory →
    with_number memory place (suc width) number ≡ with_number (set memory place (number % 256)) (suc place) width (number / 256)
put_more [] place width number within = absurd (omega arith)
put_more (x ∷ xs) zero width number within =
    let bytes = low_bytes width (number / 256) in
    let first : 0 + suc (length bytes) ≡ suc (length bytes) = omega arith in
    let second : 1 + length bytes ≡ suc (length bytes) = omega arith in
    ap (λ (n : ℕ). number % 256 ∷ take (length xs) (bytes ++ drop n (x ∷ xs))) first
    ∙ sym (ap (λ (n : ℕ). number % 256 ∷ take (length xs) (bytes ++ drop n (number % 256 ∷ xs))) second)
put_more (x ∷ xs) (suc place) width number within =
    behind_first x xs place (suc width) number
    ∙ ap (λ ys. x ∷ ys) (put_more xs place width number (omega arith))
    ∙ sym (behind_first x (set xs place (number % 256)) (suc place) width (number / 256))

-- ---- records

after_joined : (items : List Record) (item : Record) (known : Known) → after_records (items ++ item ∷ []) known ≡ after_record item (after_records items known)
after_joined [] item known = refl
after_joined (first ∷ rest) item known = after_joined rest item (after_record first known)

pub known_next : (start : List ℕ) (log : List Record) (place : ℕ) (item : Record) → slice_get log place ≡ Some item →
    known_before start log (place + 1) ≡ after_record item (known_before start log place)
known_next start log place item at =
    ap (λ items. after_records items (known_first start)) (take_next log place item at) ∙ after_joined (take place log) item (known_first start)

pub left_next : (log : List Record) (place : ℕ) (item : Record) → slice_get log place ≡ Some item → drop place log ≡ item ∷ drop (place + 1) log
left_next log place item at =
    drop_more log place item (slice_get_within log place item at) ∙ ap (λ first. first ∷ drop (place + 1) log) (get_or_from_slice_get log place item item at)

pub none_left : (log : List Record) (place : ℕ) → slice_get log place ≡ None → drop place log ≡ []
none_left [] zero at = refl
none_left [] (suc place) at = refl
none_left (x ∷ xs) zero at = cc
none_left (x ∷ xs) (suc place) at = none_left xs place at
