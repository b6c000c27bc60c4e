-- What private memory answers to a fetch, and what a refusal tells of an address.
use Rattle.std.proofs.Common.{◌≡◌, ℕ, zero, suc, ◌+◌, ◌/◌, ◌%◌, ◌≤◌, Bool, true, false, cond, List, length, Some, None, Ok, Err, refl, ap, sym, ◌∙◌, arith}
use Rattle.std.specs.Prelude.{◌==◌, nat_le, not, slice_range}
use Rattle.std.specs.Result.{result_ok}
use Rattle.std.proofs.lemmas.Bool.{eqb-true}
use Rattle.std.proofs.lemmas.Bool.Decides.{nat_tests}
use Rattle.priv_mem.specs.declared.fault.MemFault.TheVariants.{Misaligned, Outside}
use Rattle.priv_mem.specs.Memory.{load_of, store_of, is_misaligned, is_outside, access_gives, little_endian, low_bytes, overwritten}
use Rattle.priv_mem.proofs.MemoryLaws.{length-overwritten}
use Rattle.node.specs.State.{word_at}

aligned_at : (pc : ℕ) → pc % 4 ≡ 0 → is_misaligned pc 4 ≡ false
aligned_at pc aligned = ap (λ rest. not (rest == 0)) aligned

-- Sizes and addresses are multiples of 4, so a word lies outside where its first byte does.
outside_at : (size pc : ℕ) → size % 4096 ≡ 0 → pc % 4 ≡ 0 → is_outside size pc 4 ≡ nat_le size pc
outside_at size pc pages aligned = grind (arith, nat_tests)

by_tests : (given : ℕ → ℕ) (misaligned outside past : Bool) (start : ℕ) → misaligned ≡ false → outside ≡ past → result_ok (access_gives given (cond misaligned (Err Misaligned) (cond outside (Err Outside) (Ok start)))) ≡ cond past None (Some (given start))
by_tests given misaligned outside true start aligned same = simp (aligned, same)
by_tests given misaligned outside false start aligned same = simp (aligned, same)

pub fetch_is : (memory : List ℕ) (size pc : ℕ) → length memory ≡ size → size % 4096 ≡ 0 → pc % 4 ≡ 0 → result_ok (load_of memory pc 4) ≡ cond (nat_le size pc) None (Some (word_at memory pc))
unfolding load_of
fetch_is memory size pc whole pages aligned =
    by_tests (λ start. little_endian (slice_range memory start (start + 4))) (is_misaligned pc 4) (is_outside (length memory) pc 4) (nat_le size pc) pc (aligned_at pc aligned)
    (ap (λ n. is_outside n pc 4) whole ∙ outside_at size pc pages aligned)

-- An address that is refused as outside is aligned.
refused_outside : {A : Type 0} (given : ℕ → A) (rest start : ℕ) (outside : Bool) → access_gives given (cond (not (rest == 0)) (Err Misaligned) (cond outside (Err Outside) (Ok start))) ≡ Err Outside → rest ≡ 0
refused_outside given rest start outside is = by (rest == 0) refl
  where
    by : (b : Bool) → (rest == 0) ≡ b → rest ≡ 0
    by true e = eqb-true rest 0 e
    by false e = absurd (let f : Err Misaligned ≡ Err Outside = rw e at is in cc)

pub load_outside : (memory : List ℕ) (address width : ℕ) → load_of memory address width ≡ Err Outside → address % width ≡ 0
unfolding load_of
load_outside memory address width is = refused_outside _ (address % width) address (is_outside (length memory) address width) is

pub store_outside : (memory : List ℕ) (address width value : ℕ) → store_of memory address width value ≡ Err Outside → address % width ≡ 0
unfolding store_of
store_outside memory address width value is = refused_outside _ (address % width) address (is_outside (length memory) address width) is

-- A store leaves the memory as long as it was.
stored_by : (memory bytes : List ℕ) (misaligned : Bool) (outside : Bool) (address : ℕ) (after : List ℕ) → (outside ≡ false → address + length bytes ≤ length memory) →
    access_gives (λ start. overwritten memory start bytes) (cond misaligned (Err Misaligned) (cond outside (Err Outside) (Ok address))) ≡ Ok after → length after ≡ length memory
stored_by memory bytes true outside address after inside is = absurd (let e : Err Misaligned ≡ Ok after = is in cc)
stored_by memory bytes false true address after inside is = absurd (let e : Err Outside ≡ Ok after = is in cc)
stored_by memory bytes false false address after inside is =
    let e : Ok (overwritten memory address bytes) ≡ Ok after = is in
    let same : overwritten memory address bytes ≡ after = cc in
    ap length (sym same) ∙ length-overwritten memory bytes address (inside refl)

low_length : (width value : ℕ) → length (low_bytes width value) ≡ width
low_length zero value = refl
low_length (suc width) value = ap suc (low_length width (value / 256))

pub stored_length : (memory : List ℕ) (address width value : ℕ) (after : List ℕ) → 1 ≤ width → store_of memory address width value ≡ Ok after → length after ≡ length memory
unfolding store_of
stored_length memory address width value after some is =
    stored_by memory (low_bytes width value) (is_misaligned address width) (is_outside (length memory) address width) address after
    (λ inside. let bytes = low_length width value in grind (arith, nat_tests, bytes)) is
