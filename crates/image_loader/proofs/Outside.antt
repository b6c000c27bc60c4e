-- Where the first address of a segment lies that is in no memory.
use Rattle.std.proofs.Common.{◌≡◌, ℕ, zero, suc, ◌+◌, ◌<◌, ◌≤◌, Bool, true, false, not, cond, ltb, leb, Option, Some, None, refl, sym, ap, ◌∙◌, inl, inr, arith}
use Rattle.std.specs.Prelude.{find, is_some, ◌&&◌, ◌||◌}
use Rattle.std.specs.List.{range_with_len}
use Rattle.std.proofs.lemmas.Bool.{cases_lt}
use Rattle.wt_params.specs.declared.parts.MachineParts.{MachineParts}
use Rattle.wt_params.specs.Machine.{IsMachine, shared_base, block_address}
use Rattle.elf_image.specs.declared.image.Segment.{Segment}
use Rattle.image_loader.specs.Faults.{is_memory, memory_end, outside_of}
use Rattle.std.proofs.lemmas.Bool.Decides.{nat_tests}

-- the first number of a range that passes a test
pub find-range_at : (p : ℕ → Bool) (a n m : ℕ) → a ≤ m → m < a + n →
    ((k : ℕ) → a ≤ k → k < m → p k ≡ false) → p m ≡ true → find p (range_with_len a n) ≡ Some m
find-range_at p a zero m low high before here = absurd (omega arith)
find-range_at p a (suc n) m low high before here =
    elim (cases_lt a m) [
      | inl below ↦ rw (before a (omega arith) below) (find-range_at p (a + 1) n m (omega arith) (omega arith) (λ k l h. before k (omega arith) h) here)
      | inr above ↦ let same : a ≡ m = omega arith in rw (same, here) refl
    ]

-- a range of which no number passes
pub find-range_none : (p : ℕ → Bool) (a n : ℕ) →
    ((k : ℕ) → a ≤ k → k < a + n → p k ≡ false) → find p (range_with_len a n) ≡ None
find-range_none p a zero none = refl
find-range_none p a (suc n) none =
    rw (none a (omega arith) (omega arith)) (find-range_none p (a + 1) n (λ k l h. none k (omega arith) (omega arith)))

-- a choice between something and nothing is something where it is made so
some_if : {X : Type 0} (b : Bool) (x : X) → is_some (cond b (Some x) None) ≡ b
some_if true x = refl
some_if false x = refl

-- the end of the memory that an address lies in: private memory from 0 on, or shared memory from its base on
abbrev end_of : ℕ → ℕ → ℕ → ℕ → Option ℕ
end_of private base last at = cond (ltb at private) (Some private) (cond (leb base at && ltb at last) (Some last) None)

abbrev is_inside : ℕ → ℕ → ℕ → ℕ → Bool
is_inside private base last at = ltb at private || (leb base at && ltb at last)

up_to_end : (private base last at k end : ℕ) → end_of private base last at ≡ Some end → at ≤ k → k < end →
    is_inside private base last k ≡ true
up_to_end private base last at k end is low high = grind (arith, nat_tests)

at_end : (private base last at end : ℕ) → end_of private base last at ≡ Some end → private < base → base ≤ last →
    is_inside private base last end ≡ false
at_end private base last at end is gap order = grind (arith, nat_tests)

past : (private base last at end : ℕ) → end_of private base last at ≡ Some end → at < end
past private base last at end is = grind (arith, nat_tests)

module _ (machine : MachineParts) where
  memory_is : (at : ℕ) → is_memory machine at ≡ is_inside machine.private_bytes shared_base (block_address machine machine.blocks) at
  memory_is at = ap (λ b. ltb at machine.private_bytes || b) (some_if _ _)

  end_is : (at : ℕ) → memory_end machine at ≡ end_of machine.private_bytes shared_base (block_address machine machine.blocks) at
  end_is at =
      ap (λ b. cond (ltb at machine.private_bytes) (Some machine.private_bytes) (cond b (Some (block_address machine machine.blocks)) None)) (some_if _ _)

  pub outside_of-none : (segment : Segment) (end : ℕ) → memory_end machine segment.at ≡ Some end →
      segment.at + segment.size ≤ end → outside_of machine segment ≡ None
  outside_of-none segment end is within =
      find-range_none _ segment.at segment.size
      (λ k low high. ap not (memory_is k ∙ up_to_end _ _ _ segment.at k end (sym (end_is segment.at) ∙ is) low (omega arith)))

  pub outside_of-some : IsMachine machine → (segment : Segment) (end : ℕ) → memory_end machine segment.at ≡ Some end →
      end < segment.at + segment.size → outside_of machine segment ≡ Some end
  outside_of-some numbers segment end is over =
      let ends = sym (end_is segment.at) ∙ is in
      let begins : segment.at < end = past _ _ _ segment.at end ends in
      find-range_at _ segment.at segment.size end (omega arith) over
      (λ k low high. ap not (memory_is k ∙ up_to_end _ _ _ segment.at k end ends low high))
      (ap not (memory_is end ∙ at_end _ _ _ segment.at end ends (omega (arith, numbers.private_bytes.range.at_most)) (omega arith)))
