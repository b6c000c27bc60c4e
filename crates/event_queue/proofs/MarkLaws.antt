-- Laws of the marks of places.
use Rattle.std.proofs.Common.{◌≡◌, ◌≢◌, ℕ, zero, suc, ◌+◌, ◌*◌, ◌/◌, ◌%◌, ◌^◌, ◌<◌, List, length, get_or, set, replicate, refl, ap, sym, ◌∙◌, inl, inr, arith, w64}
use Rattle.std.specs.Int.{bit_at, trailing_zeros}
use Rattle.std.proofs.lemmas.Bool.{cases_eq, cases_lt}
use Rattle.std.proofs.lemmas.List.{get_or-set_same, get_or-set_other}
use Rattle.std.proofs.lemmas.Nat.Bits.{bit_at-zero, bit_at-trailing_zeros}
use Rattle.event_queue.specs.Marks.{IsFirstMark, mark_at}

same_place : (a b : ℕ) → a / 64 ≡ b / 64 → a % 64 ≡ b % 64 → a ≡ b
same_place a b quotient rest = omega arith

-- a word in which one bit was written
pub written : (words : List ℕ) (place word bit : ℕ) → length words ≡ 4 → place < 256 → bit_at word (place % 64) ≡ bit → mark_at place (set words (place / 64) word) ≡ bit
written words place word bit four within is =
    ap (λ w. bit_at w (place % 64)) (get_or-set_same words (place / 64) word 0 (omega arith)) ∙ is

-- the marks of all other places
pub unwritten : (words : List ℕ) (place word other : ℕ) → length words ≡ 4 → place < 256 → ((i : ℕ) → i < 64 → i ≢ place % 64 → bit_at word i ≡ bit_at (get_or words (place / 64) 0) i) → other ≢ place → mark_at other (set words (place / 64) word) ≡ mark_at other words
unwritten words place word other four within others is_other =
    elim (cases_eq (other / 64) (place / 64)) [
      | inl same ↦
          ap (λ q. bit_at (get_or (set words (place / 64) word) q 0) (other % 64)) same
          ∙ ap (λ w. bit_at w (other % 64)) (get_or-set_same words (place / 64) word 0 (omega arith))
          ∙ others (other % 64) (omega arith) (λ rest. is_other (same_place other place same rest))
          ∙ ap (λ q. bit_at (get_or words q 0) (other % 64)) (sym same)
      | inr differs ↦ ap (λ w. bit_at w (other % 64)) (get_or-set_other words (place / 64) (other / 64) word 0 differs)
    ]

-- no mark in words that are all zero
pub unmarked : (words : List ℕ) (place : ℕ) → get_or words (place / 64) 0 ≡ 0 → mark_at place words ≡ 0
unmarked words place none = ap (λ w. bit_at w (place % 64)) none ∙ bit_at-zero (place % 64)

-- the first mark, in the first word that isn't zero
pub first_mark : (words : List ℕ) (i word : ℕ) → i < 4 → word ≡ get_or words i 0 → 0 < word → word < 2 ^ 64 → ((k : ℕ) → k < i → get_or words k 0 ≡ 0) → IsFirstMark (64 * i + trailing_zeros w64 word) words
first_mark words i word within is some fits none =
    at (trailing_zeros w64 word) (bit_at-trailing_zeros w64 word some fits)
  where
    at : (t : ℕ) → (t < 64) × (bit_at word t ≡ 1) × ((j : ℕ) → j < t → bit_at word j ≡ 0) → IsFirstMark (64 * i + t) words
    at t lowest = record {
      within = omega (arith, lowest.0);
      marked = in_word (64 * i + t) t (omega (arith, lowest.0)) (omega (arith, lowest.0)) ∙ lowest.1;
      before = earlier;
    }
      where
        in_word : (place r : ℕ) → place / 64 ≡ i → place % 64 ≡ r → mark_at place words ≡ bit_at word r
        in_word place r quotient rest =
            ap (λ q. bit_at (get_or words q 0) (place % 64)) quotient
            ∙ ap (λ m. bit_at (get_or words i 0) m) rest
            ∙ ap (λ w. bit_at w r) (sym is)

        earlier : (place : ℕ) → place < 64 * i + t → mark_at place words ≡ 0
        earlier place below =
            elim (cases_lt (place / 64) i) [
              | inl low ↦ unmarked words place (none (place / 64) low)
              | inr high ↦
                  in_word place (place % 64) (omega (arith, lowest.0)) refl ∙ lowest.2 (place % 64) (omega (arith, lowest.0))
            ]

pub replicate-same : {X : Type 0} (n i : ℕ) (x : X) → get_or (replicate n x) i x ≡ x
replicate-same zero i x = refl
replicate-same (suc n) zero x = refl
replicate-same (suc n) (suc i) x = replicate-same n i x

-- no mark in words of zeros
pub no_marks : (n place : ℕ) → mark_at place (replicate n 0) ≡ 0
no_marks n place = unmarked (replicate n 0) place (replicate-same n (place / 64) 0)
