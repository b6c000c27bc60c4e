-- What bits in words have to do with rising lists of nodes.
use Rattle.std.proofs.Common.{◌≡◌, ◌≢◌, ℕ, zero, suc, ◌+◌, ◌*◌, ◌/◌, ◌%◌, ◌^◌, ◌<◌, ◌≤◌, Bool, true, false, cond, List, [], ◌∷◌, ◌++◌, length, refl, ap, sym, ◌∙◌, subst, arith, get_or, set, add-one, w64, eqb-true, eq-eqb, true≢false}
use Rattle.std.proofs.Math.Nat.{div-add-mod}
use Rattle.std.proofs.lemmas.Bool.{cases_lt}
use Rattle.std.proofs.lemmas.Bool.Decides.{nat_tests}
use Rattle.std.proofs.lemmas.List.{get_or-set_same, get_or-set_other}
use Rattle.std.proofs.lemmas.Nat.Bits.{bit_at-zero, bit_at_set_same, bit_at_set_other}
use Rattle.std.specs.Int.{bit_at}
use Rattle.std.specs.Int.RustNames.{bit_or}
use Rattle.std.specs.Prelude.{◌==◌}
use Rattle.std.specs.List.{filter, range_with_len}
use mathlib.Core.Logic.{◌⊎◌, inl, inr}
use Rattle.dir_list.specs.Lists.{with_node}
use Rattle.wt_proto.specs.NodeSets.{nodes_below, has_bit, members_from, has_node}

range-more : (first count last : ℕ) → last ≡ first + count → range_with_len first (suc count) ≡ range_with_len first count ++ last ∷ []
range-more first zero last is = ap (λ n. n ∷ []) (omega arith)
range-more first (suc count) last is = ap (λ rest. first ∷ rest) (range-more (first + 1) count last (omega arith))

-- one more node
pub nodes_below-more : (count : ℕ) → nodes_below (count + 1) ≡ nodes_below count ++ count ∷ []
nodes_below-more count = ap nodes_below (add-one count) ∙ range-more 0 count count (omega arith)

goes_before : (n k : ℕ) (rest : List ℕ) → n < k → with_node n (k ∷ rest) ≡ n ∷ (k ∷ rest)
goes_before n k rest below = grind (arith, nat_tests)

same_first : (n : ℕ) (rest : List ℕ) → with_node n (n ∷ rest) ≡ n ∷ rest
same_first n rest = grind (arith, nat_tests)

goes_later : (n k : ℕ) (rest : List ℕ) → k < n → with_node n (k ∷ rest) ≡ k ∷ with_node n rest
goes_later n k rest above = grind (arith, nat_tests)

-- a node before all of a list goes first
goes_first : (n first count : ℕ) (test : ℕ → Bool) → n < first → with_node n (filter test (range_with_len first count)) ≡ n ∷ filter test (range_with_len first count)
goes_first n first zero test below = refl
goes_first n first (suc count) test below = by (test first) (goes_first n (first + 1) count test (omega arith))
  where
    by : (passes : Bool) → with_node n (filter test (range_with_len (first + 1) count)) ≡ n ∷ filter test (range_with_len (first + 1) count) →
        with_node n (cond passes (first ∷ filter test (range_with_len (first + 1) count)) (filter test (range_with_len (first + 1) count))) ≡ n ∷ cond passes (first ∷ filter test (range_with_len (first + 1) count)) (filter test (range_with_len (first + 1) count))
    by true rest = goes_before n first (filter test (range_with_len (first + 1) count)) below
    by false rest = rest

-- tests that agree from a number on leave the same
filter_same : (test other : ℕ → Bool) (first count : ℕ) → ((k : ℕ) → first ≤ k → other k ≡ test k) → filter other (range_with_len first count) ≡ filter test (range_with_len first count)
filter_same test other first zero same = refl
filter_same test other first (suc count) same =
    rw (same first (omega arith), filter_same test other (first + 1) count (λ k after. same k (omega arith))) refl

-- one number more passes
filter_more : (test other : ℕ → Bool) (first count node : ℕ) → first ≤ node → node < first + count → other node ≡ true → ((k : ℕ) → k ≢ node → other k ≡ test k) →
    filter other (range_with_len first count) ≡ with_node node (filter test (range_with_len first count))
filter_more test other first zero node from below passes same = absurd (omega arith)
filter_more test other first (suc count) node from below passes same =
    by (cases_lt first node) (λ later. filter_more test other (first + 1) count node (omega arith) (omega arith) passes same)
  where
    here : (had : Bool) → first ∷ (filter test (range_with_len (first + 1) count)) ≡ with_node first (cond had (first ∷ (filter test (range_with_len (first + 1) count))) (filter test (range_with_len (first + 1) count)))
    here true = sym (same_first first (filter test (range_with_len (first + 1) count)))
    here false = sym (goes_first first (first + 1) count test (omega arith))

    later : (had : Bool) → first < node → (filter other (range_with_len (first + 1) count)) ≡ with_node node (filter test (range_with_len (first + 1) count)) → cond had (first ∷ (filter other (range_with_len (first + 1) count))) (filter other (range_with_len (first + 1) count)) ≡ with_node node (cond had (first ∷ (filter test (range_with_len (first + 1) count))) (filter test (range_with_len (first + 1) count)))
    later true above is = ap (λ all. first ∷ all) is ∙ sym (goes_later node first (filter test (range_with_len (first + 1) count)) above)
    later false above is = is

    by : (first < node) ⊎ (node ≤ first) → (first < node → (filter other (range_with_len (first + 1) count)) ≡ with_node node (filter test (range_with_len (first + 1) count))) → cond (other first) (first ∷ (filter other (range_with_len (first + 1) count))) (filter other (range_with_len (first + 1) count)) ≡ with_node node (cond (test first) (first ∷ (filter test (range_with_len (first + 1) count))) (filter test (range_with_len (first + 1) count)))
    by (inl above) is =
        let apart : first ≢ node = λ equal. absurd (omega arith) in
        ap (λ had. cond had (first ∷ (filter other (range_with_len (first + 1) count))) (filter other (range_with_len (first + 1) count))) (same first apart) ∙ later (test first) above (is above)
    by (inr upto) is =
        let equal : node ≡ first = omega arith in
        let here_passes : other first ≡ true = subst (λ n. other n ≡ true) equal passes in
        let unchanged : (filter other (range_with_len (first + 1) count)) ≡ (filter test (range_with_len (first + 1) count)) = filter_same test other (first + 1) count (λ k after. same k (λ is_node. absurd (omega arith))) in
        ap (λ had. cond had (first ∷ (filter other (range_with_len (first + 1) count))) (filter other (range_with_len (first + 1) count))) here_passes ∙ (ap (λ all. first ∷ all) unchanged ∙ (here (test first) ∙ ap (λ n. with_node n (cond (test first) (first ∷ (filter test (range_with_len (first + 1) count))) (filter test (range_with_len (first + 1) count)))) (sym equal)))

other_number : (a b : ℕ) → a < b → ((a == b) ≡ false) × ((b == a) ≡ false)
other_number a b below = grind (arith, nat_tests)

-- no number before the first one is there
absent : (test : ℕ → Bool) (first count node : ℕ) → node < first → has_node (filter test (range_with_len first count)) node ≡ false
absent test first zero node before = refl
absent test first (suc count) node before = by (test first) (absent test (first + 1) count node (omega arith))
  where
    by : (passes : Bool) → has_node (filter test (range_with_len (first + 1) count)) node ≡ false → has_node (cond passes (first ∷ filter test (range_with_len (first + 1) count)) (filter test (range_with_len (first + 1) count))) node ≡ false
    by true none = rw ((other_number node first before).1) none
    by false none = none

pub has_node-filter : (test : ℕ → Bool) (first count node : ℕ) → first ≤ node → node < first + count → has_node (filter test (range_with_len first count)) node ≡ test node
has_node-filter test first zero node from below = absurd (omega arith)
has_node-filter test first (suc count) node from below =
    by (cases_lt first node) (λ later. has_node-filter test (first + 1) count node (omega arith) (omega arith))
  where
    later : (had : Bool) → first < node → has_node (filter test (range_with_len (first + 1) count)) node ≡ test node → has_node (cond had (first ∷ (filter test (range_with_len (first + 1) count))) (filter test (range_with_len (first + 1) count))) node ≡ test node
    later true above is = rw ((other_number first node above).0) is
    later false above is = is

    itself : (n : ℕ) → (n == n) ≡ true
    itself n = grind (arith, nat_tests)

    here : (had : Bool) → has_node (cond had (first ∷ (filter test (range_with_len (first + 1) count))) (filter test (range_with_len (first + 1) count))) first ≡ had
    here true = rw (itself first) refl
    here false = absent test (first + 1) count first (omega arith)

    by : (first < node) ⊎ (node ≤ first) → (first < node → has_node (filter test (range_with_len (first + 1) count)) node ≡ test node) → has_node (cond (test first) (first ∷ (filter test (range_with_len (first + 1) count))) (filter test (range_with_len (first + 1) count))) node ≡ test node
    by (inl above) is = later (test first) above (is above)
    by (inr upto) is = let equal : first ≡ node = omega arith in subst (λ n. has_node (cond (test first) (first ∷ (filter test (range_with_len (first + 1) count))) (filter test (range_with_len (first + 1) count))) n ≡ test n) equal (here (test first))

-- no number from the end on is there
pub has_node-past : (test : ℕ → Bool) (first count node : ℕ) → first + count ≤ node → has_node (filter test (range_with_len first count)) node ≡ false
has_node-past test first zero node past = refl
has_node-past test first (suc count) node past = by (test first) (has_node-past test (first + 1) count node (omega arith))
  where
    by : (passes : Bool) → has_node (filter test (range_with_len (first + 1) count)) node ≡ false → has_node (cond passes (first ∷ filter test (range_with_len (first + 1) count)) (filter test (range_with_len (first + 1) count))) node ≡ false
    by true none = rw ((other_number first node (omega arith)).0) none
    by false none = none

filter_none : (test : ℕ → Bool) (first count : ℕ) → ((k : ℕ) → test k ≡ false) → filter test (range_with_len first count) ≡ []
filter_none test first zero none = refl
filter_none test first (suc count) none = rw (none first) (filter_none test (first + 1) count none)

-- words without a bit have no members
pub members-empty : (words : List ℕ) (first count : ℕ) → ((i : ℕ) → get_or words i 0 ≡ 0) → members_from first count words ≡ []
unfolding members_from
members-empty words first count zeros = filter_none (has_bit words) first count unset
  where
    unset : (node : ℕ) → has_bit words node ≡ false
    unset node = rw (zeros (node / 64), bit_at-zero (node % 64)) refl

-- the words with a node's bit set
abbrev pub with_bit : List ℕ → ℕ → List ℕ
with_bit words node = set words (node / 64) (bit_or (get_or words (node / 64) 0) (1 * 2 ^ (node % 64) % 2 ^ 64))

bit_set : (words : List ℕ) (node : ℕ) → node / 64 < length words → has_bit (with_bit words node) node ≡ true
bit_set words node within =
    let word = get_or-set_same words (node / 64) (bit_or (get_or words (node / 64) 0) (1 * 2 ^ (node % 64) % 2 ^ 64)) 0 within in
    let bit = bit_at_set_same w64 (get_or words (node / 64) 0) (node % 64) (omega arith) in
    rw (word, bit) refl

bit_kept : (words : List ℕ) (node other : ℕ) → node / 64 < length words → other ≢ node → has_bit (with_bit words node) other ≡ has_bit words other
bit_kept words node other within apart = ap (λ bit. bit == 1) (by (other / 64 == node / 64) refl)
  where
    by : (same : Bool) → (other / 64 == node / 64) ≡ same → bit_at (get_or (with_bit words node) (other / 64) 0) (other % 64) ≡ bit_at (get_or words (other / 64) 0) (other % 64)
    by true is =
        let equal : other / 64 ≡ node / 64 = eqb-true _ _ is in
        let differs : other % 64 ≢ node % 64 = λ places. apart (sym (div-add-mod other 64) ∙ (ap (λ n. 64 * n + other % 64) equal ∙ (ap (λ n. 64 * (node / 64) + n) places ∙ div-add-mod node 64))) in
        rw (equal, get_or-set_same words (node / 64) (bit_or (get_or words (node / 64) 0) (1 * 2 ^ (node % 64) % 2 ^ 64)) 0 within)
        (bit_at_set_other w64 (get_or words (node / 64) 0) (node % 64) (omega arith) (other % 64) differs)
    by false is =
        let differs : other / 64 ≢ node / 64 = λ equal. true≢false (sym (eq-eqb _ _ equal) ∙ is) in
        rw (get_or-set_other words (node / 64) (other / 64) (bit_or (get_or words (node / 64) 0) (1 * 2 ^ (node % 64) % 2 ^ 64)) 0 differs) refl

-- a bit more is a node more
pub members-insert : (words : List ℕ) (count node : ℕ) → node < count → node / 64 < length words → members_from 0 count (with_bit words node) ≡ with_node node (members_from 0 count words)
unfolding members_from
members-insert words count node below within =
    filter_more (has_bit words) (has_bit (with_bit words node)) 0 count node (omega arith) (omega arith) (bit_set words node within) (λ k apart. bit_kept words node k within apart)

pub members-has : (words : List ℕ) (count node : ℕ) → node < count → has_node (members_from 0 count words) node ≡ has_bit words node
unfolding members_from
members-has words count node below = has_node-filter (has_bit words) 0 count node (omega arith) (omega arith)

pub members-past : (words : List ℕ) (count node : ℕ) → count ≤ node → has_node (members_from 0 count words) node ≡ false
unfolding members_from
members-past words count node past = has_node-past (has_bit words) 0 count node (omega arith)

-- of the nodes that are left, the first one is a member, or isn't
pub members-here : (words : List ℕ) (first count more : ℕ) → count ≡ suc more → has_bit words first ≡ true → members_from first count words ≡ first ∷ members_from (first + 1) more words
unfolding members_from
members-here words first count more one is = rw (one, is) refl

pub members-not_here : (words : List ℕ) (first count more : ℕ) → count ≡ suc more → has_bit words first ≡ false → members_from first count words ≡ members_from (first + 1) more words
unfolding members_from
members-not_here words first count more one is = rw (one, is) refl

pub members-none : (words : List ℕ) (first : ℕ) → members_from first 0 words ≡ []
unfolding members_from
members-none words first = refl
