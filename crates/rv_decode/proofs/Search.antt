-- The search for the row of a word.
use Rattle.std.proofs.Common.{◌≡◌, ℕ, ◌≤◌, Bool, true, false, not, ◌&&◌, List, [], ◌∷◌, length, Some, None, cond, refl, ap, sym, ◌∙◌, arith, bit_and, eqb-true, eq-eqb, ne_eqb}
use Rattle.std.specs.Prelude.{find, filter, ◌==◌}
use Rattle.std.specs.List.{list_all}
use Rattle.std.proofs.lemmas.Bool.{and_parts, not-true, both_ways}
use Rattle.std.proofs.lemmas.Nat.{and_assoc, and_comm}
use Rattle.rv_decode.specs.Table.{Row, matches, meaning, instruction_table, decode_of, MatchesAtMostOne}
use Rattle.rv_decode.specs.declared.instr.Instr.TheVariants.{Illegal}

-- a word of whose bits those under the probe are the value may match the row
abbrev pub agrees : ℕ → ℕ → Row → Bool
agrees probe value r = bit_and value r.mask == bit_and r.match probe

and-swap : (word probe mask : ℕ) → bit_and (bit_and word probe) mask ≡ bit_and (bit_and word mask) probe
and-swap word probe mask =
    and_assoc mask word probe ∙ (ap (bit_and word) (and_comm probe mask) ∙ sym (and_assoc probe word mask))

-- a row that the word matches agrees with each part of the word
matches-agrees : (word probe value : ℕ) → bit_and word probe ≡ value → (r : Row) → matches word r ≡ true → agrees probe value r ≡ true
matches-agrees word probe value e r h =
    eq-eqb _ _
    (ap (λ v. bit_and v r.mask) (sym e) ∙ (and-swap word probe r.mask ∙ ap (λ v. bit_and v probe) (eqb-true _ _ h)))

find_step : {X : Type 0} (p : X → Bool) (x : X) (rest kept : List X) (b c : Bool) → p x ≡ b → (b ≡ true → c ≡ true) → find p rest ≡ find p kept → cond b (Some x) (find p rest) ≡ find p (cond c (x ∷ kept) kept)
find_step p x rest kept true true e h same = rw e refl
find_step p x rest kept true false e h same = let wrong = h refl in cc
find_step p x rest kept false true e h same = rw e same
find_step p x rest kept false false e h same = same

-- a search may leave out what it wouldn't find
find-filter : {X : Type 0} (p q : X → Bool) → ((x : X) → p x ≡ true → q x ≡ true) → (xs : List X) → find p xs ≡ find p (filter q xs)
find-filter p q h [] = refl
find-filter p q h (x ∷ xs) = find_step p x xs (filter q xs) (p x) (q x) refl (h x) (find-filter p q h xs)

-- so the rows that don't agree with a part of the word can be left out
pub narrowed : (word probe value : ℕ) → bit_and word probe ≡ value → decode_of word ≡ meaning word (find (matches word) (filter (agrees probe value) instruction_table))
unfolding decode_of
narrowed word probe value e =
    ap (meaning word) (find-filter (matches word) (agrees probe value) (matches-agrees word probe value e) instruction_table)

-- a row that agrees with no other
pub found : (r : Row) → filter (agrees r.mask r.match) instruction_table ≡ r ∷ [] → (word : ℕ) → bit_and word r.mask ≡ r.match → decode_of word ≡ r.instr word
found r alone word e =
    narrowed word r.mask r.match e
    ∙ (ap (λ rows. meaning word (find (matches word) rows)) alone
    ∙ ap (λ b. meaning word (cond b (Some r) None)) (eq-eqb _ _ e))

-- no row agrees
pub none : (probe value : ℕ) → filter (agrees probe value) instruction_table ≡ [] → (word : ℕ) → bit_and word probe ≡ value → decode_of word ≡ Illegal
none probe value empty word e =
    narrowed word probe value e ∙ ap (λ rows. meaning word (find (matches word) rows)) empty

-- two rows of which no word matches both
abbrev differ : Row → Row → Bool
differ r s = not (bit_and r.match s.mask == bit_and s.match r.mask)

-- each two rows of a list
abbrev all_differ : List Row → Bool
all_differ [] = true
all_differ (r ∷ rs) = list_all (differ r) rs && all_differ rs

one_of_two : (word : ℕ) (r s : Row) → differ r s ≡ true → matches word r ≡ true → matches word s ≡ false
one_of_two word r s d h =
    ne_eqb _ _
    (λ e.
    both_ways _ (not-true _ d)
    (eq-eqb _ _ (ap (λ v. bit_and v s.mask) (sym (eqb-true _ _ h)) ∙ (and-swap word r.mask s.mask ∙ ap (λ v. bit_and v r.mask) e))))

no_other : (word : ℕ) (r : Row) → matches word r ≡ true → (rs : List Row) → list_all (differ r) rs ≡ true → filter (matches word) rs ≡ []
no_other word r h [] all = refl
no_other word r h (s ∷ rs) all =
    let parts = and_parts _ _ all in
    ap (λ b. cond b (s ∷ filter (matches word) rs) (filter (matches word) rs)) (one_of_two word r s parts.0 h)
    ∙ no_other word r h rs parts.1

count_step : (word : ℕ) (r : Row) (kept : List Row) (b : Bool) → (b ≡ true → kept ≡ []) → length kept ≤ 1 → length (cond b (r ∷ kept) kept) ≤ 1
count_step word r kept true none few = let e = none refl in rw e (omega arith)
count_step word r kept false none few = few

at_most_one_of : (word : ℕ) (rs : List Row) → all_differ rs ≡ true → length (filter (matches word) rs) ≤ 1
at_most_one_of word [] all = omega arith
at_most_one_of word (r ∷ rs) all =
    let parts = and_parts _ _ all in
    count_step word r (filter (matches word) rs) (matches word r) (λ h. no_other word r h rs parts.0) (at_most_one_of word rs parts.1)

-- no word matches two rows
pub at_most_one : (word : ℕ) → MatchesAtMostOne word
unfolding instruction_table
at_most_one word = at_most_one_of word instruction_table refl
