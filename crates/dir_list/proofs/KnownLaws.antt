-- What readers have in common, whoever comes and goes.
use Rattle.std.proofs.Common.{◌≡◌, ℕ, zero, suc, ◌+◌, ◌-◌, ◌<◌, ◌≤◌, ◌==◌, nat_lt, not, Bool, true, false, cond, List, [], ◌∷◌, ◌++◌, length, length-append, refl, arith}
use Rattle.std.proofs.lemmas.Bool.Decides.{nat_tests}
use Rattle.std.proofs.lemmas.List.Edits.{length-remove}
use Rattle.std.proofs.lemmas.List.Elements.{All-append, All-filter, All-take, All-drop}
use Rattle.std.specs.Prelude.{All, Some, None, take, drop}
use Rattle.std.specs.List.{filter, remove}
use Rattle.dir_list.specs.declared.readers.Readers.{Readers}
use Rattle.dir_list.specs.declared.readers.Readers.TheVariants.{Listed, Counted}
use Rattle.dir_list.specs.declared.readers.Removed.TheVariants.{Left, Empty}
use Rattle.dir_list.specs.Lists.{AreRising, first_place, taken_out, in_order}
use Rattle.dir_list.proofs.RisingLaws.{rising_few, rising_below, rising_in_order}
use Rattle.dir_list.specs.Known.{AreSome, AreBelow, IfLeft, count_of, first_of, add_of, left_of, remove_of}

one_reader : (nodes node : ℕ) → node < nodes → All (λ reader. reader < nodes) (node ∷ [])
one_reader nodes node below zero d within = below
one_reader nodes node below (suc k) d within = absurd (omega arith)

pub some_first : (node pointers : ℕ) → AreSome pointers (first_of node pointers)
some_first node pointers = by (pointers == 0) refl
  where
    by : (none : Bool) → (pointers == 0) ≡ none → AreSome pointers (cond none (Counted 1) (Listed (node ∷ [])))
    by true is = omega arith
    by false is = (omega arith, grind (arith, nat_tests))

pub below_first : (nodes node pointers : ℕ) → node < nodes → AreBelow nodes (first_of node pointers)
below_first nodes node pointers below = by (pointers == 0)
  where
    by : (none : Bool) → AreBelow nodes (cond none (Counted 1) (Listed (node ∷ [])))
    by true = tt
    by false = one_reader nodes node below

pub count_first : (node pointers : ℕ) → count_of (first_of node pointers) ≡ 1
count_first node pointers = by (pointers == 0)
  where
    by : (none : Bool) → count_of (cond none (Counted 1) (Listed (node ∷ []))) ≡ 1
    by true = refl
    by false = refl

pub some_add : (node pointers : ℕ) (readers : Readers) → AreSome pointers readers → AreSome pointers (add_of node pointers readers)
some_add node pointers (Counted count) some = omega arith
some_add node pointers (Listed nodes) some = by (nat_lt (length nodes) pointers) refl
  where
    by : (room : Bool) → nat_lt (length nodes) pointers ≡ room → AreSome pointers (cond room (Listed (nodes ++ node ∷ [])) (Counted (length nodes + 1)))
    by false is = omega arith
    by true is =
        let more = length-append nodes (node ∷ []) in
        let room : length nodes < pointers = grind (arith, nat_tests) in
        (omega arith, omega arith)

pub below_add : (nodes node pointers : ℕ) (readers : Readers) → node < nodes → AreBelow nodes readers → AreBelow nodes (add_of node pointers readers)
below_add nodes node pointers (Counted count) below all = tt
below_add nodes node pointers (Listed readers) below all = by (nat_lt (length readers) pointers)
  where
    by : (room : Bool) → AreBelow nodes (cond room (Listed (readers ++ node ∷ [])) (Counted (length readers + 1)))
    by false = tt
    by true = All-append (λ reader. reader < nodes) readers (node ∷ []) all (one_reader nodes node below)

pub count_add : (node pointers : ℕ) (readers : Readers) → count_of (add_of node pointers readers) ≡ count_of readers + 1
count_add node pointers (Counted count) = refl
count_add node pointers (Listed nodes) = by (nat_lt (length nodes) pointers)
  where
    by : (room : Bool) → count_of (cond room (Listed (nodes ++ node ∷ [])) (Counted (length nodes + 1))) ≡ length nodes + 1
    by false = refl
    by true = length-append nodes (node ∷ [])

-- what holds of each list that is left holds of what is left
of_left : (Holds : Readers → Type 0) (nodes : List ℕ) → (1 ≤ length nodes → Holds (Listed nodes)) → IfLeft (left_of (Some nodes)) Holds
of_left Holds [] holds = tt
of_left Holds (first ∷ rest) holds = holds (omega arith)

of_taken : (Holds : Readers → Type 0) (node : ℕ) (nodes : List ℕ) →
    (first_place node nodes < length nodes → 1 ≤ length (remove nodes (first_place node nodes)) → Holds (Listed (remove nodes (first_place node nodes)))) →
    IfLeft (left_of (taken_out node nodes)) Holds
of_taken Holds node nodes holds = by (nat_lt (first_place node nodes) (length nodes)) refl
  where
    by : (there : Bool) → nat_lt (first_place node nodes) (length nodes) ≡ there →
        IfLeft (left_of (cond there (Some (remove nodes (first_place node nodes))) None)) Holds
    by false is = tt
    by true is = of_left Holds (remove nodes (first_place node nodes)) (holds (grind (arith, nat_tests)))

of_counted : (Holds : Readers → Type 0) (count : ℕ) → (1 < count → Holds (Counted (count - 1))) → IfLeft (cond (nat_lt 1 count) (Left (Counted (count - 1))) Empty) Holds
of_counted Holds count holds = by (nat_lt 1 count) refl
  where
    by : (more : Bool) → nat_lt 1 count ≡ more → IfLeft (cond more (Left (Counted (count - 1))) Empty) Holds
    by false is = tt
    by true is = holds (grind (arith, nat_tests))

pub some_left : (node pointers : ℕ) (readers : Readers) → AreSome pointers readers → IfLeft (remove_of node readers) (AreSome pointers)
some_left node pointers (Counted count) some = of_counted (AreSome pointers) count (λ more. omega arith)
some_left node pointers (Listed nodes) some =
    of_taken (AreSome pointers) node nodes (λ there left. let less = length-remove nodes (first_place node nodes) there in (left, omega arith))

pub count_left : (node : ℕ) (readers : Readers) → IfLeft (remove_of node readers) (λ left. count_of left ≤ count_of readers)
count_left node (Counted count) = of_counted (λ left. count_of left ≤ count) count (λ more. omega arith)
count_left node (Listed nodes) =
    of_taken (λ left. count_of left ≤ length nodes) node nodes (λ there left. let less = length-remove nodes (first_place node nodes) there in omega arith)

-- All of a list holds of it without an entry.
all_removed : (P : ℕ → Type 0) (xs : List ℕ) (i : ℕ) → All P xs → All P (remove xs i)
all_removed P xs i all = All-append P (take i xs) (drop (suc i) xs) (All-take P i xs all) (All-drop P (suc i) xs all)

pub below_left : (nodes node : ℕ) (readers : Readers) → AreBelow nodes readers → IfLeft (remove_of node readers) (AreBelow nodes)
below_left nodes node (Counted count) all = of_counted (AreBelow nodes) count (λ more. tt)
below_left nodes node (Listed readers) all =
    of_taken (AreBelow nodes) node readers (λ there left. all_removed (λ reader. reader < nodes) readers (first_place node readers) all)

-- the others are nodes of the machine, and no more than it has
pub rising_others : (nodes node : ℕ) (readers : List ℕ) → All (λ reader. reader < nodes) readers → AreRising nodes 0 (in_order (filter (λ listed. not (listed == node)) readers))
rising_others nodes node readers all =
    rising_in_order nodes (filter (λ listed. not (listed == node)) readers) (All-filter (λ listed. not (listed == node)) (λ reader. reader < nodes) readers all)

pub few_others : (nodes node : ℕ) (readers : List ℕ) → All (λ reader. reader < nodes) readers → length (in_order (filter (λ listed. not (listed == node)) readers)) ≤ nodes
few_others nodes node readers all = let few = rising_few nodes 0 _ (rising_others nodes node readers all) (omega arith) in omega arith

pub below_others : (nodes node : ℕ) (readers : List ℕ) → All (λ reader. reader < nodes) readers → All (λ reader. reader < nodes) (in_order (filter (λ listed. not (listed == node)) readers))
below_others nodes node readers all = rising_below nodes 0 _ (rising_others nodes node readers all)
