-- Rising lists of nodes below a number.
use Rattle.std.proofs.Common.{ℕ, zero, suc, ◌+◌, ◌<◌, ◌≤◌, List, [], ◌∷◌, length, arith, inl, inr}
use Rattle.std.specs.Prelude.{◌==◌, nat_lt, All}
use Rattle.std.proofs.lemmas.Bool.{cases_Bool}
use Rattle.std.proofs.lemmas.Bool.Decides.{nat_tests}
use Rattle.dir_list.specs.Lists.{AreRising, in_order, with_node}

-- a node more
pub rising_with : (nodes from node : ℕ) (xs : List ℕ) → AreRising nodes from xs → from ≤ node → node < nodes → AreRising nodes from (with_node node xs)
rising_with nodes from node [] are low high = (low, high, tt)
rising_with nodes from node (first ∷ rest) are low high = elim (cases_Bool (nat_lt node first)) [
  | inl before ↦ rw before (low, high, (grind (arith, nat_tests), are.1, are.2))
  | inr not_before ↦ elim (cases_Bool (node == first)) [
    | inl same ↦ rw (not_before, same) are
    | inr apart ↦ rw (not_before, apart) (are.0, are.1, rising_with nodes (first + 1) node rest are.2 (grind (arith, nat_tests)) high)
  ]
]

-- there are no more of them than there are numbers
pub rising_few : (nodes from : ℕ) (xs : List ℕ) → AreRising nodes from xs → from ≤ nodes → length xs + from ≤ nodes
rising_few nodes from [] are low = omega arith
rising_few nodes from (first ∷ rest) are low = let few = rising_few nodes (first + 1) rest are.2 (let b = are.1 in omega arith) in let a = are.0 in omega arith

pub rising_below : (nodes from : ℕ) (xs : List ℕ) → AreRising nodes from xs → All (λ node. node < nodes) xs
rising_below nodes from [] are k d below = absurd (omega arith)
rising_below nodes from (first ∷ rest) are zero d below = are.1
rising_below nodes from (first ∷ rest) are (suc k) d below = rising_below nodes (first + 1) rest are.2 k d (omega arith)

pub rising_in_order : (nodes : ℕ) (xs : List ℕ) → All (λ node. node < nodes) xs → AreRising nodes 0 (in_order xs)
rising_in_order nodes [] all = tt
rising_in_order nodes (x ∷ xs) all =
    rising_with nodes 0 x (in_order xs) (rising_in_order nodes xs (λ k d within. all (suc k) d (omega arith))) (omega arith) (all zero x (omega arith))
