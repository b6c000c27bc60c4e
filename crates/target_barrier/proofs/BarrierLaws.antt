-- One node for which a test fails makes it fail for all.
use Rattle.std.proofs.Common.{◌≡◌, ℕ, zero, suc, ◌+◌, ◌<◌, ◌≤◌, Bool, true, false, cond, List, [], ◌∷◌, refl, ap, sym, ◌∙◌, subst, true≢false, arith}
use Rattle.std.proofs.lemmas.List.Folds.{list_all-append}
use Rattle.std.specs.Prelude.{◌&&◌, ◌||◌, ◌==◌, nat_lt}
use borrow.Author.Tests.{eqb-true}
use Rattle.target_barrier.specs.Barrier.{AreApart}
use Rattle.wt_proto.proofs.NodeSetLaws.{nodes_below-more}
use Rattle.std.specs.List.{list_all, range_with_len}
use Rattle.dir_list.specs.Lists.{with_node}
use Rattle.wt_proto.specs.NodeSets.{has_node, nodes_below}

fails_in : (test : ℕ → Bool) (first count node : ℕ) → first ≤ node → node < first + count → test node ≡ false → list_all test (range_with_len first count) ≡ false
fails_in test first zero node from below fails = absurd (omega arith)
fails_in test first (suc count) node from below fails = grind (arith, fails_in test (first + 1) count node)

pub fails_below : (test : ℕ → Bool) (count node : ℕ) → node < count → test node ≡ false → list_all test (nodes_below count) ≡ false
fails_below test count node below fails = fails_in test 0 count node (omega arith) (omega arith) fails

pub all_more : (test : ℕ → Bool) (count : ℕ) → list_all test (nodes_below count) ≡ true → test count ≡ true → list_all test (nodes_below (count + 1)) ≡ true
all_more test count all one = rw (nodes_below-more count, list_all-append, all, one)

pub not_all : (some all : Bool) → all ≡ false → false ≡ (some && all)
not_all true all fails = sym fails
not_all false all fails = refl

or_again : (a b : Bool) → (a || b) ≡ (a || (a || b))
or_again true b = refl
or_again false b = refl

or_swap : (a b c : Bool) → (a || (b || c)) ≡ (b || (a || c))
or_swap true true c = refl
or_swap true false c = refl
or_swap false b c = refl

-- a set with a node has that node and those that it had
with_by_place : (node other first : ℕ) (rest : List ℕ) (before same : Bool) → (node == first) ≡ same → has_node (with_node node rest) other ≡ ((node == other) || has_node rest other) → has_node (cond before (node ∷ (first ∷ rest)) (cond same (first ∷ rest) (first ∷ with_node node rest))) other ≡ ((node == other) || has_node (first ∷ rest) other)
with_by_place node other first rest true same is had = refl
with_by_place node other first rest false true is had =
    let equal : node ≡ first = eqb-true node first is in
    subst (λ n. has_node (first ∷ rest) other ≡ ((n == other) || has_node (first ∷ rest) other)) (sym equal) (or_again (first == other) (has_node rest other))
with_by_place node other first rest false false is had =
    ap (λ b. (first == other) || b) had ∙ or_swap (first == other) (node == other) (has_node rest other)

has_node-with_node : (node other : ℕ) (nodes : List ℕ) → has_node (with_node node nodes) other ≡ ((node == other) || has_node nodes other)
has_node-with_node node other [] = refl
has_node-with_node node other (first ∷ rest) =
    with_by_place node other first rest (nat_lt node first) (node == first) refl (has_node-with_node node other rest)

neither : (a b : Bool) → (a || b) ≡ false → (a ≡ false) × (b ≡ false)
neither true b is = absurd (true≢false is)
neither false b is = (refl, is)

arrived_by : (arrived left : List ℕ) (node other : ℕ) (same had : Bool) → (node == other) ≡ same → has_node arrived other ≡ had → AreApart arrived left → has_node left node ≡ false → (same || had) ≡ true → has_node left other ≡ false
arrived_by arrived left node other true had is in_set apart unknown known =
    subst (λ n. has_node left n ≡ false) (eqb-true node other is) unknown
arrived_by arrived left node other false true is in_set apart unknown known = apart other in_set
arrived_by arrived left node other false false is in_set apart unknown known = absurd (true≢false (sym known))

-- a node that was unknown joins those that have arrived
pub apart_arrived : (arrived left : List ℕ) (node : ℕ) → AreApart arrived left → (has_node arrived node || has_node left node) ≡ false → AreApart (with_node node arrived) left
apart_arrived arrived left node apart unknown other in_set =
    arrived_by arrived left node other (node == other) (has_node arrived other) refl refl apart
    (neither (has_node arrived node) (has_node left node) unknown).1 (sym (has_node-with_node node other arrived) ∙ in_set)

left_by : (arrived left : List ℕ) (node other : ℕ) (same : Bool) → (node == other) ≡ same → AreApart arrived left → has_node arrived node ≡ false → has_node arrived other ≡ true → (same || has_node left other) ≡ false
left_by arrived left node other true is apart unknown in_set =
    absurd (true≢false (sym in_set ∙ subst (λ n. has_node arrived n ≡ false) (eqb-true node other is) unknown))
left_by arrived left node other false is apart unknown in_set = apart other in_set

-- or those that have left
pub apart_left : (arrived left : List ℕ) (node : ℕ) → AreApart arrived left → (has_node arrived node || has_node left node) ≡ false → AreApart arrived (with_node node left)
apart_left arrived left node apart unknown other in_set =
    has_node-with_node node other left
    ∙ left_by arrived left node other (node == other) refl apart (neither (has_node arrived node) (has_node left node) unknown).0 in_set
