-- Who holds a block, node by node, and the first writer beside another node.
use Rattle.std.proofs.Common.{◌≡◌, ℕ, zero, suc, ◌+◌, ◌<◌, nat_lt, Bool, true, false, cond, List, [], ◌∷◌, ◌++◌, length, map, take, get_or, Option, Some, None, refl, ap, sym, ◌∙◌, subst, inl, inr, arith, eqb-true}
use Rattle.std.specs.Prelude.{flat_map, slice_get, ◌==◌, ◌||◌, ◌&&◌, not}
use Rattle.std.specs.List.{filter}
use Rattle.std.proofs.lemmas.Bool.{cases_Bool}
use Rattle.std.proofs.lemmas.Bool.Decides.{nat_tests}
use Rattle.std.proofs.lemmas.List.{map-append, append-nil}
use Rattle.dir_list.specs.Lists.{with_node}
use Rattle.discrete_events.specs.Laws.{IsIn}
use Rattle.discrete_events.proofs.Lists.{from_map, from_filter, in_filter}
use Rattle.wt_params.specs.declared.parts.MachineParts.{MachineParts}
use Rattle.node.specs.declared.state.NodeState.{NodeState}
use Rattle.quantum.specs.Stations.{StationModel}
use Rattle.wt_report.specs.Stations.{AreStationsOf, node_of, nodes_of}
use Rattle.coherence.specs.declared.breaches.Breach.{Breach}
use Rattle.coherence.specs.Copies.{writes, reads, number_of, writers_of, is_beside, two, beside, twos_of}
use Rattle.coherence.proofs.Firsts.{passed_more, first_of, first_before, none_first, flat_none}

-- ---- one more node

-- a number above all of a list goes to its end
with_last : (node : ℕ) (xs : List ℕ) → ((x : ℕ) → IsIn x xs → x < node) → with_node node xs ≡ xs ++ node ∷ []
with_last node [] below = refl
with_last node (x ∷ xs) below = later x (with_node node xs) (below x (inl refl)) ∙ ap (λ (l : List ℕ). x ∷ l) (with_last node xs (λ y h. below y (inr h)))
  where
    later : (first : ℕ) (rest : List ℕ) → first < node → cond (nat_lt node first) (node ∷ (first ∷ xs)) (cond (node == first) (first ∷ xs) (first ∷ rest)) ≡ first ∷ rest
    later first rest above = grind (arith, nat_tests)

-- where a member of a front part stands
place_of : {X : Type 0} (x : X) (xs : List X) (i : ℕ) → IsIn x (take i xs) → (k : ℕ) × (k < i) × (k < length xs) × (x ≡ get_or xs k x)
place_of x xs zero is = absurd is
place_of x [] (suc i) is = absurd is
place_of x (y ∷ xs) (suc i) (inl e) = (0, omega arith, omega arith, e)
place_of x (y ∷ xs) (suc i) (inr is) = let r = place_of x xs i is in (suc r.0, omega (arith, r.1), omega (arith, r.2), r.3)

module _ (machine : MachineParts) (stations : List StationModel) (are : AreStationsOf machine stations) (p : NodeState → Bool) where
  abbrev passed : List StationModel → List ℕ
  passed some = map number_of (filter p (nodes_of some))

  -- Those so far have lesser numbers.
  so_far_below : (i : ℕ) (x : ℕ) → IsIn x (passed (take i stations)) → x < i
  so_far_below i x is = of (from_map number_of x (filter p (nodes_of (take i stations))) is)
    where
      of : (node : NodeState) × IsIn node (filter p (nodes_of (take i stations))) × (x ≡ number_of node) → x < i
      of (node, member, x_is) = at (from_map node_of node (take i stations) (from_filter p node (nodes_of (take i stations)) member).0)
        where
          at : (station : StationModel) × IsIn station (take i stations) × (node ≡ node_of station) → x < i
          at (station, there, node_is) =
              let place = place_of station stations i there in
              let number = (are.each place.0 station place.2).number in
              let here : node.number ≡ place.0 = ap number_of node_is ∙ ap (λ (s : StationModel). (node_of s).number) place.3 ∙ number in
              let small = place.1 in omega (arith, x_is, here, small)

  pub passed_with : (i : ℕ) (station : StationModel) (before : List ℕ) → i < length stations → station ≡ get_or stations i station → before ≡ passed (take i stations) →
      cond (p (node_of station)) (with_node (node_of station).number before) before ≡ passed (take (i + 1) stations)
  passed_with i station before within at so_far =
      ap (λ (l : List ℕ). cond (p (node_of station)) (with_node (node_of station).number l) l) so_far
      ∙ by (p (node_of station))
      ∙ sym (map-append number_of (filter p (nodes_of (take i stations))) (filter p (node_of station ∷ [])))
      ∙ ap (map number_of) (sym (passed_more p node_of stations i station within at))
    where
      number_is : (node_of station).number ≡ i
      number_is = ap (λ (s : StationModel). (node_of s).number) at ∙ (are.each i station within).number

      by : (b : Bool) → cond b (with_node (node_of station).number (passed (take i stations))) (passed (take i stations)) ≡ passed (take i stations) ++ map number_of (cond b (node_of station ∷ []) [])
      by true = with_last (node_of station).number (passed (take i stations)) (λ x h. let b = so_far_below i x h in omega (arith, b, number_is))
      by false = sym (append-nil (passed (take i stations)))

-- ---- a writer beside another node

module _ (nodes : List NodeState) (block writer : ℕ) where
  -- Where the writer is alone, no other node writes.
  alone : (x : ℕ) → IsIn x (writers_of nodes block) → beside nodes block writer ≡ [] → beside nodes block x ≡ []
  alone x is none = of (from_map number_of x (filter (writes block) nodes) is)
    where
      empty : (l : List NodeState) → map (two block writer) l ≡ [] → l ≡ []
      empty [] e = refl
      empty (y ∷ l) e = absurd cc

      of : (node : NodeState) × IsIn node (filter (writes block) nodes) × (x ≡ number_of node) → beside nodes block x ≡ []
      of (node, member, x_is) = elim (cases_Bool (node.number == writer)) [
        | inl same ↦ ap (beside nodes block) (x_is ∙ eqb-true node.number writer same) ∙ none
        | inr apart ↦
            let from = from_filter (writes block) node nodes member in
            let tests : is_beside block writer node ≡ true = ap (λ (w : Bool). (w || reads block node) && not (node.number == writer)) from.1 ∙ ap not apart in
            let there = in_filter (is_beside block writer) node nodes from.0 tests in
            absurd (subst (IsIn node) (empty (filter (is_beside block writer) nodes) none) there)
      ]

-- the first writer has the first other, if any has
pub first_pair : (nodes : List NodeState) (block writer : ℕ) → slice_get (writers_of nodes block) 0 ≡ Some writer → slice_get (beside nodes block writer) 0 ≡ slice_get (twos_of nodes block) 0
first_pair nodes block writer is = by (first_of (writers_of nodes block) writer is) (slice_get (beside nodes block writer) 0) refl
  where
    by : (rest : List ℕ) × (writers_of nodes block ≡ writer ∷ rest) → (found : Option Breach) → slice_get (beside nodes block writer) 0 ≡ found → found ≡ slice_get (twos_of nodes block) 0
    by (rest, whole) (Some breach) e =
        sym (first_before (beside nodes block writer) (flat_map (beside nodes block) rest) breach e)
        ∙ ap (λ (l : List ℕ). slice_get (flat_map (beside nodes block) l) 0) (sym whole)
    by (rest, whole) None e =
        sym (ap (λ (l : List Breach). slice_get l 0) (flat_none (beside nodes block) (writers_of nodes block) (λ x h. alone nodes block writer x h (none_first (beside nodes block writer) e))))

pub no_pair : (nodes : List NodeState) (block : ℕ) → slice_get (writers_of nodes block) 0 ≡ None → slice_get (twos_of nodes block) 0 ≡ None
no_pair nodes block none = ap (λ (l : List ℕ). slice_get (flat_map (beside nodes block) l) 0) (none_first (writers_of nodes block) none)
