-- Why the merge of the nodes' logs is what happened, in its order.
use Rattle.std.proofs.Common.{eqb, inl, inr, ◌≡◌, ℕ, zero, suc, ◌+◌, ◌<◌, ◌≤◌, Bool, true, false, cond, List, [], ◌∷◌, ◌++◌, length, map, refl, ap, sym, subst, ◌∙◌, arith, append-nil}
use Rattle.std.specs.Prelude.{All, flat_map, not, ◌&&◌, ◌⊎◌}
use Rattle.std.proofs.lemmas.Bool.{eqb-true, eqb-false, ne_eqb, cases_lt}
use Rattle.std.specs.Cmp.{tied_itself}
use Rattle.std.specs.declared.cmp.Ordering.{Ordering}
use Rattle.std.specs.declared.cmp.Ordering.TheVariants.{Less, Equal, Greater}
use Rattle.std.specs.Ordering.{is_lt, ordering_reverse}
use Rattle.std.specs.List.{filter, AllByRecursion, range_with_len}
use Rattle.std.specs.List.Sorted.{ties, IsPermutation, IsStrictlySortedBy}
use Rattle.std.proofs.lemmas.List.Elements.{filter-append}
use Rattle.std.proofs.lemmas.List.Folds.{flat_map-map}
use Rattle.wt_proto.specs.declared.key.Key.{Key}
use Rattle.wt_proto.specs.KeyOrder.{key_cmp}
use Rattle.wt_proto.specs.NodeSets.{nodes_below}
use Rattle.wt_proto.proofs.KeyLaws.{key_cmp_total, tied_keys}
use Rattle.wt_trace.specs.declared.record.Record.{Record}
use Rattle.wt_trace.specs.Merged.{by_key, records_of, merge_of, KeysRise, log_of, IsMerge}
use Rattle.wt_trace.proofs.StableSorts.{all_of_each, Rises, in_order_rises, in_order_stable, same_order}
use Rattle.wt_trace.proofs.Permuted.{same_kept, in_order_permuted}
use Rattle.wt_trace.proofs.MergeLaws.{earlier, earlier_order, by_key-in_order}

abbrev tied : Record → Record → Bool
tied = ties earlier

-- records that tie have the same key
same_key : (a b : Record) → tied a b ≡ true → a.key ≡ b.key
same_key a b is = by (key_cmp a.key b.key) refl (key_cmp_total.antisymm b.key a.key) is
  where
    by : (r : Ordering) → key_cmp a.key b.key ≡ r → key_cmp b.key a.key ≡ ordering_reverse (key_cmp a.key b.key) → tied a b ≡ true → a.key ≡ b.key
    by Less order back is = absurd (let wrong : false ≡ true = sym (ap (λ r. not (is_lt r) && not (is_lt (key_cmp b.key a.key))) order) ∙ is in cc)
    by Equal order back is = tied_keys a.key b.key order
    by Greater order back is =
        let less : key_cmp b.key a.key ≡ Less = back ∙ ap ordering_reverse order in
        absurd (let wrong : false ≡ true = sym (ap (λ r. not (is_lt r) && not (is_lt (key_cmp b.key a.key))) order ∙ ap (λ r. not (is_lt r)) less) ∙ is in cc)

-- records whose keys rise, and what ties with one of them
later_than : (x : Record) (xs : List Record) → AllByRecursion (λ k. key_cmp x.key k ≡ Less) (map (λ (item : Record). item.key) xs) → AllByRecursion (λ y. earlier y x ≡ false) xs
later_than x [] all = tt
later_than x (y ∷ xs) all = (earlier_order.one_way x y (ap is_lt all.0), later_than x xs all.1)

pub rises_from_keys : (items : List Record) → KeysRise items → Rises earlier items
unfolding IsStrictlySortedBy
rises_from_keys [] up = tt
rises_from_keys (x ∷ xs) up = (later_than x xs up.0, rises_from_keys xs up.1)

none_ties : (w x : Record) (xs : List Record) → tied w x ≡ true → AllByRecursion (λ k. key_cmp x.key k ≡ Less) (map (λ (item : Record). item.key) xs) → filter (tied w) xs ≡ []
none_ties w x [] is all = refl
none_ties w x (y ∷ xs) is all = by (tied w y) refl (none_ties w x xs is all.1)
  where
    by : (b : Bool) → tied w y ≡ b → filter (tied w) xs ≡ [] → cond b (y ∷ filter (tied w) xs) (filter (tied w) xs) ≡ []
    by true also rest = absurd (let same : x.key ≡ y.key = sym (same_key w x is) ∙ same_key w y also in let wrong : Equal ≡ Less = sym (tied_itself key_cmp_total x.key) ∙ ap (key_cmp x.key) same ∙ all.0 in cc)
    by false also rest = rest

few_tie : (w : Record) (items : List Record) → KeysRise items → length (filter (tied w) items) ≤ 1
unfolding IsStrictlySortedBy
few_tie w [] up = omega arith
few_tie w (x ∷ xs) up = by (tied w x) refl (few_tie w xs up.1)
  where
    by : (b : Bool) → tied w x ≡ b → length (filter (tied w) xs) ≤ 1 → length (cond b (x ∷ filter (tied w) xs) (filter (tied w) xs)) ≤ 1
    by true is rest = let none : length (filter (tied w) xs) ≡ 0 = ap length (none_ties w x xs is up.0) in omega (arith, none)
    by false is rest = rest

by_key_rises : (items : List Record) → Rises earlier (by_key items)
by_key_rises items = subst (Rises earlier) (sym (by_key-in_order items)) (in_order_rises earlier earlier_order items)

by_key_stable : (w : Record) (items : List Record) → filter (tied w) (by_key items) ≡ filter (tied w) items
by_key_stable w items = ap (filter (tied w)) (by_key-in_order items) ∙ in_order_stable earlier earlier_order w items

-- what rises and has at each key the records of a list is that list by keys
is_by_key : (items records : List Record) → Rises earlier items → ((w : Record) → filter (tied w) items ≡ filter (tied w) records) → items ≡ by_key records
is_by_key items records up alike =
    same_order earlier earlier_order items (by_key records) up (by_key_rises records) (λ w. alike w ∙ sym (by_key_stable w records))

one_merge : (logs : List (List Record)) (items : List Record) → IsPermutation (records_of logs) items → KeysRise items → items ≡ merge_of logs
unfolding merge_of
one_merge logs items permuted up =
    is_by_key items (records_of logs) (rises_from_keys items up) (λ w. same_kept (tied w) (records_of logs) items permuted (few_tie w items up))

all_merged : (logs : List (List Record)) → IsPermutation (records_of logs) (merge_of logs)
unfolding merge_of
all_merged logs =
    subst (IsPermutation (records_of logs)) (sym (by_key-in_order (records_of logs))) (in_order_permuted earlier (records_of logs))

-- of a node's log, what ties with a record
tied_in_log : (w : Record) (node : ℕ) (b : Bool) → eqb w.key.to node ≡ b → (items : List Record) → filter (tied w) (log_of node items) ≡ cond b (filter (tied w) items) []
tied_in_log w node true is [] = refl
tied_in_log w node false is [] = refl
tied_in_log w node b is (x ∷ xs) = by (eqb x.key.to node) refl (tied w x) refl b is (tied_in_log w node b is xs)
  where
    by : (here : Bool) → eqb x.key.to node ≡ here → (t : Bool) → tied w x ≡ t → (b : Bool) → eqb w.key.to node ≡ b → filter (tied w) (log_of node xs) ≡ cond b (filter (tied w) xs) [] → filter (tied w) (cond here (x ∷ log_of node xs) (log_of node xs)) ≡ cond b (cond t (x ∷ filter (tied w) xs) (filter (tied w) xs)) []
    by true at true ties true same rest = ap (λ b. cond b (x ∷ filter (tied w) (log_of node xs)) (filter (tied w) (log_of node xs))) ties ∙ ap (λ ys. x ∷ ys) rest
    by true at true ties false same rest = absurd (wrong ties at same)
      where
        wrong : tied w x ≡ true → eqb x.key.to node ≡ true → eqb w.key.to node ≡ false → ⊥
        wrong ties at same = let other : true ≡ false = sym at ∙ ap (λ (k : Key). eqb k.to node) (sym (same_key w x ties)) ∙ same in cc
    by true at false ties true same rest = ap (λ b. cond b (x ∷ filter (tied w) (log_of node xs)) (filter (tied w) (log_of node xs))) ties ∙ rest
    by true at false ties false same rest = ap (λ b. cond b (x ∷ filter (tied w) (log_of node xs)) (filter (tied w) (log_of node xs))) ties ∙ rest
    by false at true ties true same rest = absurd (let other : true ≡ false = sym same ∙ ap (λ (k : Key). eqb k.to node) (same_key w x ties) ∙ at in cc)
    by false at true ties false same rest = rest
    by false at false ties true same rest = rest
    by false at false ties false same rest = rest

abbrev logs_from : ℕ → ℕ → List Record → List Record
logs_from first count items = flat_map (λ node. log_of node items) (range_with_len first count)

tied_outside : (w : Record) (items : List Record) (count first : ℕ) → ((w.key.to < first) ⊎ (first + count ≤ w.key.to)) → filter (tied w) (logs_from first count items) ≡ []
tied_outside w items zero first outside = refl
tied_outside w items (suc count) first outside =
    filter-append (tied w) (log_of first items) (logs_from (first + 1) count items)
    ∙ ap (λ ys. ys ++ filter (tied w) (logs_from (first + 1) count items)) (tied_in_log w first false (ne_eqb w.key.to first (λ same. elim outside [ inl below ↦ omega arith | inr above ↦ omega arith ])) items)
    ∙ tied_outside w items count (first + 1) (elim outside [ inl below ↦ inl (omega arith) | inr above ↦ inr (omega arith) ])

tied_within : (w : Record) (items : List Record) (count first : ℕ) → first ≤ w.key.to → w.key.to < first + count → filter (tied w) (logs_from first count items) ≡ filter (tied w) items
tied_within w items zero first from below = absurd (omega arith)
tied_within w items (suc count) first from below =
    filter-append (tied w) (log_of first items) (logs_from (first + 1) count items) ∙ by (eqb w.key.to first) refl (tied_within w items count (first + 1))
  where
    rest : List Record
    rest = filter (tied w) (logs_from (first + 1) count items)

    by : (b : Bool) → eqb w.key.to first ≡ b → (first + 1 ≤ w.key.to → w.key.to < first + 1 + count → rest ≡ filter (tied w) items) → filter (tied w) (log_of first items) ++ rest ≡ filter (tied w) items
    by true is later =
        ap (λ ys. ys ++ rest) (tied_in_log w first true is items)
        ∙ ap (λ ys. filter (tied w) items ++ ys) (tied_outside w items count (first + 1) (inl (let same = eqb-true w.key.to first is in omega arith)))
        ∙ append-nil (filter (tied w) items)
    by false is later =
        let other = eqb-false w.key.to first is in
        ap (λ ys. ys ++ rest) (tied_in_log w first false is items) ∙ later (omega (arith, other)) (omega arith)

none_tied : (w : Record) (nodes : ℕ) (items : List Record) → nodes ≤ w.key.to → AllByRecursion (λ item. item.key.to < nodes) items → filter (tied w) items ≡ []
none_tied w nodes [] above all = refl
none_tied w nodes (x ∷ xs) above all = by (tied w x) refl (none_tied w nodes xs above all.1)
  where
    by : (b : Bool) → tied w x ≡ b → filter (tied w) xs ≡ [] → cond b (x ∷ filter (tied w) xs) (filter (tied w) xs) ≡ []
    by true is rest = let same : w.key.to ≡ x.key.to = ap (λ (k : Key). k.to) (same_key w x is) in absurd (let below = all.0 in omega arith)
    by false is rest = rest

all_events : (nodes : ℕ) (items : List Record) → KeysRise items → All (λ item. item.key.to < nodes) items → merge_of (map (λ node. log_of node items) (nodes_below nodes)) ≡ items
unfolding merge_of
all_events nodes items up all =
    ap by_key (flat_map-map (λ log. log) (λ node. log_of node items) (nodes_below nodes))
    ∙ sym (is_by_key items (logs_from 0 nodes items) (rises_from_keys items up) (λ w. sym (alike w)))
  where
    alike : (w : Record) → filter (tied w) (logs_from 0 nodes items) ≡ filter (tied w) items
    alike w =
        elim (cases_lt w.key.to nodes) [
          | inl below ↦ tied_within w items nodes 0 (omega arith) (omega arith)
          | inr above ↦ tied_outside w items nodes 0 (inr (omega arith)) ∙ sym (none_tied w nodes items above (all_of_each (λ item. item.key.to < nodes) items all))
        ]

pub merge_laws : IsMerge
merge_laws = record { «all» = all_merged; one = one_merge; events = all_events }
