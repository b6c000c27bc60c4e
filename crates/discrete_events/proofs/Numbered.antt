-- Nodes in the order of their numbers.
use Rattle.std.proofs.Common.{◌≡◌, ◌≢◌, ℕ, suc, ◌+◌, ◌*◌, ◌<◌, ◌≤◌, ◌⊎◌, List, [], ◌∷◌, ◌++◌, map, None, refl, ap, sym, ◌∙◌, subst, inl, inr, arith, append-nil}
use Rattle.std.specs.Prelude.{flat_map, sum_by}
use Rattle.std.proofs.lemmas.List.Sums.{sum_by-cons}
use Rattle.wt_proto.specs.declared.key.Key.{Key}
use Rattle.discrete_events.specs.Simulation.{Simulation, Message}
use Rattle.discrete_events.specs.Laws.{IsIn, IsNumbered}
use Rattle.discrete_events.proofs.Lists.{or_else, or_else_none}
use Rattle.discrete_events.proofs.Queues.{Queue, last_of, last_of_append, first_of}
use Rattle.discrete_events.proofs.Stations.{lt_or_le}
use Rattle.std.specs.FinMap.{get}

module _ {S X : Type 0} (sim : Simulation S X) where
  pub numbered_from : (from : ℕ) (nodes : List S) (node : S) → IsNumbered sim from nodes → IsIn node nodes → from ≤ sim.number node
  numbered_from from [] node is h = absurd h
  numbered_from from (x ∷ xs) node is (inl e) = let n = ap sim.number e in let m = is.0 in omega arith
  numbered_from from (x ∷ xs) node is (inr h) = let r = numbered_from (suc from) xs node is.1 h in omega arith

  pub numbered_up_to : (from : ℕ) (nodes : List S) → IsNumbered sim from nodes → from ≤ sim.nodes
  numbered_up_to from [] is = omega arith
  numbered_up_to from (x ∷ xs) is = let r = numbered_up_to (suc from) xs is.1 in omega arith

  pub numbered_below : (from : ℕ) (nodes : List S) (node : S) → IsNumbered sim from nodes → IsIn node nodes → sim.number node < sim.nodes
  numbered_below from [] node is h = absurd h
  numbered_below from (x ∷ xs) node is (inl e) = let n = ap sim.number e in let m = is.0 in let r = numbered_up_to (suc from) xs is.1 in omega arith
  numbered_below from (x ∷ xs) node is (inr h) = numbered_below (suc from) xs node is.1 h

  numbered_apart : (from : ℕ) (x : S) (xs : List S) (node : S) → IsNumbered sim from (x ∷ xs) → IsIn node xs → sim.number node ≢ sim.number x
  numbered_apart from x xs node is h = let r = numbered_from (suc from) xs node is.1 h in let m = is.0 in omega arith

  pub numbered_same : (from : ℕ) (nodes : List S) (a b : S) → IsNumbered sim from nodes → IsIn a nodes → IsIn b nodes → sim.number a ≡ sim.number b → a ≡ b
  numbered_same from [] a b is h k e = absurd h
  numbered_same from (x ∷ xs) a b is (inl p) (inl q) e = p ∙ sym q
  numbered_same from (x ∷ xs) a b is (inl p) (inr k) e = absurd (numbered_apart from x xs b is k (sym e ∙ ap sim.number p))
  numbered_same from (x ∷ xs) a b is (inr h) (inl q) e = absurd (numbered_apart from x xs a is h (e ∙ ap sim.number q))
  numbered_same from (x ∷ xs) a b is (inr h) (inr k) e = numbered_same (suc from) xs a b is.1 h k e

  pub numbered_find : (from : ℕ) (nodes : List S) (d : ℕ) → IsNumbered sim from nodes → from ≤ d → d < sim.nodes → (node : S) × IsIn node nodes × (sim.number node ≡ d)
  numbered_find from [] d is low high = absurd (omega arith)
  numbered_find from (x ∷ xs) d is low high = by (λ more. numbered_find (suc from) xs d is.1 more high) (lt_or_le from d)
    where
      by : (suc from ≤ d → (node : S) × IsIn node xs × (sim.number node ≡ d)) → (from < d) ⊎ (d ≤ from) → (node : S) × IsIn node (x ∷ xs) × (sim.number node ≡ d)
      by rest (inl more) = let r = rest more in (r.0, inr r.1, r.2)
      by rest (inr here) = (x, inl refl, let m = is.0 in omega arith)

  -- ---- where one node alone has something

  none_flat : {A : Type 0} (f : S → List A) (nodes : List S) → ((node : S) → IsIn node nodes → f node ≡ []) → flat_map f nodes ≡ []
  none_flat f [] none = refl
  none_flat f (x ∷ xs) none = (λ i. none x (inl refl) i ++ none_flat f xs (λ n h. none n (inr h)) i)

  pub single_flat : {A : Type 0} (f : S → List A) (from : ℕ) (nodes : List S) (node : S) → IsNumbered sim from nodes → IsIn node nodes → ((other : S) → sim.number other ≢ sim.number node → f other ≡ []) → flat_map f nodes ≡ f node
  single_flat f from [] node is h none = absurd h
  single_flat f from (x ∷ xs) node is (inl e) none =
      (λ i. sym (ap f e) i ++ none_flat f xs (λ n h. none n (λ same. numbered_apart from x xs n is h (same ∙ ap sim.number e))) i) ∙ append-nil (f node)
  single_flat f from (x ∷ xs) node is (inr h) none =
      (λ i. none x (λ same. numbered_apart from x xs node is h (sym same)) i ++ single_flat f (suc from) xs node is.1 h none i)

  pub none_last : (q : Key) (f : S → List (Message X)) (nodes : List S) → ((node : S) → IsIn node nodes → last_of q (f node) ≡ None) → last_of q (flat_map f nodes) ≡ None
  none_last q f [] none = refl
  none_last q f (x ∷ xs) none =
      last_of_append q (f x) (flat_map f xs) ∙ (λ i. or_else (none_last q f xs (λ n h. none n (inr h)) i) (none x (inl refl) i))

  pub single_last : (q : Key) (f : S → List (Message X)) (from : ℕ) (nodes : List S) (node : S) → IsNumbered sim from nodes → IsIn node nodes → ((other : S) → IsIn other nodes → sim.number other ≢ sim.number node → last_of q (f other) ≡ None) → last_of q (flat_map f nodes) ≡ last_of q (f node)
  single_last q f from [] node is h none = absurd h
  single_last q f from (x ∷ xs) node is (inl e) none =
      last_of_append q (f x) (flat_map f xs)
      ∙ (λ i. or_else (none_last q f xs (λ n h. none n (inr h) (λ same. numbered_apart from x xs n is h (same ∙ ap sim.number e))) i) (last_of q (f (sym e i))))
  single_last q f from (x ∷ xs) node is (inr h) none =
      last_of_append q (f x) (flat_map f xs)
      ∙ (λ i. or_else (single_last q f (suc from) xs node is.1 h (λ other m n. none other (inr m) n) i) (none x (inl refl) (λ same. numbered_apart from x xs node is h (sym same)) i))
      ∙ or_else_none (last_of q (f node))

  pub none_first : (q : Key) (f : S → Queue X) (nodes : List S) → ((node : S) → IsIn node nodes → get (f node) q ≡ None) → first_of q (map f nodes) ≡ None
  none_first q f [] none = refl
  none_first q f (x ∷ xs) none = (λ i. or_else (none x (inl refl) i) (none_first q f xs (λ n h. none n (inr h)) i))

  pub single_first : (q : Key) (f : S → Queue X) (from : ℕ) (nodes : List S) (node : S) → IsNumbered sim from nodes → IsIn node nodes → ((other : S) → IsIn other nodes → sim.number other ≢ sim.number node → get (f other) q ≡ None) → first_of q (map f nodes) ≡ get (f node) q
  single_first q f from [] node is h none = absurd h
  single_first q f from (x ∷ xs) node is (inl e) none =
      (λ i. or_else (get (f (sym e i)) q) (none_first q f xs (λ n h. none n (inr h) (λ same. numbered_apart from x xs n is h (same ∙ ap sim.number e))) i))
      ∙ or_else_none (get (f node) q)
  single_first q f from (x ∷ xs) node is (inr h) none =
      (λ i. or_else (none x (inl refl) (λ same. numbered_apart from x xs node is h (sym same)) i) (single_first q f (suc from) xs node is.1 h (λ other m n. none other (inr m) n) i))

  -- ---- a change of one node

  pub numbered_map : (f : S → S) (from : ℕ) (nodes : List S) → ((node : S) → IsIn node nodes → sim.number (f node) ≡ sim.number node) → IsNumbered sim from nodes → IsNumbered sim from (map f nodes)
  numbered_map f from [] same is = is
  numbered_map f from (x ∷ xs) same is = (same x (inl refl) ∙ is.0, numbered_map f (suc from) xs (λ n h. same n (inr h)) is.1)

  same_sum : (measure : S → ℕ) (f : S → S) (nodes : List S) → ((node : S) → IsIn node nodes → f node ≡ node) → sum_by measure (map f nodes) ≡ sum_by measure nodes
  same_sum measure f [] same = refl
  same_sum measure f (x ∷ xs) same =
      sum_by-cons measure (f x) (map f xs) ∙ (λ i. measure (same x (inl refl) i) + same_sum measure f xs (λ n h. same n (inr h)) i) ∙ sym (sum_by-cons measure x xs)

  pub sum_one_more : (measure : S → ℕ) (f : S → S) (from : ℕ) (nodes : List S) (node : S) → IsNumbered sim from nodes → IsIn node nodes → measure (f node) ≡ suc (measure node) → ((other : S) → IsIn other nodes → sim.number other ≢ sim.number node → f other ≡ other) → sum_by measure (map f nodes) ≡ suc (sum_by measure nodes)
  sum_one_more measure f from [] node is h more same = absurd h
  sum_one_more measure f from (x ∷ xs) node is (inl e) more same =
      let rest = same_sum measure f xs (λ n h. same n (inr h) (λ k. numbered_apart from x xs n is h (k ∙ ap sim.number e))) in
      let here : measure (f x) ≡ suc (measure x) = subst (λ n. measure (f n) ≡ suc (measure n)) e more in
      let a = sum_by-cons measure (f x) (map f xs) in
      let b = sum_by-cons measure x xs in
      omega arith
  sum_one_more measure f from (x ∷ xs) node is (inr h) more same =
      let rest = sum_one_more measure f (suc from) xs node is.1 h more (λ other m n. same other (inr m) n) in
      let here : measure (f x) ≡ measure x = ap measure (same x (inl refl) (λ k. numbered_apart from x xs node is h (sym k))) in
      let a = sum_by-cons measure (f x) (map f xs) in
      let b = sum_by-cons measure x xs in
      omega arith

  -- ---- lists that answer alike at each node

  pub last_alike : (q : Key) (f g : S → List (Message X)) (nodes : List S) → ((node : S) → IsIn node nodes → last_of q (f node) ≡ last_of q (g node)) → last_of q (flat_map f nodes) ≡ last_of q (flat_map g nodes)
  last_alike q f g [] is = refl
  last_alike q f g (x ∷ xs) is =
      last_of_append q (f x) (flat_map f xs) ∙ (λ i. or_else (last_alike q f g xs (λ n h. is n (inr h)) i) (is x (inl refl) i)) ∙ sym (last_of_append q (g x) (flat_map g xs))

  pub first_alike : (q : Key) (f g : S → Queue X) (nodes : List S) → ((node : S) → IsIn node nodes → get (f node) q ≡ get (g node) q) → first_of q (map f nodes) ≡ first_of q (map g nodes)
  first_alike q f g [] is = refl
  first_alike q f g (x ∷ xs) is = (λ i. or_else (is x (inl refl) i) (first_alike q f g xs (λ n h. is n (inr h)) i))

  -- ---- a bound

  pub sum_bound : (from : ℕ) (nodes : List S) → IsNumbered sim from nodes → (measure : S → ℕ) (most : ℕ) → ((node : S) → IsIn node nodes → measure node ≤ most) → sum_by measure nodes + from * most ≤ sim.nodes * most
  sum_bound from [] is measure most each = let e : from * most ≡ sim.nodes * most = ap (λ n. n * most) is in omega arith
  sum_bound from (x ∷ xs) is measure most each =
      let rest = sum_bound (suc from) xs is.1 measure most (λ n h. each n (inr h)) in
      let here = each x (inl refl) in
      let a = sum_by-cons measure x xs in
      let b : suc from * most ≡ from * most + most = omega arith in
      omega arith
