-- What a map of pending messages has at a key, after the operations on it.
use Rattle.std.proofs.Common.{◌≡◌, ℕ, ◌⊎◌, List, [], ◌∷◌, ◌++◌, Bool, true, false, cond, T, ◌&&◌, Option, Some, None, refl, ap, sym, ◌∙◌, subst, inl, inr, ◌==◌}
use Rattle.std.specs.Prelude.{flat_map}
use Rattle.std.specs.List.{filter}
use Rattle.std.specs.declared.cmp.Ordering.{Ordering}
use Rattle.std.specs.declared.cmp.Ordering.TheVariants.{Less, Equal, Greater}
use Rattle.std.specs.Ordering.{eq_by_cmp, is_lt}
use Rattle.std.specs.FinMap.{FinMap, find, get, empty, get-empty, insert, entries, retain_keys, is_sorted, entries_sorted, get-insert, get-retain_keys, get-entries, get-from_entries, same_map}
use Rattle.std.specs.FinMap.Entries.{below_all}
use Rattle.wt_proto.specs.declared.key.Key.{Key}
use Rattle.wt_proto.specs.KeyOrder.{key_cmp}
use Rattle.wt_proto.proofs.KeyLaws.{key_cmp_total, tied_keys}
use Rattle.discrete_events.specs.Simulation.{Message}
use Rattle.discrete_events.specs.Serial.{placed}
use Rattle.discrete_events.specs.Round.{to_node, together}
use Rattle.discrete_events.specs.Laws.{IsIn}
use Rattle.discrete_events.proofs.Lists.{or_else, or_else_none, or_else_assoc}
use Rattle.discrete_events.proofs.Keys.{is_key, same_key, isnt_key, not_less_itself}

abbrev pub Queue : Type 0 → Type 0
Queue X = FinMap key_cmp X

first_part : (a b : Bool) → T (a && b) → T a
first_part true b h = tt
first_part false b h = absurd h

second_part : (a b : Bool) → T (a && b) → T b
second_part true b h = h
second_part false b h = absurd h

less : (r : Ordering) → T (is_lt r) → r ≡ Less
less Less h = refl
less Equal h = absurd h
less Greater h = absurd h

module _ {X : Type 0} where
  -- two queues that answer alike are the same
  pub same_queue : (m n : Queue X) → ((q : Key) → get m q ≡ get n q) → m ≡ n
  same_queue m n is = same_map key_cmp_total tied_keys m n is

  pub get_kept : (m : Queue X) (p : Key → Bool) (q : Key) → get (retain_keys m p) q ≡ cond (p q) (get m q) None
  get_kept m p q = get-retain_keys m p q (λ x t. ap p (sym (tied_keys q x t)))

  pub get_to_node : (m : Queue X) (number : ℕ) (q : Key) → get (to_node m number) q ≡ cond (q.to == number) (get m q) None
  get_to_node m number q = get_kept m (λ key. key.to == number) q

  -- the last message under a key in a list
  abbrev pub last_of : Key → List (Message X) → Option X
  last_of q [] = None
  last_of q (m ∷ ms) = or_else (last_of q ms) (cond (eq_by_cmp key_cmp q m.0) (Some m.1) None)

  joined : (b : Bool) (v : X) (a : Option X) → cond b (Some v) a ≡ or_else (cond b (Some v) None) a
  joined true v a = refl
  joined false v a = refl

  pub get_placed : (m : Queue X) (ms : List (Message X)) (q : Key) → get (placed m ms) q ≡ or_else (last_of q ms) (get m q)
  get_placed m [] q = refl
  get_placed m (x ∷ ms) q =
      get_placed (insert m x.0 x.1) ms q
      ∙ ap (or_else (last_of q ms)) (get-insert key_cmp_total m x.0 x.1 q ∙ joined (eq_by_cmp key_cmp q x.0) x.1 (get m q))
      ∙ sym (or_else_assoc (last_of q ms) (cond (eq_by_cmp key_cmp q x.0) (Some x.1) None) (get m q))

  pub last_of_append : (q : Key) (xs ys : List (Message X)) → last_of q (xs ++ ys) ≡ or_else (last_of q ys) (last_of q xs)
  last_of_append q [] ys = sym (or_else_none (last_of q ys))
  last_of_append q (x ∷ xs) ys =
      ap (λ a. or_else a (cond (eq_by_cmp key_cmp q x.0) (Some x.1) None)) (last_of_append q xs ys)
      ∙ or_else_assoc (last_of q ys) (last_of q xs) (cond (eq_by_cmp key_cmp q x.0) (Some x.1) None)

  -- what is found under a key is of the list
  pub last_is_in : (q : Key) (ms : List (Message X)) (v : X) → last_of q ms ≡ Some v → IsIn (q, v) ms
  last_is_in q [] v e = cc
  last_is_in q (m ∷ ms) v e = later (last_is_in q ms v) (last_of q ms) refl e
    where
      here : (b : Bool) → eq_by_cmp key_cmp q m.0 ≡ b → cond b (Some m.1) None ≡ Some v → IsIn (q, v) (m ∷ ms)
      here true is h = let k : q ≡ m.0 = is_key q m.0 is in let w : v ≡ m.1 = cc in inl (λ i. (k i, w i))
      here false is h = cc

      later : (last_of q ms ≡ Some v → IsIn (q, v) ms) → (a : Option X) → last_of q ms ≡ a → or_else a (cond (eq_by_cmp key_cmp q m.0) (Some m.1) None) ≡ Some v → IsIn (q, v) (m ∷ ms)
      later rest None is h = here (eq_by_cmp key_cmp q m.0) refl h
      later rest (Some w) is h = inr (rest (is ∙ h))

  -- where all keys of a list have P, there is nothing in it under a key that doesn't
  pub last_where : (P : Key → Type 0) (q : Key) (ms : List (Message X)) → ((m : Message X) → IsIn m ms → P m.0) → (last_of q ms ≡ None) ⊎ P q
  last_where P q ms all = either (last_of q ms) refl
    where
      either : (a : Option X) → last_of q ms ≡ a → (a ≡ None) ⊎ P q
      either None is = inl refl
      either (Some v) is = inr (all (q, v) (last_is_in q ms v is))

  -- what passes a test of keys is found as before in what is left
  pub last_of_filter : (p : Key → Bool) (q : Key) (ms : List (Message X)) → last_of q (filter (λ m. p m.0) ms) ≡ cond (p q) (last_of q ms) None
  last_of_filter p q [] = nothing (p q)
    where
      nothing : (b : Bool) → ◌≡◌ {A = Option X} None (cond b None None)
      nothing true = refl
      nothing false = refl
  last_of_filter p q (m ∷ ms) =
      at (λ b e. last_of_filter p q ms ∙ ap (λ c. cond c (last_of q ms) None) e) (p m.0) refl (eq_by_cmp key_cmp q m.0) refl (p q) refl
    where
      at : ((b : Bool) → p q ≡ b → last_of q (filter (λ n. p n.0) ms) ≡ cond b (last_of q ms) None) → (b : Bool) → p m.0 ≡ b → (t : Bool) → eq_by_cmp key_cmp q m.0 ≡ t → (c : Bool) → p q ≡ c →
          last_of q (cond b (m ∷ filter (λ n. p n.0) ms) (filter (λ n. p n.0) ms)) ≡ cond c (or_else (last_of q ms) (cond (eq_by_cmp key_cmp q m.0) (Some m.1) None)) None
      at rest true e t is true f = ap (λ a. or_else a (cond (eq_by_cmp key_cmp q m.0) (Some m.1) None)) (rest true f)
      at rest true e true is false f = cc (ap p (is_key q m.0 is))
      at rest true e false is false f = λ i. or_else (rest false f i) (cond (is i) (Some m.1) None)
      at rest false e true is true f = cc (ap p (is_key q m.0 is))
      at rest false e false is true f = rest true f ∙ sym (or_else_none (last_of q ms)) ∙ ap (λ b. or_else (last_of q ms) (cond b (Some m.1) None)) (sym is)
      at rest false e t is false f = rest false f

  -- the first of several queues that has something under a key
  abbrev pub first_of : Key → List (Queue X) → Option X
  first_of q [] = None
  first_of q (m ∷ ms) = or_else (get m q) (first_of q ms)

  find_append : (q : Key) (xs ys : List (Message X)) → find key_cmp q (xs ++ ys) ≡ or_else (find key_cmp q xs) (find key_cmp q ys)
  find_append q [] ys = refl
  find_append q (x ∷ xs) ys = ap (cond (eq_by_cmp key_cmp q x.0) (Some x.1)) (find_append q xs ys) ∙ moved (eq_by_cmp key_cmp q x.0)
    where
      moved : (b : Bool) → cond b (Some x.1) (or_else (find key_cmp q xs) (find key_cmp q ys)) ≡ or_else (cond b (Some x.1) (find key_cmp q xs)) (find key_cmp q ys)
      moved true = refl
      moved false = refl

  find_first : (q : Key) (ms : List (Queue X)) → find key_cmp q (flat_map entries ms) ≡ first_of q ms
  find_first q [] = refl
  find_first q (m ∷ ms) = find_append q (entries m) (flat_map entries ms) ∙ (λ i. or_else (sym (get-entries m q) i) (find_first q ms i))

  pub get_together : (ms : List (Queue X)) (q : Key) → get (together ms) q ≡ first_of q ms
  get_together ms q = get-from_entries key_cmp_total (flat_map entries ms) q ∙ find_first q ms

  -- the entries of a queue are what it has under their keys
  find_is_in : (q : Key) (v : X) (es : List (Message X)) → find key_cmp q es ≡ Some v → IsIn (q, v) es
  find_is_in q v [] e = cc
  find_is_in q v (m ∷ ms) e = at (find_is_in q v ms) (eq_by_cmp key_cmp q m.0) refl e
    where
      at : (find key_cmp q ms ≡ Some v → IsIn (q, v) ms) → (b : Bool) → eq_by_cmp key_cmp q m.0 ≡ b → cond b (Some m.1) (find key_cmp q ms) ≡ Some v → IsIn (q, v) (m ∷ ms)
      at rest true is h = let k : q ≡ m.0 = is_key q m.0 is in let w : v ≡ m.1 = cc in inl (λ i. (k i, w i))
      at rest false is h = inr (rest h)

  pub get_is_in : (m : Queue X) (q : Key) (v : X) → get m q ≡ Some v → IsIn (q, v) (entries m)
  get_is_in m q v e = find_is_in q v (entries m) (sym (get-entries m q) ∙ e)

  above_all : (k : Key) (x : Message X) (es : List (Message X)) → T (below_all key_cmp k es) → IsIn x es → key_cmp k x.0 ≡ Less
  above_all k x [] h is = absurd is
  above_all k x (y ∷ ys) h (inl e) = subst (λ (z : Message X). key_cmp k z.0 ≡ Less) (sym e) (less _ (first_part (is_lt (key_cmp k y.0)) _ h))
  above_all k x (y ∷ ys) h (inr is) = above_all k x ys (second_part (is_lt (key_cmp k y.0)) _ h) is

  in_find : (x : Message X) (es : List (Message X)) → T (is_sorted key_cmp es) → IsIn x es → find key_cmp x.0 es ≡ Some x.1
  in_find x [] h is = absurd is
  in_find x (y ∷ ys) h (inl e) =
      ap (λ (b : Bool). cond b (Some y.1) (find key_cmp x.0 ys)) (same_key x.0 y.0 (ap (λ (z : Message X). z.0) e)) ∙ ap (λ (z : Message X). Some z.1) (sym e)
  in_find x (y ∷ ys) h (inr is) =
      let less = above_all y.0 x ys (first_part (below_all key_cmp y.0 ys) _ h) is in
      ap (λ (b : Bool). cond b (Some y.1) (find key_cmp x.0 ys)) (isnt_key x.0 y.0 (λ e. not_less_itself x.0 (subst (λ k. key_cmp k x.0 ≡ Less) (sym e) less)))
      ∙ in_find x ys (second_part (below_all key_cmp y.0 ys) _ h) is

  pub in_get : (m : Queue X) (x : Message X) → IsIn x (entries m) → get m x.0 ≡ Some x.1
  in_get m x is = get-entries m x.0 ∙ in_find x (entries m) (entries_sorted m) is

  -- something is pending under a key
  abbrev pub Pends : Queue X → Key → Type 0
  Pends queue q = (v : X) × (get queue q ≡ Some v)

  pub pends_not : (queue : Queue X) (q : Key) → (Pends queue q → ⊥) → get queue q ≡ None
  pends_not queue q not = by (get queue q) refl
    where
      by : (o : Option X) → get queue q ≡ o → o ≡ None
      by None e = refl
      by (Some v) e = absurd (not (v, e))

  entries_of_nothing : (es : List (Message X)) → ((m : Message X) → IsIn m es → ⊥) → es ≡ []
  entries_of_nothing [] none = refl
  entries_of_nothing (m ∷ ms) none = absurd (none m (inl refl))

  -- nothing passes where nothing is pending
  pub kept_of_nothing : (p : Key → Bool) → entries (retain_keys (empty {X = X} {R = key_cmp}) p) ≡ []
  kept_of_nothing p = entries_of_nothing _ (λ m is. nothing (p m.0) m.1 (sym (get_kept (empty {X = X} {R = key_cmp}) p m.0 ∙ ap (λ (a : Option X). cond (p m.0) a None) (get-empty key_cmp m.0)) ∙ in_get _ m is))
    where
      nothing : (b : Bool) (v : X) → ◌≡◌ {A = Option X} (cond b None None) (Some v) → ⊥
      nothing true v e = cc
      nothing false v e = cc
