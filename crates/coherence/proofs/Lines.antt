-- Messages in the order of their keys: one that is above all of a line joins it at its end.
use Rattle.std.proofs.Common.{◌≡◌, ◌≢◌, ℕ, Bool, true, false, T, List, [], ◌∷◌, ◌++◌, Some, None, refl, ap, sym, ◌∙◌, subst, arith, ◌⊎◌, inl, inr, eqb-true}
use Rattle.std.specs.Prelude.{◌==◌, ◌&&◌}
use Rattle.std.specs.List.{AllByRecursion}
use Rattle.std.proofs.lemmas.Bool.{cases_Bool}
use Rattle.std.specs.declared.cmp.Ordering.{Ordering}
use Rattle.std.specs.declared.cmp.Ordering.TheVariants.{Less, Equal, Greater}
use Rattle.std.specs.Ordering.{eq_by_cmp, is_lt, is_eq, ordering_reverse}
use Rattle.std.specs.FinMap.{find, put, is_sorted}
use Rattle.std.specs.FinMap.Entries.{by_order, below_all}
use Rattle.wt_proto.specs.declared.key.Key.{Key}
use Rattle.wt_proto.specs.declared.message.Body.{Body}
use Rattle.wt_proto.specs.declared.message.Msg.{Msg}
use Rattle.wt_proto.specs.KeyOrder.{key_cmp}
use Rattle.wt_proto.proofs.KeyLaws.{key_cmp_total, tied_keys}
use Rattle.coherence.specs.Pipes.{not_to_home_of, not_from_home_of, total}
use Rattle.coherence.specs.Lines.{line, goes_from, comes_to, bodies, without_key, IsRising, LinesKeepOrder}

-- ---- rising lists, by recursion

and_first : (a b : Bool) → T (a && b) → T a
and_first true b p = tt
and_first false b p = p

and_second : (a b : Bool) → T (a && b) → T b
and_second true b p = p
and_second false b p = absurd p

is_less : (order : Ordering) → T (is_lt order) → order ≡ Less
is_less Less p = refl
is_less Equal p = absurd p
is_less Greater p = absurd p

abbrev pub Rises : List (Key × Msg) → Type 0
Rises [] = Unit {0}
Rises (m ∷ ms) = AllByRecursion (λ n. key_cmp m.0 n.0 ≡ Less) ms × Rises ms

all_less : (key : Key) (ms : List (Key × Msg)) → T (below_all key_cmp key ms) → AllByRecursion (λ n. key_cmp key n.0 ≡ Less) ms
all_less key [] below = tt
all_less key (m ∷ ms) below =
    (is_less (key_cmp key m.0) (and_first (is_lt (key_cmp key m.0)) (below_all key_cmp key ms) below), all_less key ms (and_second (is_lt (key_cmp key m.0)) (below_all key_cmp key ms) below))

rises_by : (ms : List (Key × Msg)) → T (is_sorted key_cmp ms) → Rises ms
rises_by [] rising = tt
rises_by (m ∷ ms) rising =
    (all_less m.0 ms (and_first (below_all key_cmp m.0 ms) (is_sorted key_cmp ms) rising), rises_by ms (and_second (below_all key_cmp m.0 ms) (is_sorted key_cmp ms) rising))

pub rises : (ms : List (Key × Msg)) → IsRising ms → Rises ms
rises ms rising = rises_by ms (subst T (sym rising) tt)

abbrev IsFresh : Key → List (Key × Msg) → Type 0
IsFresh key ms = AllByRecursion (λ n. key_cmp key n.0 ≢ Equal) ms

fresh : (key : Key) (ms : List (Key × Msg)) → find key_cmp key ms ≡ None → IsFresh key ms
fresh key [] none = tt
fresh key (m ∷ ms) none = elim (cases_Bool (eq_by_cmp key_cmp key m.0)) [
  | inl is ↦ absurd (let f : Some m.1 ≡ None = rw is at none in cc)
  | inr is ↦ (λ e. (let ties : true ≡ false = ap is_eq (sym e) ∙ is in absurd (let g : true ≡ false = ties in cc)), fresh key ms (rw is at none))
]

module _ (is_of : Key × Msg → Bool) where
  -- each message of the line is below the key
  abbrev IsBelow : Key → List (Key × Msg) → Type 0
  IsBelow key [] = Unit {0}
  IsBelow key (m ∷ ms) = (is_of m ≡ true → key_cmp key m.0 ≡ Greater) × IsBelow key ms

  below : (key : Key) (ms : List (Key × Msg)) → AllByRecursion (λ n. key_cmp key n.0 ≡ Greater) (line is_of ms) → IsBelow key ms
  below key [] all = tt
  below key (m ∷ ms) all = elim (cases_Bool (is_of m)) [
    | inl t ↦ (let both : (key_cmp key m.0 ≡ Greater) × AllByRecursion (λ n. key_cmp key n.0 ≡ Greater) (line is_of ms) = rw t at all in ((λ h. both.0), below key ms both.1))
    | inr t ↦ ((λ h. absurd (let g : true ≡ false = sym h ∙ t in cc)), below key ms (rw t at all))
  ]

  none_above : (key : Key) (ms : List (Key × Msg)) → AllByRecursion (λ n. key_cmp key n.0 ≡ Less) ms → IsBelow key ms → line is_of ms ≡ []
  none_above key [] above low = refl
  none_above key (m ∷ ms) above low = elim (cases_Bool (is_of m)) [
    | inl is ↦ absurd (let g = low.0 is in let l = above.0 in let e : Less ≡ Greater = sym l ∙ g in cc)
    | inr is ↦ rw is (none_above key ms above.1 low.1)
  ]

  all_above : (key e : Key) (ms : List (Key × Msg)) → key_cmp key e ≡ Less → AllByRecursion (λ n. key_cmp e n.0 ≡ Less) ms → AllByRecursion (λ n. key_cmp key n.0 ≡ Less) ms
  all_above key e [] less above = tt
  all_above key e (m ∷ ms) less above = (key_cmp_total.trans key e m.0 less above.0, all_above key e ms less above.1)

  joins : (key : Key) (msg : Msg) (ms : List (Key × Msg)) → Rises ms → IsFresh key ms → IsBelow key ms → is_of (key, msg) ≡ true →
      line is_of (put key_cmp key msg ms) ≡ line is_of ms ++ (key, msg) ∷ []
  joins key msg [] rising new low is = rw is refl
  joins key msg (e ∷ es) rising new low is = by (joins key msg es rising.1 new.1 low.1 is) (key_cmp key e.0) refl
    where
      by : line is_of (put key_cmp key msg es) ≡ line is_of es ++ (key, msg) ∷ [] → (r : Ordering) → key_cmp key e.0 ≡ r →
          line is_of (by_order r ((key, msg) ∷ e ∷ es) ((e.0, msg) ∷ es) (e ∷ put key_cmp key msg es)) ≡ line is_of (e ∷ es) ++ (key, msg) ∷ []
      by rest Less p = rw is (rw (none_above key (e ∷ es) (p, all_above key e.0 es p rising.0) low) refl)
      by rest Equal p = absurd (new.0 p)
      by rest Greater p = elim (cases_Bool (is_of e)) [
        | inl t ↦ rw t (ap (λ ms. e ∷ ms) rest)
        | inr t ↦ rw t rest
      ]

  passes : (key : Key) (msg : Msg) (ms : List (Key × Msg)) → IsFresh key ms → is_of (key, msg) ≡ false → line is_of (put key_cmp key msg ms) ≡ line is_of ms
  passes key msg [] new is = rw is refl
  passes key msg (e ∷ es) new is = by (passes key msg es new.1 is) (key_cmp key e.0) refl
    where
      by : line is_of (put key_cmp key msg es) ≡ line is_of es → (r : Ordering) → key_cmp key e.0 ≡ r →
          line is_of (by_order r ((key, msg) ∷ e ∷ es) ((e.0, msg) ∷ es) (e ∷ put key_cmp key msg es)) ≡ line is_of (e ∷ es)
      by rest Less p = rw is refl
      by rest Equal p = absurd (new.0 p)
      by rest Greater p = elim (cases_Bool (is_of e)) [
        | inl t ↦ rw t (ap (λ ms. e ∷ ms) rest)
        | inr t ↦ rw t rest
      ]

  -- ---- a key is taken out

  all_kept : (key : Key) (ms : List (Key × Msg)) → AllByRecursion (λ n. eq_by_cmp key_cmp key n.0 ≡ false) ms → without_key key ms ≡ ms
  all_kept key [] all = refl
  all_kept key (m ∷ ms) all = rw all.0 (ap (λ r. m ∷ r) (all_kept key ms all.1))

  after_it : (key : Key) (m : Key × Msg) → key ≡ m.0 → (ns : List (Key × Msg)) → AllByRecursion (λ n. key_cmp m.0 n.0 ≡ Less) ns → AllByRecursion (λ n. eq_by_cmp key_cmp key n.0 ≡ false) ns
  after_it key m same [] all = tt
  after_it key m same (n ∷ ns) all = (ap is_eq ((λ i. key_cmp (same i) n.0) ∙ all.0), after_it key m same ns all.1)

  of_line : (P : Key × Msg → Type 0) (x : Key × Msg) (ms rest : List (Key × Msg)) → AllByRecursion P ms → line is_of ms ≡ x ∷ rest → P x
  of_line P x [] rest all e = absurd (let f : [] ≡ x ∷ rest = e in cc)
  of_line P x (m ∷ ms) rest all e = elim (cases_Bool (is_of m)) [
    | inl t ↦ (let f : m ∷ line is_of ms ≡ x ∷ rest = rw t at e in let s : m ≡ x = cc in subst P s all.0)
    | inr t ↦ of_line P x ms rest all.1 (rw t at e)
  ]

  tied : (key : Key) → eq_by_cmp key_cmp key key ≡ true
  tied key = by (key_cmp key key) (key_cmp_total.antisymm key key)
    where
      by : (r : Ordering) → r ≡ ordering_reverse r → is_eq r ≡ true
      by Less e = absurd (let f : Less ≡ Greater = e in cc)
      by Equal e = refl
      by Greater e = absurd (let f : Greater ≡ Less = e in cc)

  taken : (x : Key × Msg) (ms rest : List (Key × Msg)) → Rises ms → line is_of ms ≡ x ∷ rest → line is_of (without_key x.0 ms) ≡ rest
  taken x [] rest rising e = absurd (let f : [] ≡ x ∷ rest = e in cc)
  taken x (m ∷ ms) rest rising e = by (taken x ms rest rising.1) (cases_Bool (is_of m))
    where
      by : (line is_of ms ≡ x ∷ rest → line is_of (without_key x.0 ms) ≡ rest) → (is_of m ≡ true) ⊎ (is_of m ≡ false) → line is_of (without_key x.0 (m ∷ ms)) ≡ rest
      by later (inl t) =
          let f : m ∷ line is_of ms ≡ x ∷ rest = rw t at e in let s : m ≡ x = cc in let r : line is_of ms ≡ rest = cc in
          let k : x.0 ≡ m.0 = ap (λ (y : Key × Msg). y.0) (sym s) in
          let i : eq_by_cmp key_cmp x.0 m.0 ≡ true = subst (λ (q : Key). eq_by_cmp key_cmp x.0 q ≡ true) k (tied x.0) in
          rw i (ap (line is_of) (all_kept x.0 ms (after_it x.0 m k ms rising.0)) ∙ r)
      by later (inr t) =
          let f : line is_of ms ≡ x ∷ rest = rw t at e in
          let less : key_cmp m.0 x.0 ≡ Less = of_line (λ n. key_cmp m.0 n.0 ≡ Less) x ms rest rising.0 f in
          let apart : eq_by_cmp key_cmp x.0 m.0 ≡ false = ap is_eq (key_cmp_total.antisymm x.0 m.0 ∙ ap ordering_reverse less) in
          rw apart (rw t (later f))

  left : (key : Key) (msg : Msg) (ms : List (Key × Msg)) → Rises ms → find key_cmp key ms ≡ Some msg → is_of (key, msg) ≡ false → line is_of (without_key key ms) ≡ line is_of ms
  left key msg [] rising e is = refl
  left key msg (m ∷ ms) rising e is = by (left key msg ms rising.1) (cases_Bool (eq_by_cmp key_cmp key m.0))
    where
      equal : (r : Ordering) → is_eq r ≡ true → r ≡ Equal
      equal Less p = absurd (let f : false ≡ true = p in cc)
      equal Equal p = refl
      equal Greater p = absurd (let f : false ≡ true = p in cc)

      by : (find key_cmp key ms ≡ Some msg → is_of (key, msg) ≡ false → line is_of (without_key key ms) ≡ line is_of ms) → (eq_by_cmp key_cmp key m.0 ≡ true) ⊎ (eq_by_cmp key_cmp key m.0 ≡ false) →
          line is_of (without_key key (m ∷ ms)) ≡ line is_of (m ∷ ms)
      by later (inl t) =
          let f : Some m.1 ≡ Some msg = rw t at e in let v : m.1 ≡ msg = cc in let k : key ≡ m.0 = tied_keys key m.0 (equal (key_cmp key m.0) t) in
          let out : is_of m ≡ false = ap is_of (λ i. (sym k i, v i)) ∙ is in
          rw t (rw out (ap (line is_of) (all_kept key ms (after_it key m k ms rising.0))))
      by later (inr t) =
          let f : find key_cmp key ms ≡ Some msg = rw t at e in let rest = later f is in
          rw t (elim (cases_Bool (is_of m)) [
            | inl o ↦ rw o (ap (λ r. m ∷ r) rest)
            | inr o ↦ rw o rest
          ])

-- ---- the two ways

and_last : (a b c : Bool) → (a && (b && c)) ≡ true → c ≡ true
and_last true true c e = e
and_last true false c e = absurd (let f : false ≡ true = e in cc)
and_last false b c e = absurd (let f : false ≡ true = e in cc)

one_way : (weight : Body → ℕ) (is_of : Key × Msg → Bool) → ((m : Key × Msg) → is_of m ≡ true → weight m.1.body ≡ 0) → (ms : List (Key × Msg)) → total weight (bodies (line is_of ms)) ≡ 0
one_way weight is_of each [] = refl
one_way weight is_of each (m ∷ ms) = elim (cases_Bool (is_of m)) [
  | inl t ↦ (let rest = one_way weight is_of each ms in let one = each m t in rw t (omega (arith, rest, one)))
  | inr t ↦ rw t (one_way weight is_of each ms)
]

pub lines_keep_order : LinesKeepOrder
lines_keep_order = record {
  joins = λ is_of key msg ms rising new all is. joins is_of key msg ms (rises ms rising) (fresh key ms new) (below is_of key ms all) is;
  passes = λ is_of key msg ms new is. passes is_of key msg ms (fresh key ms new) is;
  taken = λ is_of first ms rest rising e. taken is_of first ms rest (rises ms rising) e;
  left = λ is_of key msg ms rising e is. left is_of key msg ms (rises ms rising) e is;
  goes = λ block node ms. one_way not_to_home_of (goes_from block node) (λ m is. eqb-true (not_to_home_of m.1.body) 0 (and_last (m.0.from == node) (m.1.block == block) (not_to_home_of m.1.body == 0) is)) ms;
  comes = λ block node ms. one_way not_from_home_of (comes_to block node) (λ m is. eqb-true (not_from_home_of m.1.body) 0 (and_last (m.0.to == node) (m.1.block == block) (not_from_home_of m.1.body == 0) is)) ms;
}
