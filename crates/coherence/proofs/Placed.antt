-- The lines of a map of pending messages, as messages are placed in it and taken from it.
use Rattle.std.proofs.Common.{◌≡◌, ℕ, suc, ◌+◌, ◌<◌, ◌≤◌, Bool, true, false, cond, not, T, List, [], ◌∷◌, ◌++◌, length, Option, Some, None, refl, ap, sym, ◌∙◌, subst, arith, ◌⊎◌, inl, inr, append-nil, append_assoc}
use Rattle.std.proofs.lemmas.Bool.{cases_Bool}
use Rattle.std.proofs.lemmas.Bool.Decides.{nat_tests}
use Rattle.std.specs.List.{AllByRecursion}
use Rattle.std.specs.declared.cmp.Ordering.{Ordering}
use Rattle.std.specs.declared.cmp.Ordering.TheVariants.{Less, Equal, Greater}
use Rattle.std.specs.Ordering.{nat_cmp, ordering_then, eq_by_cmp, is_eq}
use Rattle.std.specs.Cmp.{ranked, eq_by_cmp_equiv}
use Rattle.std.specs.FinMap.{get, insert, remove, entries, find, put, is_sorted, entries_sorted, entries-insert, get-entries, get-insert, get-remove}
use Rattle.std.specs.FinMap.Entries.{by_order, same_entries, is_sorted-where_key, find-where_key}
use Rattle.wt_proto.specs.declared.key.Key.{Key}
use Rattle.wt_proto.specs.declared.message.Msg.{Msg}
use Rattle.wt_proto.specs.KeyOrder.{key_cmp}
use Rattle.wt_proto.proofs.KeyLaws.{key_cmp_total, tied_keys}
use Rattle.discrete_events.specs.Serial.{placed}
use Rattle.discrete_events.specs.Laws.{IsIn, AreInSequence}
use Rattle.discrete_events.specs.Theorems.{AreNew}
use Rattle.discrete_events.proofs.Lists.{all_in, in_append, in_filter, from_filter, filter_none}
use Rattle.discrete_events.proofs.Keys.{IsUpTo, is_key, same_key, less_upto_less, not_less_itself}
use Rattle.discrete_events.proofs.Queues.{Queue, same_queue, get_is_in, in_get}
use Rattle.coherence.specs.Lines.{line, bodies, without_key, IsRising}
use Rattle.coherence.proofs.Lines.{Rises, rises, lines_keep_order}

-- Each message has a key above those of the old ones and of those before it.
abbrev pub RiseAfter : List (Key × Msg) → List (Key × Msg) → Type 0
RiseAfter old [] = Unit {0}
RiseAfter old (m ∷ ms) = AllByRecursion (λ (other : Key × Msg). key_cmp m.0 other.0 ≡ Greater) old × RiseAfter (old ++ m ∷ []) ms

is_true : (b : Bool) → T b → b ≡ true
is_true true holds = refl
is_true false holds = absurd holds

-- what is pending rises
pending_rises : (pending : Queue Msg) → IsRising (entries pending)
pending_rises pending = is_true (is_sorted key_cmp (entries pending)) (entries_sorted pending)

-- a key that is new isn't found
not_found : (pending : Queue Msg) (key : Key) → get pending key ≡ None → find key_cmp key (entries pending) ≡ None
not_found pending key none = sym (get-entries pending key) ∙ none

-- ---- messages are placed

module _ (is_of : Key × Msg → Bool) where
  -- A message that is placed above its line joins it at its end,
  one_joins : (pending : Queue Msg) (m : Key × Msg) → get pending m.0 ≡ None → is_of m ≡ true →
      AllByRecursion (λ (other : Key × Msg). key_cmp m.0 other.0 ≡ Greater) (line is_of (entries pending)) →
      line is_of (entries (insert pending m.0 m.1)) ≡ line is_of (entries pending) ++ m ∷ []
  one_joins pending m none is above =
      ap (line is_of) (entries-insert key_cmp_total pending m.0 m.1)
      ∙ lines_keep_order.joins is_of m.0 m.1 (entries pending) (pending_rises pending) (not_found pending m.0 none) above is

  -- and leaves every other line.
  one_passes : (pending : Queue Msg) (m : Key × Msg) → get pending m.0 ≡ None → is_of m ≡ false →
      line is_of (entries (insert pending m.0 m.1)) ≡ line is_of (entries pending)
  one_passes pending m none isnt =
      ap (line is_of) (entries-insert key_cmp_total pending m.0 m.1)
      ∙ lines_keep_order.passes is_of m.0 m.1 (entries pending) (not_found pending m.0 none) isnt

  -- Messages that rise join their line at its end, in their order.
  pub line_placed : (pending : Queue Msg) (ms : List (Key × Msg)) → AreNew pending ms → RiseAfter (line is_of (entries pending)) (line is_of ms) →
      line is_of (entries (placed pending ms)) ≡ line is_of (entries pending) ++ line is_of ms
  line_placed pending [] new rise = sym (append-nil (line is_of (entries pending)))
  line_placed pending (m ∷ ms) new rise = elim (cases_Bool (is_of m)) [
    | inl t ↦ (
        let up : RiseAfter (line is_of (entries pending)) (m ∷ line is_of ms) = rw t at rise in
        let joined = one_joins pending m new.0 t up.0 in
        let rest = line_placed (insert pending m.0 m.1) ms new.1 (subst (λ (old : List (Key × Msg)). RiseAfter old (line is_of ms)) (sym joined) up.1) in
        rw t (rest ∙ ap (λ (old : List (Key × Msg)). old ++ line is_of ms) joined ∙ append_assoc (line is_of (entries pending)) (m ∷ []) (line is_of ms))
        )
    | inr t ↦ (
        let up : RiseAfter (line is_of (entries pending)) (line is_of ms) = rw t at rise in
        let passed = one_passes pending m new.0 t in
        let rest = line_placed (insert pending m.0 m.1) ms new.1 (subst (λ (old : List (Key × Msg)). RiseAfter old (line is_of ms)) (sym passed) up) in
        rw t (rest ∙ ap (λ (old : List (Key × Msg)). old ++ line is_of ms) passed)
        )
  ]

  -- Messages of other lines leave it.
  pub line_passed : (pending : Queue Msg) (ms : List (Key × Msg)) → AreNew pending ms → line is_of ms ≡ [] →
      line is_of (entries (placed pending ms)) ≡ line is_of (entries pending)
  line_passed pending ms new none =
      line_placed pending ms new (subst (λ (list : List (Key × Msg)). RiseAfter (line is_of (entries pending)) list) (sym none) tt)
      ∙ ap (λ (list : List (Key × Msg)). line is_of (entries pending) ++ list) none
      ∙ append-nil (line is_of (entries pending))

  -- ---- how many of a line

  -- A message counts for its line alone.
  length_line : (m : Key × Msg) (ms : List (Key × Msg)) → length (line is_of (m ∷ ms)) ≡ cond (is_of m) 1 0 + length (line is_of ms)
  length_line m ms = elim (cases_Bool (is_of m)) [
    | inl t ↦ rw t (omega arith)
    | inr t ↦ rw t (omega arith)
  ]

  -- A new message counts the same in its place as in front.
  length_put : (key : Key) (msg : Msg) (ms : List (Key × Msg)) → find key_cmp key ms ≡ None →
      length (line is_of (put key_cmp key msg ms)) ≡ length (line is_of ((key, msg) ∷ ms))
  length_put key msg [] none = refl
  length_put key msg (e ∷ es) none = by (length_put key msg es) (key_cmp key e.0) none
    where
      by : (find key_cmp key es ≡ None → length (line is_of (put key_cmp key msg es)) ≡ length (line is_of ((key, msg) ∷ es))) → (r : Ordering) →
          cond (is_eq r) (Some e.1) (find key_cmp key es) ≡ None →
          length (line is_of (by_order r ((key, msg) ∷ e ∷ es) ((e.0, msg) ∷ es) (e ∷ put key_cmp key msg es))) ≡ length (line is_of ((key, msg) ∷ e ∷ es))
      by rest Less h = refl
      by rest Equal h = cc
      by rest Greater h =
          let later = rest h in
          let first = length_line e (put key_cmp key msg es) in let second = length_line (key, msg) (e ∷ es) in
          let third = length_line e es in let fourth = length_line (key, msg) es in
          omega arith

  -- A line grows by those of it that are placed, whatever their order.
  pub count_placed : (pending : Queue Msg) (ms : List (Key × Msg)) → AreNew pending ms →
      length (line is_of (entries (placed pending ms))) ≡ length (line is_of (entries pending)) + length (line is_of ms)
  count_placed pending [] new = omega arith
  count_placed pending (m ∷ ms) new =
      let rest = count_placed (insert pending m.0 m.1) ms new.1 in
      let one = ap (λ (list : List (Key × Msg)). length (line is_of list)) (entries-insert key_cmp_total pending m.0 m.1)
      ∙ length_put m.0 m.1 (entries pending) (not_found pending m.0 new.0) in
      let first = length_line m (entries pending) in let second = length_line m ms in
      omega arith

-- ---- messages are taken

-- a test that is turned round
turned : (b c : Bool) (o : Option Msg) → b ≡ c → cond b None o ≡ cond (not c) o None
turned true true o same = refl
turned true false o same = absurd (let f : true ≡ false = same in cc)
turned false true o same = absurd (let f : false ≡ true = same in cc)
turned false false o same = refl

-- the messages that are left when one is removed
entries_left : (pending : Queue Msg) (key : Key) → entries (remove pending key) ≡ without_key key (entries pending)
entries_left pending key =
    same_entries key_cmp key_cmp_total tied_keys (entries (remove pending key)) (without_key key (entries pending))
    (entries_sorted (remove pending key)) (is_sorted-where_key key_cmp (λ other. not (eq_by_cmp key_cmp key other)) (entries pending) (entries_sorted pending)) found
  where
    found : (q : Key) → find key_cmp q (entries (remove pending key)) ≡ find key_cmp q (without_key key (entries pending))
    found q =
        sym (get-entries (remove pending key) q)
        ∙ get-remove key_cmp_total pending key q
        ∙ turned (eq_by_cmp key_cmp q key) (eq_by_cmp key_cmp key q) (get pending q) ((eq_by_cmp_equiv key_cmp_total).symm q key)
        ∙ ap (λ (o : Option Msg). cond (not (eq_by_cmp key_cmp key q)) o None) (get-entries pending q)
        ∙ sym (find-where_key key_cmp (λ other. not (eq_by_cmp key_cmp key other)) q (λ x t. ap (λ (other : Key). not (eq_by_cmp key_cmp key other)) (sym (tied_keys q x t))) (entries pending))

-- a message that is removed and placed again
put_back : (pending : Queue Msg) (m : Key × Msg) → get pending m.0 ≡ Some m.1 → insert (remove pending m.0) m.0 m.1 ≡ pending
put_back pending m is = same_queue (insert (remove pending m.0) m.0 m.1) pending (λ q.
    get-insert key_cmp_total (remove pending m.0) m.0 m.1 q
    ∙ ap (λ (o : Option Msg). cond (eq_by_cmp key_cmp q m.0) (Some m.1) o) (get-remove key_cmp_total pending m.0 q)
    ∙ either q (eq_by_cmp key_cmp q m.0) refl)
  where
    either : (q : Key) (b : Bool) → eq_by_cmp key_cmp q m.0 ≡ b → cond b (Some m.1) (cond b None (get pending q)) ≡ get pending q
    either q true same = sym is ∙ ap (get pending) (sym (is_key q m.0 same))
    either q false other = refl

-- nothing is pending under a key that was removed
gone : (pending : Queue Msg) (key : Key) → get (remove pending key) key ≡ None
gone pending key = get-remove key_cmp_total pending key key ∙ ap (λ (b : Bool). cond b None (get pending key)) (same_key key key refl)

-- what is in the line of the rest is in that of the whole
in_rest : (is_of : Key × Msg → Bool) (n m : Key × Msg) (ms : List (Key × Msg)) → IsIn n (line is_of ms) → IsIn n (line is_of (m ∷ ms))
in_rest is_of n m ms within = let both = from_filter is_of n ms within in in_filter is_of n (m ∷ ms) (inr both.0) both.1

-- the least of a line, in rising messages
least_first : (is_of : Key × Msg → Bool) (m : Key × Msg) (ms : List (Key × Msg)) → Rises ms → IsIn m ms → is_of m ≡ true →
    ((other : Key × Msg) → IsIn other (line is_of ms) → IsUpTo m.0 other.0) → (rest : List (Key × Msg)) × (line is_of ms ≡ m ∷ rest)
least_first is_of m [] rising within is least = absurd within
least_first is_of m (e ∷ es) rising (inl same) is least =
    let here : is_of e ≡ true = ap is_of (sym same) ∙ is in
    (line is_of es, rw here (ap (λ (first : Key × Msg). first ∷ line is_of es) (sym same)))
least_first is_of m (e ∷ es) rising (inr within) is least = by (least_first is_of m es rising.1 within is) (is_of e) refl
  where
    by : (((other : Key × Msg) → IsIn other (line is_of es) → IsUpTo m.0 other.0) → (rest : List (Key × Msg)) × (line is_of es ≡ m ∷ rest)) → (b : Bool) → is_of e ≡ b →
        (rest : List (Key × Msg)) × (cond b (e ∷ line is_of es) (line is_of es) ≡ m ∷ rest)
    by later true here =
        let up : IsUpTo m.0 e.0 = least e (in_filter is_of e (e ∷ es) (inl refl) here) in
        let below : key_cmp e.0 m.0 ≡ Less = all_in (λ (n : Key × Msg). key_cmp e.0 n.0 ≡ Less) m es rising.0 within in
        absurd (not_less_itself e.0 (less_upto_less e.0 m.0 e.0 below up))
    by later false here = later (λ other in_es. least other (in_rest is_of other e es in_es))

module _ (is_of : Key × Msg → Bool) (pending : Queue Msg) where
  -- The first of a line is taken from its front.
  pub line_taken : (m : Key × Msg) (rest : List (Key × Msg)) → get pending m.0 ≡ Some m.1 → line is_of (entries pending) ≡ m ∷ rest →
      line is_of (entries (remove pending m.0)) ≡ rest
  line_taken m rest is first =
      ap (line is_of) (entries_left pending m.0) ∙ lines_keep_order.taken is_of m (entries pending) rest (pending_rises pending) first

  -- A message that is taken leaves every other line.
  pub line_left : (m : Key × Msg) → get pending m.0 ≡ Some m.1 → is_of m ≡ false → line is_of (entries (remove pending m.0)) ≡ line is_of (entries pending)
  line_left m is isnt =
      ap (line is_of) (entries_left pending m.0)
      ∙ lines_keep_order.left is_of m.0 m.1 (entries pending) (pending_rises pending) (sym (get-entries pending m.0) ∙ is) isnt

  -- A line from which one is taken has one fewer.
  pub count_taken : (m : Key × Msg) → get pending m.0 ≡ Some m.1 → is_of m ≡ true →
      length (line is_of (entries pending)) ≡ suc (length (line is_of (entries (remove pending m.0))))
  count_taken m is is_m =
      let back = ap (λ (queue : Queue Msg). length (line is_of (entries queue))) (put_back pending m is) in
      let one : length (line is_of (entries (insert (remove pending m.0) m.0 m.1))) ≡ length (line is_of (entries (remove pending m.0))) + length (line is_of (m ∷ [])) =
      count_placed is_of (remove pending m.0) (m ∷ []) (gone pending m.0, tt) in
      let single : length (line is_of (m ∷ [])) ≡ 1 = ap (λ (b : Bool). length (cond b (m ∷ []) [])) is_m in
      omega arith

  -- What is in a line is pending, and is of it.
  pub in_line : (other : Key × Msg) → IsIn other (line is_of (entries pending)) → (get pending other.0 ≡ Some other.1) × (is_of other ≡ true)
  in_line other within = let both = from_filter is_of other (entries pending) within in (in_get pending other both.0, both.1)

  -- The least of a line is its first.
  pub first_of_line : (m : Key × Msg) → get pending m.0 ≡ Some m.1 → is_of m ≡ true →
      ((other : Key × Msg) → IsIn other (line is_of (entries pending)) → IsUpTo m.0 other.0) →
      (rest : List (Key × Msg)) × (line is_of (entries pending) ≡ m ∷ rest)
  first_of_line m is is_m least =
      least_first is_of m (entries pending) (rises (entries pending) (pending_rises pending)) (get_is_in pending m.0 m.1 is) is_m least

-- ---- messages in sequence

-- numbers, and orders that follow them
num_greater : (a b : ℕ) → b < a → nat_cmp a b ≡ Greater
num_greater a b more = grind (arith, nat_tests)

then_greater : (a b : ℕ) (r : Ordering) → b ≤ a → r ≡ Greater → ordering_then (nat_cmp a b) r ≡ Greater
then_greater a b r upto greater = by (nat_cmp a b) refl
  where
    by : (t : Ordering) → nat_cmp a b ≡ t → ordering_then t r ≡ Greater
    by Less e = absurd (let less : a < b = ranked a b Less (sym e) in omega arith)
    by Equal e = greater
    by Greater e = refl

-- Of one source to one place, a later number at a time that isn't earlier is above.
above : (key other : Key) → other.time ≤ key.time → other.to ≡ key.to → other.from ≡ key.from → other.sequence < key.sequence → key_cmp key other ≡ Greater
above key other time to from sequence =
    then_greater key.time other.time (ordering_then (nat_cmp key.to other.to) (ordering_then (nat_cmp key.from other.from) (nat_cmp key.sequence other.sequence))) time
    (then_greater key.to other.to (ordering_then (nat_cmp key.from other.from) (nat_cmp key.sequence other.sequence)) (omega arith)
    (then_greater key.from other.from (nat_cmp key.sequence other.sequence) (omega arith) (num_greater key.sequence other.sequence sequence)))

-- what holds of each holds of all
all_of : (P : Key × Msg → Type 0) (ms : List (Key × Msg)) → ((m : Key × Msg) → IsIn m ms → P m) → AllByRecursion P ms
all_of P [] each = tt
all_of P (m ∷ ms) each = (each m (inl refl), all_of P ms (λ n within. each n (inr within)))

-- a message of one source to one place, no later than a time and with a lesser number
abbrev IsBefore : ℕ → ℕ → ℕ → ℕ → Key × Msg → Type 0
IsBefore from to time sequence m = (m.0.from ≡ from) × (m.0.to ≡ to) × (m.0.time ≤ time) × (m.0.sequence < sequence)

-- what was before stays so as numbers go on
still_before : (from to time sequence : ℕ) (m : Key × Msg) → IsBefore from to time sequence m → IsBefore from to time (sequence + 1) m
still_before from to time sequence m is = let less = is.3 in (is.0, is.1, is.2, omega arith)

-- with one more message at the end
one_more : (old : List (Key × Msg)) (m : Key × Msg) (from to time sequence : ℕ) → ((o : Key × Msg) → IsIn o old → IsBefore from to time sequence o) → IsBefore from to time (sequence + 1) m →
    (o : Key × Msg) → IsIn o (old ++ m ∷ []) → IsBefore from to time (sequence + 1) o
one_more old m from to time sequence before last o within = by (in_append o old (m ∷ []) within)
  where
    by : IsIn o old ⊎ IsIn o (m ∷ []) → IsBefore from to time (sequence + 1) o
    by (inl is) = still_before from to time sequence o (before o is)
    by (inr (inl same)) = subst (IsBefore from to time (sequence + 1)) (sym same) last
    by (inr (inr is)) = absurd is

-- Messages in sequence, of one source to one place at one time, rise above those before them.
pub rises_after : (is_of : Key × Msg → Bool) (old ms : List (Key × Msg)) (from to time sequence : ℕ) →
    ((o : Key × Msg) → IsIn o old → (o.0.from ≡ from) × (o.0.to ≡ to) × (o.0.time ≤ time) × (o.0.sequence < sequence)) →
    AreInSequence sequence ms →
    ((m : Key × Msg) → IsIn m (line is_of ms) → (m.0.from ≡ from) × (m.0.to ≡ to) × (m.0.time ≡ time)) →
    RiseAfter old (line is_of ms)
rises_after is_of old [] from to time sequence before numbered each = tt
rises_after is_of old (m ∷ ms) from to time sequence before numbered each =
    let number = numbered.0 in
    let rest : (n : Key × Msg) → IsIn n (line is_of ms) → (n.0.from ≡ from) × (n.0.to ≡ to) × (n.0.time ≡ time) = λ n within. each n (in_rest is_of n m ms within) in
    elim (cases_Bool (is_of m)) [
      | inl t ↦ (
          let mine = each m (in_filter is_of m (m ∷ ms) (inl refl) t) in let at = mine.2 in
          let up : AllByRecursion (λ (o : Key × Msg). key_cmp m.0 o.0 ≡ Greater) old =
          all_of (λ (o : Key × Msg). key_cmp m.0 o.0 ≡ Greater) old (λ o within.
          let is = before o within in let late = is.2 in let less = is.3 in
          above m.0 o.0 (omega arith) (is.1 ∙ sym mine.1) (is.0 ∙ sym mine.0) (omega arith)) in
          let last : IsBefore from to time (sequence + 1) m = (mine.0, mine.1, omega arith, omega arith) in
          rw t (up, rises_after is_of (old ++ m ∷ []) ms from to time (sequence + 1) (one_more old m from to time sequence before last) numbered.1 rest)
          )
      | inr t ↦ rw t (rises_after is_of old ms from to time (sequence + 1) (λ o within. still_before from to time sequence o (before o within)) numbered.1 rest)
    ]

-- ---- bodies, and messages of other lines

-- The bodies of two lists, one after the other.
pub bodies_append : (one two : List (Key × Msg)) → bodies (one ++ two) ≡ bodies one ++ bodies two
bodies_append [] two = refl
bodies_append (m ∷ one) two = ap (λ list. m.1.body ∷ list) (bodies_append one two)

-- Where no message is of a line, the line is empty.
pub length_none : (is_of : Key × Msg → Bool) (ms : List (Key × Msg)) → ((m : Key × Msg) → IsIn m ms → is_of m ≡ false) → line is_of ms ≡ []
length_none is_of ms none = filter_none is_of ms none
