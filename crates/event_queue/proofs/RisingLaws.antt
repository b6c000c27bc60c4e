-- Laws of rising lists of messages.
use Rattle.std.proofs.Common.{◌≡◌, ℕ, zero, suc, ◌≤◌, Bool, true, false, cond, T, ◌&&◌, List, [], ◌∷◌, ◌++◌, length, take, drop, get_or, Result, Ok, Err, OnOk, OnErr, refl, ap, sym, subst, ◌∙◌, arith}
use Rattle.std.specs.declared.cmp.Ordering.{Ordering}
use Rattle.std.specs.declared.cmp.Ordering.TheVariants.{Less, Equal, Greater}
use Rattle.std.specs.Ordering.{is_lt, ordering_reverse}
use Rattle.std.specs.FinMap.Entries.{below_all, put, by_order, is_sorted, is_sorted-put}
use Rattle.std.specs.List.{All, AllWithin}
use Rattle.std.specs.List.Sorted.{IsPartitionedBy, IsPermutation}
use Rattle.std.proofs.lemmas.List.Sorted.{IsPermutation-refl, IsPermutation-cons, IsPermutation-middle, IsPermutation-trans, All-permutation}
use Rattle.std.proofs.lemmas.List.Elements.{All-cons}
use Rattle.wt_proto.specs.declared.key.Key.{Key}
use Rattle.wt_proto.specs.declared.message.Msg.{Msg}
use Rattle.wt_proto.specs.declared.message.Stamped.{Stamped}
use Rattle.wt_proto.specs.KeyOrder.{key_cmp}
use Rattle.wt_proto.specs.Messages.{key_of}
use Rattle.wt_proto.proofs.KeyLaws.{key_cmp_total, tied_keys}
use Rattle.event_queue.specs.Rising.{entries_of, IsRising, HasNoKey, is_before, insert_of}

pub first_part : (a b : Bool) → T (a && b) → T a
first_part true b h = tt
first_part false b h = absurd h

pub second_part : (a b : Bool) → T (a && b) → T b
second_part true b h = h
second_part false b h = absurd h

pub less : (r : Ordering) → T (is_lt r) → r ≡ Less
less Less h = refl
less Equal h = absurd h
less Greater h = absurd h

pub holds : (b : Bool) → b ≡ true → T b
holds b is = subst T (sym is) tt

pub is_true : (b : Bool) → T b → b ≡ true
is_true true h = refl
is_true false h = absurd h

-- Without its first message a rising list still rises.
pub rest_rises : (first : Stamped) (rest : List Stamped) → IsRising (first ∷ rest) → IsRising rest
rest_rises first rest rising =
    is_true _ (second_part (below_all key_cmp (key_of first) (entries_of rest)) _ (holds _ rising))

below_each : (key : Key) (messages : List Stamped) → T (below_all key_cmp key (entries_of messages)) → All (λ message. key_cmp key (key_of message) ≡ Less) messages
below_each key [] below k d within = absurd (omega arith)
below_each key (m ∷ ms) below zero d within = less _ (first_part (is_lt (key_cmp key (key_of m))) _ below)
below_each key (m ∷ ms) below (suc k) d within =
    below_each key ms (second_part (is_lt (key_cmp key (key_of m))) _ below) k d (omega arith)

-- The first message of a rising list has the least key.
pub first_is_least : (first : Stamped) (rest : List Stamped) → IsRising (first ∷ rest) → All (λ message. key_cmp (key_of first) (key_of message) ≡ Less) rest
first_is_least first rest rising =
    below_each (key_of first) rest (first_part (below_all key_cmp (key_of first) (entries_of rest)) _ (holds _ rising))

before_both : (a b key : Key) → key_cmp a b ≡ Less → is_lt (key_cmp b key) ≡ true → is_lt (key_cmp a key) ≡ true
before_both a b key below before =
    ap is_lt (key_cmp_total.trans a b key below (less _ (holds _ before)))

-- What comes before a message that is before a key is before it too.
pub earlier_before : (key : Key) (messages : List Stamped) → IsRising messages → IsPartitionedBy (is_before key) messages
earlier_before key [] rising i j d ordered within before = absurd (omega arith)
earlier_before key (m ∷ ms) rising zero zero d ordered within before = before
earlier_before key (m ∷ ms) rising (suc i) zero d ordered within before = absurd (omega arith)
earlier_before key (m ∷ ms) rising zero (suc j) d ordered within before =
    before_both (key_of m) (key_of (get_or ms j d)) key (first_is_least m ms rising j d (omega arith)) before
earlier_before key (m ∷ ms) rising (suc i) (suc j) d ordered within before =
    earlier_before key ms (rest_rises m ms rising) i j d (omega arith) (omega arith) before

-- The messages before a place, one message, and the others are that message in its place.
pub insert_at : (message : Stamped) (messages : List Stamped) (i : ℕ) → i ≤ length messages → AllWithin (λ m. is_before (key_of message) m ≡ true) messages 0 i → AllWithin (λ m. is_before (key_of message) m ≡ false) messages i (length messages) → take i messages ++ message ∷ drop i messages ≡ insert_of message messages
insert_at message [] zero bound before after = refl
insert_at message [] (suc i) bound before after = absurd (omega arith)
insert_at message (m ∷ ms) zero bound before after =
    ap (λ (b : Bool). cond b (m ∷ insert_of message ms) (message ∷ m ∷ ms)) (sym (after 0 m (omega arith) (omega arith)))
insert_at message (m ∷ ms) (suc i) bound before after =
    ap (λ (rest : List Stamped). m ∷ rest)
    (insert_at message ms i (omega arith) (λ k d low high. before (suc k) d (omega arith) (omega arith)) (λ k d low high. after (suc k) d (omega arith) (omega arith)))
    ∙ ap (λ (b : Bool). cond b (m ∷ insert_of message ms) (message ∷ m ∷ ms)) (sym (before 0 m (omega arith) (omega arith)))

rest_has_no_key : (key : Key) (m : Stamped) (ms : List Stamped) → HasNoKey key (m ∷ ms) → HasNoKey key ms
rest_has_no_key key m ms none k d within = none (suc k) d (omega arith)

-- an entry beside the first one of a list, by how the two keys compare
abbrev put_by : Stamped → Stamped → List Stamped → Ordering → List (Key × Msg)
put_by message m ms r =
    by_order r ((key_of message, message.msg) ∷ entries_of (m ∷ ms)) ((key_of m, message.msg) ∷ entries_of ms) ((key_of m, m.msg) ∷ put key_cmp (key_of message) message.msg (entries_of ms))

-- how two keys compare, from how they compare the other way round
pub turned : (a b : Key) (r : Ordering) → key_cmp b a ≡ r → key_cmp a b ≡ ordering_reverse r
turned a b r is = key_cmp_total.antisymm a b ∙ ap ordering_reverse is

-- In a list without its key, a message in its place is an entry in its place.
pub entries-insert_of : (message : Stamped) (messages : List Stamped) → HasNoKey (key_of message) messages → entries_of (insert_of message messages) ≡ put key_cmp (key_of message) message.msg (entries_of messages)
entries-insert_of message [] none = refl
entries-insert_of message (m ∷ ms) none =
    at (key_cmp (key_of m) (key_of message)) refl (entries-insert_of message ms (rest_has_no_key _ m ms none))
  where
    at : (r : Ordering) → key_cmp (key_of m) (key_of message) ≡ r → entries_of (insert_of message ms) ≡ put key_cmp (key_of message) message.msg (entries_of ms) → entries_of (cond (is_lt r) (m ∷ insert_of message ms) (message ∷ m ∷ ms)) ≡ put_by message m ms (key_cmp (key_of message) (key_of m))
    at Less is rest =
        ap (λ (es : List (Key × Msg)). (key_of m, m.msg) ∷ es) rest
        ∙ ap (put_by message m ms) (sym (turned (key_of message) (key_of m) Less is))
    at Equal is rest = absurd (none 0 m (omega arith) (tied_keys (key_of m) (key_of message) is))
    at Greater is rest = ap (put_by message m ms) (sym (turned (key_of message) (key_of m) Greater is))

-- A list with one more message in its place rises.
pub IsRising-insert_of : (message : Stamped) (messages : List Stamped) → HasNoKey (key_of message) messages → IsRising messages → IsRising (insert_of message messages)
IsRising-insert_of message messages none rising =
    ap (is_sorted key_cmp) (entries-insert_of message messages none)
    ∙ is_true _ (is_sorted-put key_cmp key_cmp_total (key_of message) message.msg (entries_of messages) (holds _ rising))

-- The messages with one more in its place are that one and the others, in another order.
pub IsPermutation-insert_of : (message : Stamped) (messages : List Stamped) → IsPermutation (message ∷ messages) (insert_of message messages)
IsPermutation-insert_of message [] = IsPermutation-refl (message ∷ [])
IsPermutation-insert_of message (m ∷ ms) = at (is_before (key_of message) m) (IsPermutation-insert_of message ms)
  where
    at : (b : Bool) → IsPermutation (message ∷ ms) (insert_of message ms) → IsPermutation (message ∷ m ∷ ms) (cond b (m ∷ insert_of message ms) (message ∷ m ∷ ms))
    at true rest = IsPermutation-trans _ _ _ (IsPermutation-middle (message ∷ []) m ms) (IsPermutation-cons m _ _ rest)
    at false rest = IsPermutation-refl (message ∷ m ∷ ms)

-- What holds of a message and of each of the others holds of all with that message in its place.
pub All-insert_of : (P : Stamped → Type 0) (message : Stamped) (messages : List Stamped) → P message → All P messages → All P (insert_of message messages)
All-insert_of P message messages one all =
    All-permutation P (message ∷ messages) (insert_of message messages) (IsPermutation-insert_of message messages) (All-cons P message messages one all)

-- the same after an insertion that may be refused
pub All-after_insert : {T E : Type 0} (P : Stamped → Type 0) (result : Result T E) (message : Stamped) (old new : List Stamped) → OnOk result (new ≡ insert_of message old) → OnErr result (new ≡ old) → P message → All P old → All P new
All-after_insert P (Ok x) message old new put kept one all =
    subst (All P) (sym put) (All-insert_of P message old one all)
All-after_insert P (Err e) message old new put kept one all = subst (All P) (sym kept) all

-- a place with all lesser keys before it, and no other key
pub record IsPlaceFor (key : Key) (messages : List Stamped) (place : ℕ) : Type 0 where
  pub bound : place ≤ length messages
  pub before : AllWithin (λ message. is_before key message ≡ true) messages 0 place
  pub after : AllWithin (λ message. is_before key message ≡ false) messages place (length messages)

-- what an insertion at such a place leaves
pub inserted : (message : Stamped) (inside messages new : List Stamped) (key : Key) (place : ℕ) → inside ≡ messages → key ≡ key_of message → IsPlaceFor key messages place → new ≡ take place inside ++ message ∷ drop place inside → new ≡ insert_of message messages
inserted message inside messages new key place same same_key place_is put =
    let is = subst (λ k. IsPlaceFor k messages place) same_key place_is in
    put
    ∙ ap (λ (ms : List Stamped). take place ms ++ message ∷ drop place ms) same
    ∙ insert_at message messages place is.bound is.before is.after
