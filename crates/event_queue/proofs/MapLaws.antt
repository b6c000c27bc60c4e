-- A rising list of messages and a map of messages by their keys go the same way.
use Rattle.std.proofs.Common.{◌≡◌, zero, suc, Bool, true, false, cond, T, List, [], ◌∷◌, length, Option, Some, None, refl, ap, sym, subst, ◌∙◌, arith}
use Rattle.std.specs.declared.cmp.Ordering.{Ordering}
use Rattle.std.specs.declared.cmp.Ordering.TheVariants.{Less, Equal, Greater}
use Rattle.std.specs.Ordering.{is_lt, is_eq, eq_by_cmp}
use Rattle.std.specs.Cmp.{tied_itself}
use Rattle.std.specs.FinMap.{FinMap, empty, get, insert, remove, entries, entries_sorted, get-entries, get-remove, entries-insert, len-entries, len-empty}
use Rattle.std.specs.FinMap.Entries.{find, put, below_all, is_sorted, same_entries}
use Rattle.wt_proto.specs.declared.key.Key.{Key}
use Rattle.wt_proto.specs.declared.message.Msg.{Msg}
use Rattle.wt_proto.specs.declared.message.Stamped.{Stamped}
use Rattle.wt_proto.specs.KeyOrder.{key_cmp}
use Rattle.wt_proto.specs.Messages.{key_of}
use Rattle.wt_proto.proofs.KeyLaws.{key_cmp_total, tied_keys}
use Rattle.event_queue.specs.Rising.{entries_of, IsRising, HasNoKey, insert_of}
use Rattle.event_queue.proofs.RisingLaws.{entries-insert_of, rest_rises, first_part, second_part, holds, is_true, less}

-- a map by the keys
abbrev pub Pending : Type 0
Pending = FinMap key_cmp Msg

-- A list stands for a map where its messages, under their keys, are the map's entries.
abbrev pub StandsFor : List Stamped → Pending → Type 0
StandsFor messages map = entries_of messages ≡ entries map

-- What stands for a map rises.
pub map_rises : (messages : List Stamped) (map : Pending) → StandsFor messages map → IsRising messages
map_rises messages map same = ap (is_sorted key_cmp) same ∙ is_true _ (entries_sorted map)

no_entries : (es : List (Key × Msg)) → length es ≡ 0 → [] ≡ es
no_entries [] none = refl
no_entries (e ∷ es) none = absurd (omega arith)

-- No messages stand for the empty map.
pub nothing_stands : StandsFor [] empty
nothing_stands = no_entries (entries empty) (sym (len-entries empty) ∙ len-empty key_cmp Msg)

same_list : (xs ys : List Stamped) → entries_of xs ≡ entries_of ys → xs ≡ ys
same_list [] [] same = refl
same_list [] (y ∷ ys) same = cc
same_list (x ∷ xs) [] same = cc
same_list (x ∷ xs) (y ∷ ys) same =
    let entry : ◌≡◌ {A = Key × Msg} (key_of x, x.msg) (key_of y, y.msg) = cc in
    let key : key_of x ≡ key_of y = ap (λ (e : Key × Msg). e.0) entry in
    let msg : x.msg ≡ y.msg = ap (λ (e : Key × Msg). e.1) entry in
    let rest = same_list xs ys cc in
    λ i. record { time = (key i).time; to = (key i).to; from = (key i).from; sequence = (key i).sequence; msg = msg i } ∷ rest i

-- Only one list stands for a map.
pub one_stands : (xs ys : List Stamped) (map : Pending) → StandsFor xs map → StandsFor ys map → xs ≡ ys
one_stands xs ys map first second = same_list xs ys (first ∙ sym second)

-- A message in its place goes with an insertion.
pub insert_stands : (message : Stamped) (messages : List Stamped) (map : Pending) → HasNoKey (key_of message) messages → StandsFor messages map → StandsFor (insert_of message messages) (insert map (key_of message) message.msg)
insert_stands message messages map none same =
    entries-insert_of message messages none
    ∙ ap (put key_cmp (key_of message) message.msg) same
    ∙ sym (entries-insert key_cmp_total map (key_of message) message.msg)

find_below : (key : Key) (es : List (Key × Msg)) → T (below_all key_cmp key es) → find key_cmp key es ≡ None
find_below key [] below = refl
find_below key (e ∷ es) below =
    ap (λ (r : Ordering). cond (is_eq r) (Some e.1) (find key_cmp key es)) (less _ (first_part (is_lt (key_cmp key e.0)) _ below))
    ∙ find_below key es (second_part (is_lt (key_cmp key e.0)) _ below)

same_key : (a b : Key) → eq_by_cmp key_cmp a b ≡ true → a ≡ b
same_key a b is = at (key_cmp a b) refl is
  where
    at : (r : Ordering) → key_cmp a b ≡ r → is_eq r ≡ true → a ≡ b
    at Less same h = cc
    at Equal same h = tied_keys a b same
    at Greater same h = cc

-- The list without its first message goes with the map without that key.
pub rest_stands : (first : Stamped) (rest : List Stamped) (map : Pending) → StandsFor (first ∷ rest) map → StandsFor rest (remove map (key_of first))
rest_stands first rest map same =
    same_entries key_cmp key_cmp_total tied_keys (entries_of rest) (entries (remove map (key_of first))) (holds _ (rest_rises first rest rises)) (entries_sorted (remove map (key_of first))) found
  where
    rises : IsRising (first ∷ rest)
    rises = map_rises (first ∷ rest) map same

    below : T (below_all key_cmp (key_of first) (entries_of rest))
    below = first_part (below_all key_cmp (key_of first) (entries_of rest)) _ (holds _ rises)

    either : (q : Key) (b : Bool) → eq_by_cmp key_cmp q (key_of first) ≡ b → find key_cmp q (entries_of rest) ≡ cond b None (cond b (Some first.msg) (find key_cmp q (entries_of rest)))
    either q true is =
        find_below q (entries_of rest) (subst (λ k. T (below_all key_cmp k (entries_of rest))) (sym (same_key q (key_of first) is)) below)
    either q false is = refl

    found : (q : Key) → find key_cmp q (entries_of rest) ≡ find key_cmp q (entries (remove map (key_of first)))
    found q =
        either q (eq_by_cmp key_cmp q (key_of first)) refl
        ∙ ap (cond (eq_by_cmp key_cmp q (key_of first)) None) (ap (find key_cmp q) same ∙ sym (get-entries map q))
        ∙ sym (get-remove key_cmp_total map (key_of first) q)
        ∙ get-entries (remove map (key_of first)) q

-- The first message is what the map has under its key.
pub first_stands : (first : Stamped) (rest : List Stamped) (map : Pending) → StandsFor (first ∷ rest) map → get map (key_of first) ≡ Some first.msg
first_stands first rest map same =
    get-entries map (key_of first)
    ∙ ap (find key_cmp (key_of first)) (sym same)
    ∙ ap (λ (r : Ordering). cond (is_eq r) (Some first.msg) (find key_cmp (key_of first) (entries_of rest))) (tied_itself key_cmp_total (key_of first))

found_later : (b : Bool) (v : Msg) (o : Option Msg) → cond b (Some v) o ≡ None → o ≡ None
found_later true v o is = cc
found_later false v o is = is

not_found : (key : Key) (messages : List Stamped) → find key_cmp key (entries_of messages) ≡ None → HasNoKey key messages
not_found key [] none k d within = absurd (omega arith)
not_found key (m ∷ ms) none zero d within = λ is.
    let tied : eq_by_cmp key_cmp key (key_of m) ≡ true = ap is_eq (ap (key_cmp key) is ∙ tied_itself key_cmp_total key) in
    let some : Some m.msg ≡ None = ap (λ (b : Bool). cond b (Some m.msg) (find key_cmp key (entries_of ms))) (sym tied) ∙ none in
    cc
not_found key (m ∷ ms) none (suc k) d within =
    not_found key ms (found_later (eq_by_cmp key_cmp key (key_of m)) m.msg _ none) k d (omega arith)

-- Where the map has nothing under a key, no message has it.
pub absent_stands : (key : Key) (messages : List Stamped) (map : Pending) → StandsFor messages map → get map key ≡ None → HasNoKey key messages
absent_stands key messages map same none =
    not_found key messages (ap (find key_cmp key) same ∙ sym (get-entries map key) ∙ none)

found_nothing : (key : Key) (messages : List Stamped) → HasNoKey key messages → find key_cmp key (entries_of messages) ≡ None
found_nothing key [] none = refl
found_nothing key (m ∷ ms) none =
    either (eq_by_cmp key_cmp key (key_of m)) refl (found_nothing key ms (λ k d within. none (suc k) d (omega arith)))
  where
    either : (b : Bool) → eq_by_cmp key_cmp key (key_of m) ≡ b → find key_cmp key (entries_of ms) ≡ None → cond b (Some m.msg) (find key_cmp key (entries_of ms)) ≡ None
    either true is later = absurd (none 0 m (omega arith) (sym (same_key key (key_of m) is)))
    either false is later = later

-- Where no message has a key, the map has nothing under it.
pub nothing_under : (key : Key) (messages : List Stamped) (map : Pending) → StandsFor messages map → HasNoKey key messages → get map key ≡ None
nothing_under key messages map same none =
    get-entries map key ∙ ap (find key_cmp key) (sym same) ∙ found_nothing key messages none
