-- The queue of a station as a map of its messages by their keys.
use Rattle.std.proofs.Common.{◌≡◌, suc, Bool, true, false, cond, T, List, [], ◌∷◌, length, Some, None, refl, ap, sym, subst, ◌∙◌}
use Rattle.std.specs.declared.cmp.Ordering.TheVariants.{Less}
use Rattle.std.specs.Ordering.{is_lt, eq_by_cmp}
use Rattle.std.specs.FinMap.{empty, get, insert, remove, entries, len, get-empty, get-entries, get-from_sorted, entries-from_sorted, len-entries}
use Rattle.std.specs.FinMap.Entries.{find, below_all}
use Rattle.wt_proto.specs.declared.key.Key.{Key}
use Rattle.wt_proto.specs.declared.message.Msg.{Msg}
use Rattle.wt_proto.specs.declared.message.Stamped.{Stamped}
use Rattle.wt_proto.specs.KeyOrder.{key_cmp}
use Rattle.wt_proto.specs.Messages.{key_of}
use Rattle.event_queue.specs.Rising.{entries_of, IsRising, HasNoKey, insert_of}
use Rattle.event_queue.proofs.RisingLaws.{first_part, second_part, less, holds}
use Rattle.event_queue.proofs.MapLaws.{Pending, StandsFor, nothing_stands, insert_stands, rest_stands, first_stands, absent_stands}
use Rattle.discrete_events.proofs.Keys.{IsUpTo, less_upto, upto_itself, is_key}
use Rattle.discrete_events.proofs.Queues.{same_queue}
use Rattle.quantum.specs.Stations.{pending_of}

-- a rising queue stands for its map
pub stands : (queue : List Stamped) → IsRising queue → StandsFor queue (pending_of queue)
stands queue rising = sym (entries-from_sorted key_cmp (entries_of queue) (holds _ rising))

-- and for no other
same_entries : (a b : Pending) → entries a ≡ entries b → a ≡ b
same_entries a b same = same_queue a b (λ q. get-entries a q ∙ ap (find key_cmp q) same ∙ sym (get-entries b q))

pub stands_for : (queue : List Stamped) (map : Pending) → IsRising queue → StandsFor queue map → pending_of queue ≡ map
stands_for queue map rising same = same_entries (pending_of queue) map (sym (stands queue rising) ∙ same)

pub nothing_waits : pending_of [] ≡ empty
nothing_waits = stands_for [] empty refl nothing_stands

pub pending-insert : (message : Stamped) (queue : List Stamped) → IsRising queue → IsRising (insert_of message queue) → HasNoKey (key_of message) queue → pending_of (insert_of message queue) ≡ insert (pending_of queue) (key_of message) message.msg
pending-insert message queue rising after none =
    stands_for (insert_of message queue) _ after (insert_stands message queue (pending_of queue) none (stands queue rising))

pub pending-rest : (first : Stamped) (rest : List Stamped) → IsRising (first ∷ rest) → IsRising rest → pending_of rest ≡ remove (pending_of (first ∷ rest)) (key_of first)
pending-rest first rest rising after =
    stands_for rest _ after (rest_stands first rest (pending_of (first ∷ rest)) (stands (first ∷ rest) rising))

pub pending-first : (first : Stamped) (rest : List Stamped) → IsRising (first ∷ rest) → get (pending_of (first ∷ rest)) (key_of first) ≡ Some first.msg
pending-first first rest rising = first_stands first rest (pending_of (first ∷ rest)) (stands (first ∷ rest) rising)

pub no_key : (key : Key) (queue : List Stamped) → IsRising queue → get (pending_of queue) key ≡ None → HasNoKey key queue
no_key key queue rising none = absent_stands key queue (pending_of queue) (stands queue rising) none

pub pending-len : (queue : List Stamped) → IsRising queue → len (pending_of queue) ≡ length queue
pending-len queue rising = len-entries (pending_of queue) ∙ ap length (sym (stands queue rising)) ∙ entries_length queue
  where
    entries_length : (queue : List Stamped) → length (entries_of queue) ≡ length queue
    entries_length [] = refl
    entries_length (message ∷ messages) = ap suc (entries_length messages)

found_above : (least key : Key) (msg : Msg) (es : List (Key × Msg)) → T (below_all key_cmp least es) → find key_cmp key es ≡ Some msg → key_cmp least key ≡ Less
found_above least key msg [] below is = cc
found_above least key msg (e ∷ es) below is =
    by (found_above least key msg es (second_part (is_lt (key_cmp least e.0)) _ below)) (eq_by_cmp key_cmp key e.0) refl is
  where
    by : (find key_cmp key es ≡ Some msg → key_cmp least key ≡ Less) → (b : Bool) → eq_by_cmp key_cmp key e.0 ≡ b → cond b (Some e.1) (find key_cmp key es) ≡ Some msg → key_cmp least key ≡ Less
    by rest true same found = subst (λ k. key_cmp least k ≡ Less) (sym (is_key key e.0 same)) (less _ (first_part (is_lt (key_cmp least e.0)) _ below))
    by rest false other found = rest found

-- the first message of a queue has the least key
pub first_upto : (first : Stamped) (rest : List Stamped) (key : Key) (msg : Msg) → IsRising (first ∷ rest) → get (pending_of (first ∷ rest)) key ≡ Some msg → IsUpTo (key_of first) key
first_upto first rest key msg rising there =
    by (eq_by_cmp key_cmp key (key_of first)) refl (sym (get-from_sorted key_cmp (entries_of (first ∷ rest)) key (holds _ rising)) ∙ there)
  where
    by : (b : Bool) → eq_by_cmp key_cmp key (key_of first) ≡ b → cond b (Some first.msg) (find key_cmp key (entries_of rest)) ≡ Some msg → IsUpTo (key_of first) key
    by true same found = subst (IsUpTo (key_of first)) (sym (is_key key (key_of first) same)) (upto_itself (key_of first))
    by false other found =
        less_upto (key_of first) key (found_above (key_of first) key msg (entries_of rest) (first_part (below_all key_cmp (key_of first) (entries_of rest)) _ (holds _ rising)) found)

pub none_waits : (key : Key) (msg : Msg) → get (pending_of []) key ≡ Some msg → ⊥
none_waits key msg there =
    let none : get (pending_of []) key ≡ None = ap (λ (map : Pending). get map key) nothing_waits ∙ get-empty key_cmp key in cc
