-- Laws of messages that are kept in two parts.
use Rattle.std.proofs.Common.{◌≡◌, ◌≢◌, suc, Bool, true, false, cond, List, [], ◌∷◌, ◌++◌, get_or, Option, Some, None, MatchOption, Result, Ok, Err, OnOk, OnErr, refl, ap, sym, subst, ◌∙◌, arith}
use Rattle.std.specs.declared.cmp.Ordering.{Ordering}
use Rattle.std.specs.declared.cmp.Ordering.TheVariants.{Less, Equal, Greater}
use Rattle.std.specs.Ordering.{is_lt, ordering_reverse}
use Rattle.std.specs.List.{All}
use Rattle.std.proofs.lemmas.List.Sorted.{IsPermutation-sym, All-permutation}
use Rattle.std.proofs.lemmas.List.Elements.{All-cons, All-head, All-tail}
use Rattle.wt_proto.specs.declared.key.Key.{Key}
use Rattle.wt_proto.specs.declared.message.Stamped.{Stamped}
use Rattle.wt_proto.specs.KeyOrder.{key_cmp}
use Rattle.wt_proto.specs.Messages.{key_of}
use Rattle.wt_proto.proofs.KeyLaws.{key_cmp_total, tied_keys}
use Rattle.event_queue.specs.Rising.{IsRising, HasNoKey, is_before, insert_of, peek_of}
use Rattle.event_queue.specs.Merging.{AreParts, is_sooner, merged}
use Rattle.event_queue.proofs.RisingLaws.{turned, less, holds, rest_rises, first_is_least, IsPermutation-insert_of, All-insert_of, IsRising-insert_of}

-- a message goes past one of a lesser key
pub goes_past : (message first : Stamped) (rest : List Stamped) → is_before (key_of message) first ≡ true → insert_of message (first ∷ rest) ≡ first ∷ insert_of message rest
goes_past message first rest is =
    ap (λ (b : Bool). cond b (first ∷ insert_of message rest) (message ∷ first ∷ rest)) is

-- and stops before any other
pub stops_before : (message first : Stamped) (rest : List Stamped) → is_before (key_of message) first ≡ false → insert_of message (first ∷ rest) ≡ message ∷ first ∷ rest
stops_before message first rest is =
    ap (λ (b : Bool). cond b (first ∷ insert_of message rest) (message ∷ first ∷ rest)) is

-- A message that no other is before goes first.
pub goes_first : (message : Stamped) (messages : List Stamped) → All (λ m. is_before (key_of message) m ≡ false) messages → insert_of message messages ≡ message ∷ messages
goes_first message [] after = refl
goes_first message (m ∷ ms) after = stops_before message m ms (after 0 m (omega arith))

-- A message that is before none of a second part has its place in the first.
pub insert-append_left : (message : Stamped) (first second : List Stamped) → All (λ m. is_before (key_of message) m ≡ false) second → insert_of message (first ++ second) ≡ insert_of message first ++ second
insert-append_left message [] second after = goes_first message second after
insert-append_left message (m ∷ ms) second after =
    at (is_before (key_of message) m) (insert-append_left message ms second after)
  where
    at : (b : Bool) → insert_of message (ms ++ second) ≡ insert_of message ms ++ second → cond b (m ∷ insert_of message (ms ++ second)) (message ∷ m ∷ (ms ++ second)) ≡ cond b (m ∷ insert_of message ms) (message ∷ m ∷ ms) ++ second
    at true rest = ap (λ (l : List Stamped). m ∷ l) rest
    at false rest = refl

-- One that all of a first part are before has its place in the second.
pub insert-append_right : (message : Stamped) (first second : List Stamped) → All (λ m. is_before (key_of message) m ≡ true) first → insert_of message (first ++ second) ≡ first ++ insert_of message second
insert-append_right message [] second before = refl
insert-append_right message (m ∷ ms) second before =
    goes_past message m (ms ++ second) (before 0 m (omega arith))
    ∙ ap (λ (l : List Stamped). m ∷ l) (insert-append_right message ms second (λ k d within. before (suc k) d (omega arith)))

is_less : (a b : Stamped) (r : Ordering) → key_cmp (key_of b) (key_of a) ≡ r → is_before (key_of a) b ≡ is_lt r
is_less a b r is = ap is_lt is

-- whether one message is before another, by how their keys compare the other way round
pub turned_before : (a b : Stamped) (r : Ordering) → key_cmp (key_of a) (key_of b) ≡ r → is_before (key_of a) b ≡ is_lt (ordering_reverse r)
turned_before a b r is = ap is_lt (turned (key_of b) (key_of a) r is)

chained : (x a b : Stamped) → is_before (key_of a) x ≡ true → is_before (key_of b) a ≡ true → is_before (key_of b) x ≡ true
chained x a b first second =
    ap is_lt (key_cmp_total.trans (key_of x) (key_of a) (key_of b) (less _ (holds _ first)) (less _ (holds _ second)))

-- Of two messages of different keys it doesn't matter which is put in first.
pub insert_swap : (a b : Stamped) (messages : List Stamped) → key_of a ≢ key_of b → insert_of a (insert_of b messages) ≡ insert_of b (insert_of a messages)
insert_swap a b [] apart = at (key_cmp (key_of a) (key_of b)) refl
  where
    at : (r : Ordering) → key_cmp (key_of a) (key_of b) ≡ r → insert_of a (b ∷ []) ≡ insert_of b (a ∷ [])
    at Less is = stops_before a b [] (turned_before a b Less is) ∙ sym (goes_past b a [] (is_less b a Less is))
    at Equal is = absurd (apart (tied_keys (key_of a) (key_of b) is))
    at Greater is = goes_past a b [] (turned_before a b Greater is) ∙ sym (stops_before b a [] (is_less b a Greater is))
insert_swap a b (x ∷ xs) apart =
    at (is_before (key_of a) x) refl (is_before (key_of b) x) refl (key_cmp (key_of a) (key_of b)) refl (insert_swap a b xs apart)
  where
    at : (p : Bool) → is_before (key_of a) x ≡ p → (q : Bool) → is_before (key_of b) x ≡ q → (r : Ordering) → key_cmp (key_of a) (key_of b) ≡ r → insert_of a (insert_of b xs) ≡ insert_of b (insert_of a xs) → insert_of a (insert_of b (x ∷ xs)) ≡ insert_of b (insert_of a (x ∷ xs))
    at true p true q r is rest =
        ap (insert_of a) (goes_past b x xs q) ∙ goes_past a x (insert_of b xs) p ∙ ap (λ (l : List Stamped). x ∷ l) rest
        ∙ sym (ap (insert_of b) (goes_past a x xs p) ∙ goes_past b x (insert_of a xs) q)
    at true p false q Less is rest =
        let both : true ≡ false = sym (chained x a b p (is_less b a Less is)) ∙ q in
        cc
    at true p false q Equal is rest = absurd (apart (tied_keys (key_of a) (key_of b) is))
    at true p false q Greater is rest =
        ap (insert_of a) (stops_before b x xs q) ∙ goes_past a b (x ∷ xs) (turned_before a b Greater is) ∙ ap (λ (l : List Stamped). b ∷ l) (goes_past a x xs p)
        ∙ sym (ap (insert_of b) (goes_past a x xs p) ∙ stops_before b x (insert_of a xs) q)
    at false p true q Less is rest =
        ap (insert_of a) (goes_past b x xs q) ∙ stops_before a x (insert_of b xs) p
        ∙ sym (ap (insert_of b) (stops_before a x xs p) ∙ goes_past b a (x ∷ xs) (is_less b a Less is) ∙ ap (λ (l : List Stamped). a ∷ l) (goes_past b x xs q))
    at false p true q Equal is rest = absurd (apart (tied_keys (key_of a) (key_of b) is))
    at false p true q Greater is rest =
        let both : true ≡ false = sym (chained x b a q (turned_before a b Greater is)) ∙ p in
        cc
    at false p false q Less is rest =
        ap (insert_of a) (stops_before b x xs q) ∙ stops_before a b (x ∷ xs) (turned_before a b Less is)
        ∙ sym (ap (insert_of b) (stops_before a x xs p) ∙ goes_past b a (x ∷ xs) (is_less b a Less is) ∙ ap (λ (l : List Stamped). a ∷ l) (stops_before b x xs q))
    at false p false q Equal is rest = absurd (apart (tied_keys (key_of a) (key_of b) is))
    at false p false q Greater is rest =
        ap (insert_of a) (stops_before b x xs q) ∙ goes_past a b (x ∷ xs) (turned_before a b Greater is) ∙ ap (λ (l : List Stamped). b ∷ l) (stops_before a x xs p)
        ∙ sym (ap (insert_of b) (stops_before a x xs p) ∙ stops_before b a (x ∷ xs) (is_less b a Greater is))

-- What holds of all messages with one in its place holds of that one and of the others.
pub All-from_insert_of : (P : Stamped → Type 0) (message : Stamped) (messages : List Stamped) → All P (insert_of message messages) → P message × All P messages
All-from_insert_of P message messages all =
    let parts = All-permutation P (insert_of message messages) (message ∷ messages) (IsPermutation-sym _ _ (IsPermutation-insert_of message messages)) all in
    (All-head P message messages parts, All-tail P message messages parts)

-- What holds of the messages of both parts holds of all.
pub All-merged : (P : Stamped → Type 0) (near far : List Stamped) → All P near → All P far → All P (merged near far)
All-merged P [] far nears fars = fars
All-merged P (m ∷ ms) far nears fars =
    All-insert_of P m (merged ms far) (All-head P m ms nears) (All-merged P ms far (All-tail P m ms nears) fars)

-- What holds of all holds of the messages of each part.
pub All-from_merged : (P : Stamped → Type 0) (near far : List Stamped) → All P (merged near far) → All P near × All P far
All-from_merged P [] far all = (λ k d within. absurd (omega arith), all)
All-from_merged P (m ∷ ms) far all =
    let here = All-from_insert_of P m (merged ms far) all in
    let rest = All-from_merged P ms far here.1 in
    (All-cons P m ms here.0 rest.0, rest.1)

-- A message that is put into the near part is put in its place among all.
pub merged-near : (message : Stamped) (near far : List Stamped) → HasNoKey (key_of message) near → merged (insert_of message near) far ≡ insert_of message (merged near far)
merged-near message [] far none = refl
merged-near message (m ∷ ms) far none =
    at (is_before (key_of message) m) refl (merged-near message ms far (λ k d within. none (suc k) d (omega arith)))
  where
    at : (b : Bool) → is_before (key_of message) m ≡ b → merged (insert_of message ms) far ≡ insert_of message (merged ms far) → merged (insert_of message (m ∷ ms)) far ≡ insert_of message (merged (m ∷ ms) far)
    at true is rest =
        ap (λ (l : List Stamped). merged l far) (goes_past message m ms is)
        ∙ ap (insert_of m) rest
        ∙ insert_swap m message (merged ms far) (none 0 m (omega arith))
    at false is rest = ap (λ (l : List Stamped). merged l far) (stops_before message m ms is)

-- So is one that is put into the far part.
pub merged-far : (message : Stamped) (near far : List Stamped) → HasNoKey (key_of message) near → merged near (insert_of message far) ≡ insert_of message (merged near far)
merged-far message [] far none = refl
merged-far message (m ∷ ms) far none =
    ap (insert_of m) (merged-far message ms far (λ k d within. none (suc k) d (omega arith)))
    ∙ insert_swap m message (merged ms far) (none 0 m (omega arith))

-- the messages of a rising list whose first has a greater key than one
later : (key : Key) (first : Stamped) (rest : List Stamped) → key_cmp key (key_of first) ≡ Less → IsRising (first ∷ rest) → All (λ m. key_cmp key (key_of m) ≡ Less) (first ∷ rest)
later key first rest below rising =
    All-cons (λ (m : Stamped). key_cmp key (key_of m) ≡ Less) first rest below
    (λ k d within. key_cmp_total.trans key (key_of first) (key_of (get_or rest k d)) below (first_is_least first rest rising k d within))

not_before : (message : Stamped) (messages : List Stamped) → All (λ m. key_cmp (key_of message) (key_of m) ≡ Less) messages → All (λ m. is_before (key_of message) m ≡ false) messages
not_before message messages below k d within = turned_before message (get_or messages k d) Less (below k d within)

-- The first of the near part, where all others have greater keys, is the first of all.
near_first : (message : Stamped) (near far : List Stamped) → IsRising (message ∷ near) → All (λ m. key_cmp (key_of message) (key_of m) ≡ Less) far → merged (message ∷ near) far ≡ message ∷ merged near far
near_first message near far rising below =
    goes_first message (merged near far)
    (not_before message (merged near far) (All-merged (λ m. key_cmp (key_of message) (key_of m) ≡ Less) near far (first_is_least message near rising) below))

-- So is the first of the far part.
far_first : (message : Stamped) (near far : List Stamped) → All (λ m. key_cmp (key_of message) (key_of m) ≡ Less) near → merged near (message ∷ far) ≡ message ∷ merged near far
far_first message [] far below = refl
far_first message (m ∷ ms) far below =
    ap (insert_of m) (far_first message ms far (λ k d within. below (suc k) d (omega arith)))
    ∙ goes_past m message (merged ms far) (is_less m message Less (below 0 m (omega arith)))

-- where the near part comes first
pub near_is_first : (message : Stamped) (near far : List Stamped) → IsRising (message ∷ near) → IsRising far → is_sooner (peek_of (message ∷ near)) (peek_of far) ≡ true → merged (message ∷ near) far ≡ message ∷ merged near far
near_is_first message near [] rising far_rising sooner =
    near_first message near [] rising (λ k d within. absurd (omega arith))
near_is_first message near (f ∷ fs) rising far_rising sooner =
    near_first message near (f ∷ fs) rising (later (key_of message) f fs (less _ (holds _ sooner)) far_rising)

greater : (a b : Key) → a ≢ b → is_lt (key_cmp a b) ≡ false → key_cmp b a ≡ Less
greater a b apart is = at (key_cmp a b) refl is
  where
    at : (r : Ordering) → key_cmp a b ≡ r → is_lt r ≡ false → key_cmp b a ≡ Less
    at Less same h = cc
    at Equal same h = absurd (apart (tied_keys a b same))
    at Greater same h = turned b a Greater same

-- where the far part comes first
pub far_is_first : (message : Stamped) (near far : List Stamped) → IsRising near → All (λ m. HasNoKey (key_of m) (message ∷ far)) near → is_sooner (peek_of near) (peek_of (message ∷ far)) ≡ false → merged near (message ∷ far) ≡ message ∷ merged near far
far_is_first message [] far rising apart sooner = refl
far_is_first message (m ∷ ms) far rising apart sooner =
    far_first message (m ∷ ms) far (later (key_of message) m ms (greater (key_of m) (key_of message) (λ same. apart 0 m (omega arith) 0 message (omega arith) (sym same)) sooner) rising)

-- The least key of all is that of the part that comes first.
pub peek-merged : (near far : List Stamped) → IsRising near → IsRising far → All (λ m. HasNoKey (key_of m) far) near → peek_of (merged near far) ≡ cond (is_sooner (peek_of near) (peek_of far)) (peek_of near) (peek_of far)
peek-merged [] far rising far_rising apart = refl
peek-merged (m ∷ ms) [] rising far_rising apart =
    ap peek_of (near_is_first m ms [] rising far_rising refl)
peek-merged (m ∷ ms) (f ∷ fs) rising far_rising apart =
    at (is_sooner (Some (key_of m)) (Some (key_of f))) refl
  where
    at : (b : Bool) → is_sooner (Some (key_of m)) (Some (key_of f)) ≡ b → peek_of (merged (m ∷ ms) (f ∷ fs)) ≡ cond b (Some (key_of m)) (Some (key_of f))
    at true is = ap peek_of (near_is_first m ms (f ∷ fs) rising far_rising is)
    at false is = ap peek_of (far_is_first f (m ∷ ms) fs rising apart is)

parts_with : (message : Stamped) (near far near_after far_after : List Stamped) → AreParts near far → HasNoKey (key_of message) (merged near far) → merged near_after far_after ≡ insert_of message (merged near far) → All (λ m. HasNoKey (key_of m) far_after) near_after → AreParts near_after far_after
parts_with message near far near_after far_after are none is apart = record {
  apart = apart;
  rising = subst IsRising (sym is) (IsRising-insert_of message (merged near far) none are.rising);
}

-- The parts after an insertion into one of them, which may be refused.
pub record ArePutIn {T E : Type 0} (result : Result T E) (message : Stamped) (near far near_after far_after : List Stamped) : Type 0 where
  pub parts : AreParts near_after far_after
  pub ok : OnOk result (merged near_after far_after ≡ insert_of message (merged near far))
  pub err : OnErr result (merged near_after far_after ≡ merged near far)

-- a message more in the near part
pub put_near : {T E : Type 0} (result : Result T E) (message : Stamped) (near far after : List Stamped) → AreParts near far → HasNoKey (key_of message) (merged near far) → OnOk result (after ≡ insert_of message near) → OnErr result (after ≡ near) → ArePutIn result message near far after far
put_near (Ok x) message near far after are none ok err = record {
  parts = subst (λ (l : List Stamped). AreParts l far) (sym ok) (parts_with message near far (insert_of message near) far are none is (All-insert_of (λ m. HasNoKey (key_of m) far) message near each.1 are.apart));
  ok = ap (λ (l : List Stamped). merged l far) ok ∙ is;
  err = tt;
}
  where
    each : HasNoKey (key_of message) near × HasNoKey (key_of message) far
    each = All-from_merged (λ m. key_of m ≢ key_of message) near far none

    is : merged (insert_of message near) far ≡ insert_of message (merged near far)
    is = merged-near message near far each.0
put_near (Err e) message near far after are none ok err = record {
  parts = subst (λ (l : List Stamped). AreParts l far) (sym err) are;
  ok = tt;
  err = ap (λ (l : List Stamped). merged l far) err;
}

-- a message more in the far part
pub put_far : {T E : Type 0} (result : Result T E) (message : Stamped) (near far after : List Stamped) → AreParts near far → HasNoKey (key_of message) (merged near far) → OnOk result (after ≡ insert_of message far) → OnErr result (after ≡ far) → ArePutIn result message near far near after
put_far (Ok x) message near far after are none ok err = record {
  parts = subst (AreParts near) (sym ok) (parts_with message near far near (insert_of message far) are none is apart);
  ok = ap (merged near) ok ∙ is;
  err = tt;
}
  where
    each : HasNoKey (key_of message) near × HasNoKey (key_of message) far
    each = All-from_merged (λ m. key_of m ≢ key_of message) near far none

    is : merged near (insert_of message far) ≡ insert_of message (merged near far)
    is = merged-far message near far each.0

    apart : All (λ m. HasNoKey (key_of m) (insert_of message far)) near
    apart k d within =
        All-insert_of (λ m. key_of m ≢ key_of (get_or near k d)) message far (λ same. each.0 k d within (sym same)) (are.apart k d within)
put_far (Err e) message near far after are none ok err = record {
  parts = subst (AreParts near) (sym err) are;
  ok = tt;
  err = ap (merged near) err;
}

-- The parts after the first message of one of them was taken, if there was one.
pub record AreTakenFrom (result : Option Stamped) (near far near_after far_after : List Stamped) : Type 0 where
  pub parts : AreParts near_after far_after
  pub value : MatchOption result ((merged near far ≡ []) × (merged near_after far_after ≡ [])) (λ message. merged near far ≡ message ∷ merged near_after far_after)

taken_parts : (message : Stamped) (near far near_after far_after : List Stamped) → AreParts near far → merged near far ≡ message ∷ merged near_after far_after → All (λ m. HasNoKey (key_of m) far_after) near_after → AreTakenFrom (Some message) near far near_after far_after
taken_parts message near far near_after far_after are is apart = record {
  parts = record {
    apart = apart;
    rising = rest_rises message (merged near_after far_after) (subst IsRising is are.rising);
  };
  value = is;
}

-- where the near part comes first
pub taken_near : (result : Option Stamped) (near far after : List Stamped) → AreParts near far → IsRising near → IsRising far → is_sooner (peek_of near) (peek_of far) ≡ true → MatchOption result ((near ≡ []) × (after ≡ [])) (λ message. near ≡ message ∷ after) → AreTakenFrom result near far after far
taken_near None near far after are rising far_rising sooner taken =
    let none : false ≡ true = ap (λ (l : List Stamped). is_sooner (peek_of l) (peek_of far)) (sym taken.0) ∙ sooner in
    cc
taken_near (Some message) near far after are rising far_rising sooner taken =
    taken_parts message near far after far are
    (ap (λ (l : List Stamped). merged l far) taken
    ∙ near_is_first message after far (subst IsRising taken rising) far_rising (ap (λ (l : List Stamped). is_sooner (peek_of l) (peek_of far)) (sym taken) ∙ sooner))
    (All-tail (λ m. HasNoKey (key_of m) far) message after (subst (All (λ m. HasNoKey (key_of m) far)) taken are.apart))

not_sooner : (near : List Stamped) → is_sooner (peek_of near) None ≡ false → near ≡ []
not_sooner [] is = refl
not_sooner (m ∷ ms) is = cc

-- where the far part comes first
pub taken_far : (result : Option Stamped) (near far after : List Stamped) → AreParts near far → IsRising near → is_sooner (peek_of near) (peek_of far) ≡ false → MatchOption result ((far ≡ []) × (after ≡ [])) (λ message. far ≡ message ∷ after) → AreTakenFrom result near far near after
taken_far None near far after are rising sooner taken =
    let nothing : near ≡ [] = not_sooner near (ap (λ (l : List Stamped). is_sooner (peek_of near) (peek_of l)) (sym taken.0) ∙ sooner) in
    record {
      parts = subst (AreParts near) (taken.0 ∙ sym taken.1) are;
      value = (ap (λ (l : List Stamped). merged l far) nothing ∙ taken.0, ap (λ (l : List Stamped). merged l after) nothing ∙ taken.1);
    }
taken_far (Some message) near far after are rising sooner taken =
    taken_parts message near far near after are
    (ap (merged near) taken
    ∙ far_is_first message near after rising (subst (λ (l : List Stamped). All (λ m. HasNoKey (key_of m) l) near) taken are.apart) (ap (λ (l : List Stamped). is_sooner (peek_of near) (peek_of l)) (sym taken) ∙ sooner))
    (λ k d within. All-tail (λ m. key_of m ≢ key_of (get_or near k d)) message after (subst (HasNoKey (key_of (get_or near k d))) taken (are.apart k d within)))
