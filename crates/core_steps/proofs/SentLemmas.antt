-- The messages to a node among some, and the first of them.
use Rattle.std.proofs.Common.{◌≡◌, ◌≢◌, ℕ, zero, suc, List, [], ◌∷◌, ◌++◌, take, drop, Bool, true, false, cond, Some, None, refl, ap, sym, ◌∙◌, ◌==◌, eq-eqb, eqb-true, ne_eqb}
use Rattle.std.specs.Prelude.{slice_get}
use Rattle.std.specs.List.{filter}
use Rattle.wt_proto.specs.declared.message.Msg.{Msg}
use Rattle.wt_proto.specs.declared.message.Stamped.{Stamped}
use Rattle.discrete_events.specs.Simulation.{Message}
use Rattle.discrete_events.proofs.Lists.{filter_append}
use Rattle.std.proofs.lemmas.List.{map-append}
use Rattle.node.specs.React.{message_under_key}
use Rattle.core_steps.specs.Cores.{sent_to, under_keys}
use Rattle.core_steps.specs.Sent.{HasNone, HasSome, IsLeft, IsTaken, first_of}

sent_append : (to : ℕ) (xs ys : List Stamped) → sent_to to (xs ++ ys) ≡ sent_to to xs ++ sent_to to ys
sent_append to xs ys =
    ap (λ (ms : List (Message Msg)). filter (λ (m : Message Msg). m.0.to == to) ms) (map-append message_under_key xs ys)
    ∙ filter_append (λ (m : Message Msg). m.0.to == to) (under_keys xs) (under_keys ys)

sent_same : (to : ℕ) (x : Stamped) (xs : List Stamped) → x.to ≡ to → sent_to to (x ∷ xs) ≡ message_under_key x ∷ sent_to to xs
sent_same to x xs e = ap (λ (b : Bool). cond b (message_under_key x ∷ sent_to to xs) (sent_to to xs)) (eq-eqb x.to to e)

sent_other : (to : ℕ) (x : Stamped) (xs : List Stamped) → x.to ≢ to → sent_to to (x ∷ xs) ≡ sent_to to xs
sent_other to x xs n = ap (λ (b : Bool). cond b (message_under_key x ∷ sent_to to xs) (sent_to to xs)) (ne_eqb x.to to n)

some_more : (to : ℕ) (x : Stamped) (xs : List Stamped) → HasSome to xs → HasSome to (x ∷ xs)
some_more to x xs some = by (x.to == to)
  where
    by : (b : Bool) → cond b (message_under_key x ∷ sent_to to xs) (sent_to to xs) ≢ []
    by true = λ none. cc
    by false = some

none_past : (to : ℕ) (x : Stamped) (xs ys : List Stamped) → HasNone to (x ∷ xs) → (HasNone to xs → HasNone to ys) → HasNone to (x ∷ ys)
none_past to x xs ys none rest = by (x.to == to) none
  where
    by : (b : Bool) → cond b (message_under_key x ∷ sent_to to xs) (sent_to to xs) ≡ [] → cond b (message_under_key x ∷ sent_to to ys) (sent_to to ys) ≡ []
    by true all = absurd cc
    by false all = rest all

pub some_at : (to : ℕ) (list : List Stamped) (place : ℕ) (m : Stamped) → slice_get list place ≡ Some m → m.to ≡ to → HasSome to list
some_at to [] place m e same = let n : None ≡ Some m = e in absurd cc
some_at to (x ∷ xs) zero m e same = λ none.
    let is : x ≡ m = (let s : Some x ≡ Some m = e in cc) in
    let all = sym (sent_same to x xs (ap (λ (y : Stamped). y.to) is ∙ same)) ∙ none in
    cc
some_at to (x ∷ xs) (suc k) m e same = some_more to x xs (some_at to xs k m e same)

pub none_more : (to : ℕ) (list : List Stamped) (place : ℕ) (m : Stamped) → slice_get list place ≡ Some m → m.to ≢ to → HasNone to (take place list) → HasNone to (take (suc place) list)
none_more to [] place m e other none = let n : None ≡ Some m = e in absurd cc
none_more to (x ∷ xs) zero m e other none =
    let is : x ≡ m = (let s : Some x ≡ Some m = e in cc) in
    sent_other to x [] (λ same. other (ap (λ (y : Stamped). y.to) (sym is) ∙ same))
none_more to (x ∷ xs) (suc k) m e other none = none_past to x (take k xs) (take (suc k) xs) none (λ rest. none_more to xs k m e other rest)

pub none_at_end : (to : ℕ) (list : List Stamped) (place : ℕ) → slice_get list place ≡ None → HasNone to (take place list) → HasNone to (take (suc place) list)
none_at_end to [] zero e none = refl
none_at_end to [] (suc k) e none = refl
none_at_end to (x ∷ xs) zero e none = let n : Some x ≡ None = e in absurd cc
none_at_end to (x ∷ xs) (suc k) e none = none_past to x (take k xs) (take (suc k) xs) none (λ rest. none_at_end to xs k e rest)

-- a message that is to another is passed over
pub none_then : (to : ℕ) (before : List Stamped) (m : Stamped) → HasNone to before → m.to ≢ to → HasNone to (before ++ m ∷ [])
none_then to before m none other = sent_append to before (m ∷ []) ∙ (λ i. none i ++ sent_other to m [] other i)

-- the first to a node, with what stands before it and behind it
pub taken_first : (to : ℕ) (all before rest after : List Stamped) (m : Stamped) → before ++ m ∷ rest ≡ all → HasNone to before → m.to ≡ to → after ≡ before ++ rest → IsTaken to all after (Some m)
taken_first to all before rest after m whole none same is = record { first = first; left = left }
  where
    found : sent_to to all ≡ message_under_key m ∷ sent_to to rest
    found = ap (sent_to to) (sym whole) ∙ sent_append to before (m ∷ rest) ∙ (λ i. none i ++ sent_same to m rest same i)

    first : under_keys (first_of (Some m)) ≡ take 1 (sent_to to all)
    first = sym (ap (take 1) found)

    left : IsLeft to all after
    left other = by (other == to) refl
      where
        by : (b : Bool) → (other == to) ≡ b → sent_to other after ≡ cond b (drop 1 (sent_to to all)) (sent_to other all)
        by true e =
            let k : other ≡ to = eqb-true other to e in
            ap (sent_to other) is ∙ ap (λ (n : ℕ). sent_to n (before ++ rest)) k ∙ sent_append to before rest ∙ (λ i. none i ++ sent_to to rest) ∙ sym (ap (drop 1) found)
        by false e =
            let n : m.to ≢ other = λ is_it. cc (e, eq-eqb other to (sym is_it ∙ same)) in
            ap (sent_to other) is ∙ sent_append other before rest ∙ (λ i. sent_to other before ++ sym (sent_other other m rest n) i) ∙ sym (sent_append other before (m ∷ rest)) ∙ ap (sent_to other) whole

pub taken_none : (to : ℕ) (all after : List Stamped) → HasNone to all → after ≡ all → IsTaken to all after None
taken_none to all after none is = record { first = sym (ap (take 1) none); left = left }
  where
    left : IsLeft to all after
    left other = by (other == to) refl
      where
        by : (b : Bool) → (other == to) ≡ b → sent_to other after ≡ cond b (drop 1 (sent_to to all)) (sent_to other all)
        by true e = ap (sent_to other) is ∙ ap (λ (n : ℕ). sent_to n all) (eqb-true other to e) ∙ none ∙ sym (ap (drop 1) none)
        by false e = ap (sent_to other) is
