-- Messages that are added at the end of a list, and taken out of it.
use Rattle.std.proofs.Common.{◌≡◌, ℕ, zero, suc, ◌+◌, ◌<◌, ◌≤◌, ◌==◌, Bool, true, false, List, [], ◌∷◌, ◌++◌, length, take, drop, Some, None, add-one, eqb-true, refl, ap, sym, ◌∙◌, subst, arith}
use Rattle.std.specs.Prelude.{slice_get}
use Rattle.std.specs.List.{remove}
use Rattle.std.proofs.lemmas.List.{drop-append-le, drop_all, drop_at, length-append, length-drop, length-take-le, take-append-le, take_all, take_at}
use Rattle.wt_proto.specs.declared.message.Stamped.{Stamped}
use Rattle.wt_proto.specs.Messages.{key_of}
use Rattle.event_queue.specs.Rising.{IsRising, HasNoKey, insert_of}
use Rattle.node.specs.React.{react}
use Rattle.quantum.specs.declared.site.Site.{Site}
use Rattle.quantum.specs.declared.site.Turn.{Turn}
use Rattle.quantum.specs.FreeRuns.{AddsOuts, IsFree, IsHandedOut}
use Rattle.quantum.specs.Sites.{Handles, HandsOut, others_of}
use Rattle.quantum.specs.Stations.{StationModel}
use Rattle.quantum.proofs.HandOut.{IsHandingOut, at_last, handed_other, handed_own, is_new}

-- ---- an item by its place

module _ {A : Type 0} where
  pub there : (xs : List A) (i : ℕ) (x : A) → slice_get xs i ≡ Some x → i < length xs
  there [] i x is = absurd (let e : None ≡ Some x = is in cc)
  there (first ∷ rest) zero x is = omega arith
  there (first ∷ rest) (suc i) x is = let l = there rest i x is in omega arith

  drop_here : (xs : List A) (i : ℕ) (x : A) → slice_get xs i ≡ Some x → drop i xs ≡ x ∷ drop (suc i) xs
  drop_here [] i x is = absurd (let e : None ≡ Some x = is in cc)
  drop_here (first ∷ rest) zero x is = ap (λ y. y ∷ rest) (let e : Some first ≡ Some x = is in cc)
  drop_here (first ∷ rest) (suc i) x is = drop_here rest i x is

  take_here : (xs : List A) (i : ℕ) (x : A) → slice_get xs i ≡ Some x → take (suc i) xs ≡ take i xs ++ x ∷ []
  take_here [] i x is = absurd (let e : None ≡ Some x = is in cc)
  take_here (first ∷ rest) zero x is = ap (λ y. y ∷ []) (let e : Some first ≡ Some x = is in cc)
  take_here (first ∷ rest) (suc i) x is = ap (λ ys. first ∷ ys) (take_here rest i x is)

  pub drop_first : (xs : List A) (i : ℕ) (x : A) → slice_get xs i ≡ Some x → drop i xs ≡ x ∷ drop (i + 1) xs
  drop_first xs i x is = drop_here xs i x is ∙ ap (λ n. x ∷ drop n xs) (sym (add-one i))

  pub take_next : (xs : List A) (i : ℕ) (x : A) → slice_get xs i ≡ Some x → take (i + 1) xs ≡ take i xs ++ x ∷ []
  take_next xs i x is = ap (λ n. take n xs) (add-one i) ∙ take_here xs i x is

  pub past_end : (xs : List A) (i : ℕ) → slice_get xs i ≡ None → length xs ≤ i
  past_end [] i is = omega arith
  past_end (first ∷ rest) zero is = absurd (let e : Some first ≡ None = is in cc)
  past_end (first ∷ rest) (suc i) is = let l = past_end rest i is in omega arith

  -- without the item at a place
  module _ (xs : List A) (i : ℕ) (within : i < length xs) where
    front : length (take i xs) ≡ i
    front = length-take-le i xs (omega arith)

    pub take_removed : take i (remove xs i) ≡ take i xs
    take_removed = take_at (take i xs) (drop (suc i) xs) i front

    pub drop_removed : drop i (remove xs i) ≡ drop (i + 1) xs
    drop_removed = drop_at (take i xs) (drop (suc i) xs) i front ∙ ap (λ n. drop n xs) (sym (add-one i))

    pub length_removed : length (remove xs i) + 1 ≡ length xs
    length_removed = omega (arith, front, length-append (take i xs) (drop (suc i) xs), length-drop (suc i) xs)

  pub drop_added : (xs more : List A) (n : ℕ) → n ≡ length xs → drop n (xs ++ more) ≡ more
  drop_added xs more n is = drop_at xs more n (sym is)

  pub take_added : (xs more : List A) (n : ℕ) → n ≡ length xs → take n (xs ++ more) ≡ xs
  take_added xs more n is = take_at xs more n (sym is)

-- ---- a turn of a run that adds its messages to a list, of which it was given the first n

module _ (until : ℕ) (before middle after : Site) (turn : Turn) (list_before list_middle list_after : List Stamped) (steps_before steps_middle steps_after from n : ℕ)
    (is_from : from ≡ length list_before) (within : n ≤ length list_before) (handled : Handles until before middle turn list_before list_middle steps_before steps_middle) where
  -- the event, by its own messages
  pub handled_alone : Handles until before middle turn [] (drop from list_middle) steps_before steps_middle
  handled_alone = record {
    key = handled.key;
    event = handled.event;
    least = handled.least;
    node = handled.node;
    pending = handled.pending;
    rising = handled.rising;
    sends = ap (drop from) handled.sends ∙ drop_added list_before (react before.node.machine before.node.state handled.event).1 from is_from;
    steps = handled.steps;
    stays = handled.stays;
    arrives = handled.arrives;
  }

  pub kept_before : take from list_middle ≡ list_before
  kept_before = ap (take from) handled.sends ∙ take_added list_before (react before.node.machine before.node.state handled.event).1 from is_from

  pub from_within : from ≤ length list_middle
  from_within = let l = length-append list_before (react before.node.machine before.node.state handled.event).1 in let s = ap length handled.sends in omega (arith, l, s)

  module _ (handed : HandsOut middle after (drop from list_middle) (take from list_middle) list_after steps_middle steps_after) where
    abbrev others : List Stamped
    others = others_of middle.node.state.number (drop from list_middle)

    added : list_after ≡ list_before ++ others
    added = handed.outs ∙ ap (λ (ms : List Stamped). ms ++ others) kept_before

    -- what it hands out, by the messages of this run
    pub handed_alone : HandsOut middle after (drop from list_middle) (drop n list_before) (drop n list_after) steps_middle steps_after
    handed_alone = record {
      node = handed.node;
      pending = handed.pending;
      rising = handed.rising;
      outs = ap (drop n) added ∙ drop-append-le n list_before others within;
      steps =
          let s = handed.steps in
          let b = ap length kept_before in
          let a = ap length added in
          let l = length-append list_before others in
          omega (arith, s, b, a, l, length-drop n list_before, length-drop n list_after);
    }

    pub still_within : n ≤ length list_after
    still_within = let a = ap length added in let l = length-append list_before others in omega (arith, a, l)

    pub still_kept : take n list_after ≡ take n list_before
    still_kept = ap (take n) added ∙ take-append-le n list_before others within

-- ---- what is added to an empty list

module _ (until : ℕ) (before after : StationModel) (list : List Stamped) (steps_before steps_after : ℕ) (adds : AddsOuts until before after [] list steps_before steps_after) where
  pub all_handed : IsHandedOut until before after list
  all_handed = subst (λ (outs : List Stamped). IsHandedOut until before after outs) (sym adds.added) adds.handed

  pub all_free : IsFree steps_before steps_after before.node.state after.node.state list
  all_free = subst (λ (outs : List Stamped). IsFree steps_before steps_after before.node.state after.node.state outs) (sym adds.added) adds.free

-- ---- handing out the messages of a list, by their places

pub unlike : (a b : ℕ) → (a ≡ b → ⊥) → (a == b) ≡ false
unlike a b other = by (a == b) refl
  where
    by : (v : Bool) → (a == b) ≡ v → v ≡ false
    by true is = absurd (other (eqb-true a b is))
    by false is = refl

module _ (begun now : Site) (number : ℕ) (sends_begun outs_begun list : List Stamped) (place : ℕ) (message : Stamped) (own : Bool) (steps_begun steps : ℕ) (is : slice_get list place ≡ Some message)
    (so_far : IsHandingOut begun now number sends_begun (drop place list) outs_begun (take place list) own steps_begun steps) where
  here : IsHandingOut begun now number sends_begun (message ∷ drop (place + 1) list) outs_begun (take place list) own steps_begun steps
  here = subst (λ (ms : List Stamped). IsHandingOut begun now number sends_begun ms outs_begun (take place list) own steps_begun steps) (drop_first list place message is) so_far

  pub new_at : HasNoKey (key_of message) now.queue
  new_at = is_new begun now now number sends_begun outs_begun (take place list) message (drop (place + 1) list) own steps_begun steps here

  pub own_at : (after : Site) (rest : List Stamped) → rest ≡ remove list place → message.to ≡ number → after.node ≡ now.node → after.queue ≡ insert_of message now.queue → IsRising after.queue →
      IsHandingOut begun after number sends_begun (drop place rest) outs_begun (take place rest) true steps_begun (steps + 1)
  own_at after rest removed to node queue rising =
      let left : drop place rest ≡ drop (place + 1) list = ap (drop place) removed ∙ drop_removed list place (there list place message is) in
      let kept : take place rest ≡ take place list = ap (take place) removed ∙ take_removed list place (there list place message is) in
      subst (λ (ms : List Stamped). IsHandingOut begun after number sends_begun ms outs_begun (take place rest) true steps_begun (steps + 1)) (sym left)
      (subst (λ (ms : List Stamped). IsHandingOut begun after number sends_begun (drop (place + 1) list) outs_begun ms true steps_begun (steps + 1)) (sym kept)
      (handed_own begun now after number sends_begun outs_begun (take place list) message (drop (place + 1) list) own steps_begun steps here to node queue rising))

  pub other_at : (message.to == number) ≡ false → IsHandingOut begun now number sends_begun (drop (place + 1) list) outs_begun (take (place + 1) list) own steps_begun steps
  other_at to =
      subst (λ (ms : List Stamped). IsHandingOut begun now number sends_begun (drop (place + 1) list) outs_begun ms own steps_begun steps) (sym (take_next list place message is))
      (handed_other begun now now number sends_begun outs_begun (take place list) message (drop (place + 1) list) own steps_begun steps here to)

-- past the end of the list all are handed out
pub all_handed_out : (begun now : Site) (number : ℕ) (sends_begun outs_begun list : List Stamped) (place : ℕ) (own : Bool) (steps_begun steps : ℕ) → length list ≤ place →
    IsHandingOut begun now number sends_begun (drop place list) outs_begun (take place list) own steps_begun steps → HandsOut begun now sends_begun outs_begun list steps_begun steps
all_handed_out begun now number sends_begun outs_begun list place own steps_begun steps end so_far =
    at_last begun now number sends_begun outs_begun list own steps_begun steps
    (subst (λ (ms : List Stamped). IsHandingOut begun now number sends_begun [] outs_begun ms own steps_begun steps) (take_all place list end)
    (subst (λ (ms : List Stamped). IsHandingOut begun now number sends_begun ms outs_begun (take place list) own steps_begun steps) (drop_all place list end) so_far))
