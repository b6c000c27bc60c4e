-- The exchange: messages that no station has yet are given to the stations that they name.
use Rattle.std.proofs.Common.{◌≡◌, ◌≢◌, ℕ, zero, suc, ◌+◌, ◌<◌, ◌≤◌, ◌⊎◌, List, [], ◌∷◌, ◌++◌, length, map, Bool, true, false, cond, Option, Some, None, refl, ap, sym, ◌∙◌, subst, inl, inr, arith}
use Rattle.std.specs.Prelude.{⊤}
use Rattle.std.specs.Ordering.{eq_by_cmp}
use Rattle.std.specs.FinMap.{get, insert, get-insert}
use Rattle.wt_params.specs.declared.parts.MachineParts.{MachineParts}
use Rattle.wt_proto.specs.declared.key.Key.{Key}
use Rattle.wt_proto.specs.declared.message.Msg.{Msg}
use Rattle.wt_proto.specs.declared.message.Stamped.{Stamped}
use Rattle.wt_proto.specs.KeyOrder.{key_cmp}
use Rattle.wt_proto.specs.Messages.{StampedFits, key_of}
use Rattle.wt_proto.proofs.KeyLaws.{key_cmp_total}
use Rattle.discrete_events.specs.Serial.{placed}
use Rattle.discrete_events.specs.Laws.{IsIn, IsNumbered}
use Rattle.discrete_events.proofs.Lists.{or_else, in_append}
use Rattle.discrete_events.proofs.Keys.{is_key, isnt_key}
use Rattle.discrete_events.proofs.Queues.{Queue, same_queue, first_of, get_together}
use Rattle.node.specs.React.{message_under_key, wind_tunnel}
use Rattle.quantum.specs.Stations.{StationModel, accept_of, machine_of}
use Rattle.engine.specs.Engine.{nodes_of, all_pending}
use Rattle.engine.specs.Quantum.{changed_at, delivered, MayAcceptAt, MayDeliver}
use Rattle.engine.proofs.Places.{in_changed, nodes_changed, place_below}

abbrev pub queues : List StationModel → List (Queue Msg)
queues stations = map (λ station. station.pending) stations

pub neither : {A : Type 0} (a b : Option A) → or_else a b ≡ None → (a ≡ None) × (b ≡ None)
neither None b e = (refl, e)
neither (Some x) b e = cc

-- one message more at a place is one more of all
first_changed : (place : ℕ) (letter : Stamped) (xs : List StationModel) (q : Key) → place < length xs → first_of (key_of letter) (queues xs) ≡ None →
    first_of q (queues (changed_at place (accept_of letter) xs)) ≡ cond (eq_by_cmp key_cmp q (key_of letter)) (Some letter.msg) (first_of q (queues xs))
first_changed place letter [] q h none = absurd (omega arith)
first_changed zero letter (x ∷ xs) q h none =
    ap (λ (a : Option Msg). or_else a (first_of q (queues xs))) (get-insert key_cmp_total x.pending (key_of letter) letter.msg q) ∙ moved (eq_by_cmp key_cmp q (key_of letter))
  where
    moved : (b : Bool) → or_else (cond b (Some letter.msg) (get x.pending q)) (first_of q (queues xs)) ≡ cond b (Some letter.msg) (or_else (get x.pending q) (first_of q (queues xs)))
    moved true = refl
    moved false = refl
first_changed (suc n) letter (x ∷ xs) q h none =
    ap (or_else (get x.pending q)) (first_changed n letter xs q (omega arith) (neither (get x.pending (key_of letter)) _ none).1) ∙ by (eq_by_cmp key_cmp q (key_of letter)) refl
  where
    by : (b : Bool) → eq_by_cmp key_cmp q (key_of letter) ≡ b → or_else (get x.pending q) (cond b (Some letter.msg) (first_of q (queues xs))) ≡ cond b (Some letter.msg) (or_else (get x.pending q) (first_of q (queues xs)))
    by true is = ap (λ (a : Option Msg). or_else a (Some letter.msg)) (ap (get x.pending) (is_key q (key_of letter) is) ∙ (neither (get x.pending (key_of letter)) _ none).0)
    by false is = refl

pub pending_changed : (place : ℕ) (letter : Stamped) (xs : List StationModel) → place < length xs → get (all_pending xs) (key_of letter) ≡ None → all_pending (changed_at place (accept_of letter) xs) ≡ insert (all_pending xs) (key_of letter) letter.msg
pending_changed place letter xs h none = same_queue _ _ (λ q.
    get_together (queues (changed_at place (accept_of letter) xs)) q
    ∙ first_changed place letter xs q h (sym (get_together (queues xs) (key_of letter)) ∙ none)
    ∙ ap (cond (eq_by_cmp key_cmp q (key_of letter)) (Some letter.msg)) (sym (get_together (queues xs) q))
    ∙ sym (get-insert key_cmp_total (all_pending xs) (key_of letter) letter.msg q))

-- ---- messages with new keys

-- no two of some messages have the same key
abbrev pub AreApart : List Stamped → Type 0
AreApart [] = ⊤
AreApart (message ∷ messages) = ((other : Stamped) → IsIn other messages → key_of other ≢ key_of message) × AreApart messages

pub apart_append : (xs ys : List Stamped) → AreApart xs → AreApart ys → ((x y : Stamped) → IsIn x xs → IsIn y ys → key_of y ≢ key_of x) → AreApart (xs ++ ys)
apart_append [] ys one other apart = other
apart_append (x ∷ xs) ys one other apart = (
  λ y is. either y (in_append y xs ys is),
  apart_append xs ys one.1 other (λ a b h k. apart a b (inr h) k),
)
  where
    either : (y : Stamped) → IsIn y xs ⊎ IsIn y ys → key_of y ≢ key_of x
    either y (inl h) = one.0 y h
    either y (inr h) = apart x y (inl refl) h

-- none of them has a key that is taken
abbrev pub AreNew : Queue Msg → List Stamped → Type 0
AreNew pending [] = ⊤
AreNew pending (message ∷ messages) = (get pending (key_of message) ≡ None) × AreNew (insert pending (key_of message) message.msg) messages

pub new_of_apart : (messages : List Stamped) (pending : Queue Msg) → AreApart messages → ((message : Stamped) → IsIn message messages → get pending (key_of message) ≡ None) → AreNew pending messages
new_of_apart [] pending apart none = tt
new_of_apart (m ∷ ms) pending apart none = (
  none m (inl refl),
  new_of_apart ms (insert pending (key_of m) m.msg) apart.1 (λ n is.
      get-insert key_cmp_total pending (key_of m) m.msg (key_of n)
      ∙ ap (λ (b : Bool). cond b (Some m.msg) (get pending (key_of n))) (isnt_key (key_of n) (key_of m) (apart.0 n is))
      ∙ none n (inr is)),
)

-- ---- the exchange

module _ (machine : MachineParts) (until : ℕ) where
  -- what a message between nodes keeps, and a station that has run
  pub record IsLetter (letter : Stamped) : Type 0 where
    pub fits : StampedFits machine letter
    pub away : letter.from ≢ letter.to
    pub late : until ≤ letter.time

  pub record HasRun (station : StationModel) : Type 0 where
    pub machine_is : machine_of station ≡ machine
    pub ran : station.until ≡ until

  abbrev pub AllRan : List StationModel → Type 0
  AllRan stations = (station : StationModel) → IsIn station stations → HasRun station

  at_place : (place from : ℕ) (letter : Stamped) (xs : List StationModel) → AllRan xs → IsNumbered (wind_tunnel machine) from (nodes_of xs) → letter.to ≡ from + place → letter.to < machine.nodes → IsLetter letter → first_of (key_of letter) (queues xs) ≡ None → MayAcceptAt place letter xs
  at_place place from letter [] ran numbered to below is none = absurd (omega (arith, numbered))
  at_place zero from letter (x ∷ xs) ran numbered to below is none = record {
    fits = subst (λ m. StampedFits m letter) (sym (ran x (inl refl)).machine_is) is.fits;
    to = to_it;
    away = λ e. is.away (e ∙ sym to_it);
    late = let r = (ran x (inl refl)).ran in let l = is.late in omega arith;
    new = (neither (get x.pending (key_of letter)) _ none).0;
  }
    where
      to_it : letter.to ≡ x.node.state.number
      to_it = let n = numbered.0 in omega arith
  at_place (suc n) from letter (x ∷ xs) ran numbered to below is none =
      at_place n (suc from) letter xs (λ s h. ran s (inr h)) numbered.1 (omega arith) below is (neither (get x.pending (key_of letter)) _ none).1

  changed_ran : (place : ℕ) (letter : Stamped) (xs : List StationModel) → AllRan xs → AllRan (changed_at place (accept_of letter) xs)
  changed_ran place letter xs ran s is = by (in_changed place (accept_of letter) xs s is)
    where
      by : (y : StationModel) × IsIn y xs × ((s ≡ y) ⊎ (s ≡ accept_of letter y)) → HasRun s
      by (y, member, inl e) = subst HasRun (sym e) (ran y member)
      by (y, member, inr e) = subst HasRun (sym e) (record { machine_is = (ran y member).machine_is; ran = (ran y member).ran })

  -- Messages of the machine that are new may be delivered, and are then pending.
  pub record IsExchange (letters : List Stamped) (xs : List StationModel) : Type 0 where
    pub may : MayDeliver letters xs
    pub pending : all_pending (delivered letters xs) ≡ placed (all_pending xs) (map message_under_key letters)
    pub nodes : nodes_of (delivered letters xs) ≡ nodes_of xs
    pub ran : AllRan (delivered letters xs)

  accepts : (letter : Stamped) (xs : List StationModel) → AllRan xs → IsNumbered (wind_tunnel machine) 0 (nodes_of xs) → IsLetter letter → get (all_pending xs) (key_of letter) ≡ None → MayAcceptAt letter.to letter xs
  accepts letter xs ran numbered is none = at_place letter.to 0 letter xs ran numbered (omega arith) is.fits.to is (sym (get_together (queues xs) (key_of letter)) ∙ none)

  accepted : (letter : Stamped) (xs : List StationModel) → MayAcceptAt letter.to letter xs → get (all_pending xs) (key_of letter) ≡ None → all_pending (changed_at letter.to (accept_of letter) xs) ≡ insert (all_pending xs) (key_of letter) letter.msg
  accepted letter xs may none = pending_changed letter.to letter xs (place_below letter.to letter xs may) none

  one_more : (letter : Stamped) (letters : List Stamped) (xs : List StationModel) → MayAcceptAt letter.to letter xs → get (all_pending xs) (key_of letter) ≡ None → IsExchange letters (changed_at letter.to (accept_of letter) xs) → IsExchange (letter ∷ letters) xs
  one_more letter letters xs may none rest = record {
    may = (may, rest.may);
    pending = rest.pending ∙ ap (λ queue. placed queue (map message_under_key letters)) (accepted letter xs may none);
    nodes = rest.nodes ∙ nodes_changed letter.to letter xs;
    ran = rest.ran;
  }

  pub exchange : (letters : List Stamped) (xs : List StationModel) → AllRan xs → IsNumbered (wind_tunnel machine) 0 (nodes_of xs) → ((letter : Stamped) → IsIn letter letters → IsLetter letter) → AreNew (all_pending xs) letters → IsExchange letters xs
  exchange [] xs ran numbered are new = record { may = tt; pending = refl; nodes = refl; ran = ran }
  exchange (letter ∷ letters) xs ran numbered are new =
      let may = accepts letter xs ran numbered (are letter (inl refl)) new.0 in
      one_more letter letters xs may new.0
      (exchange letters (changed_at letter.to (accept_of letter) xs) (changed_ran letter.to letter xs ran)
      (subst (IsNumbered (wind_tunnel machine) 0) (sym (nodes_changed letter.to letter xs)) numbered)
      (λ l h. are l (inr h)) (subst (λ queue. AreNew queue letters) (sym (accepted letter xs may new.0)) new.1))
