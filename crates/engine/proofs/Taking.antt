-- What is taken out of the shared inboxes of a round is a merge for each node, whatever the order in which it was put in.
use Rattle.std.proofs.Common.{◌≡◌, ◌≢◌, ℕ, zero, suc, ◌+◌, ◌<◌, ◌≤◌, ◌⊎◌, ◌==◌, Bool, true, false, cond, List, [], ◌∷◌, ◌++◌, length, get_or, set, drop, map, Some, refl, ap, sym, ◌∙◌, subst, inl, inr, arith, append-nil, append_assoc, eqb-true, eq-eqb}
use Rattle.std.specs.Prelude.{⊤}
use Rattle.std.specs.List.{All, filter}
use Rattle.std.proofs.lemmas.List.{get_or-set_other, get_or-set_same, get_or_default}
use Rattle.std.proofs.lemmas.List.Elements.{filter-append}
use Rattle.wt_params.specs.declared.parts.MachineParts.{MachineParts}
use Rattle.wt_proto.specs.declared.key.Key.{Key}
use Rattle.wt_proto.specs.declared.message.Msg.{Msg}
use Rattle.wt_proto.specs.declared.message.Stamped.{Stamped}
use Rattle.discrete_events.specs.Simulation.{Simulation, Event, Message}
use Rattle.discrete_events.specs.World.{events_in, least}
use Rattle.discrete_events.specs.Core.{Core, part_from, core_of, core_run}
use Rattle.discrete_events.specs.Laws.{IsIn, IsNumbered}
use Rattle.discrete_events.specs.Merges.{IsMerge, round_steps}
use Rattle.discrete_events.proofs.Lists.{in_append, in_map, from_map, from_filter, filter_all, filter_map, filter_none}
use Rattle.discrete_events.proofs.Numbered.{numbered_below}
use Rattle.discrete_events.proofs.Stations.{lt_or_le}
use Rattle.discrete_events.proofs.Peel.{tested}
use Rattle.node.specs.declared.state.NodeState.{NodeState}
use Rattle.node.specs.React.{message_under_key, wind_tunnel}
use Rattle.quantum.specs.FreeRuns.{IsHandedOut}
use Rattle.quantum.specs.Stations.{StationModel, MayAccept, accept_of}
use Rattle.inbox.specs.Passes.{PassModel}
use Rattle.inbox.specs.Views.{HasTakenMerge, IsInOrder, IsWhole, part}
use Rattle.engine.specs.Engine.{EngineModel, IsRunning, nodes_of, world_of}
use Rattle.engine.specs.Quantum.{AreHandedOut, HaveAdvanced, IsGood, MayBeGiven, given, handed_to, ran_to}
use Rattle.engine.specs.Rounds.{ArePassesFrom, IsInterleaved, IsPassOf, taken_for}
use Rattle.engine.specs.Inboxes.{AreSenders, AreToBeTaken, HasTaken, HaveMet, HaveTaken, IsFrom, IsOpened, MayBeTaken, MayMeet, letters_to, posted, with_taken}
use Rattle.engine.proofs.Places.{all_by, in_all}
use Rattle.engine.proofs.Owned.{its}
use Rattle.engine.proofs.Letters.{number_kept, outs_are, until}
use Rattle.engine.proofs.Merges.{is_round, may_be_given, merge_in_order, numbered_length, stations_begin, stations_went, world_is}
use Rattle.engine.proofs.Posting.{all_also, length_posted}

-- ---- a station that is given more

pub given_more : (ls : List Stamped) (l : Stamped) (s : StationModel) → given (ls ++ l ∷ []) s ≡ accept_of l (given ls s)
given_more [] l s = refl
given_more (x ∷ ls) l s = given_more ls l (accept_of x s)

pub may_be_next : (ls : List Stamped) (l : Stamped) (s : StationModel) → MayBeGiven (ls ++ l ∷ []) s → MayAccept (given ls s) l
may_be_next [] l s may = may.0
may_be_next (x ∷ ls) l s may = may_be_next ls l (accept_of x s) may.1

first_may : (ls more : List Stamped) (s : StationModel) → MayBeGiven (ls ++ more) s → MayBeGiven ls s
first_may [] more s may = tt
first_may (x ∷ ls) more s may = (may.0, first_may ls more (accept_of x s) may.1)

-- ---- the part of a source, of messages and under their keys

part_under_keys : (s : ℕ) (ls : List Stamped) → map message_under_key (part s ls) ≡ part_from s (map message_under_key ls)
part_under_keys s ls = sym (filter_map (λ (m : Message Msg). m.0.from == s) message_under_key ls)

in_drop : {A : Type 0} (x : A) (n : ℕ) (xs : List A) → IsIn x (drop n xs) → IsIn x xs
in_drop x zero xs is = is
in_drop x (suc n) [] is = is
in_drop x (suc n) (y ∷ xs) is = inr (in_drop x n xs is)

drop_first : {A : Type 0} (xs ys : List A) → drop (length xs) (xs ++ ys) ≡ ys
drop_first [] ys = refl
drop_first (x ∷ xs) ys = drop_first xs ys

-- What is taken so far is made whole: for each source what is left of it follows.
module _ (count : ℕ) (taken sent : List Stamped) (first : (source : ℕ) → source < count → (rest : List Stamped) × (part source sent ≡ part source taken ++ rest)) where
  abbrev pub rest_of : ℕ → List Stamped
  rest_of source = drop (length (part source taken)) (part source sent)

  parts : (source : ℕ) → source < count → part source taken ++ rest_of source ≡ part source sent
  parts source h =
      let f = first source h in
      ap (λ ls. part source taken ++ ls) (ap (drop (length (part source taken))) f.1 ∙ drop_first (part source taken) f.0) ∙ sym f.1

  from_source : (source : ℕ) (l : Stamped) → IsIn l (rest_of source) → l.from ≡ source
  from_source source l member =
      eqb-true l.from source (from_filter (λ (m : Stamped). m.from == source) l sent (in_drop l (length (part source taken)) (part source sent) member)).1

  rest_alone : (source : ℕ) → part source (rest_of source) ≡ rest_of source
  rest_alone source = filter_all (λ (l : Stamped). l.from == source) (rest_of source) (λ l member. eq-eqb l.from source (from_source source l member))

  rest_apart : (source other : ℕ) → source ≢ other → part source (rest_of other) ≡ []
  rest_apart source other apart = filter_none (λ (l : Stamped). l.from == source) (rest_of other) (λ l member. tested l.from source (λ e. apart (sym e ∙ from_source other l member)))

  -- what is left of the sources below a number
  abbrev pub rests : ℕ → List Stamped
  rests zero = []
  rests (suc n) = rests n ++ rest_of n

  rests_from : (n : ℕ) (l : Stamped) → IsIn l (rests n) → l.from < n
  rests_from zero l is = absurd is
  rests_from (suc n) l is = by (rests_from n l) (in_append l (rests n) (rest_of n) is)
    where
      by : (IsIn l (rests n) → l.from < n) → IsIn l (rests n) ⊎ IsIn l (rest_of n) → l.from < suc n
      by before (inl one) = let r = before one in omega arith
      by before (inr other) = let r = from_source n l other in omega arith

  none_yet : (source n : ℕ) → n ≤ source → part source (rests n) ≡ []
  none_yet source n high = filter_none (λ (l : Stamped). l.from == source) (rests n) (λ l member. tested l.from source (λ e. let r = rests_from n l member in absurd (omega arith)))

  part_of_rests : (source n : ℕ) → source < n → part source (rests n) ≡ rest_of source
  part_of_rests source zero low = absurd (omega arith)
  part_of_rests source (suc n) low = filter-append (λ (l : Stamped). l.from == source) (rests n) (rest_of n) ∙ by (part_of_rests source n) (lt_or_le source n)
    where
      by : (source < n → part source (rests n) ≡ rest_of source) → (source < n) ⊎ (n ≤ source) → part source (rests n) ++ part source (rest_of n) ≡ rest_of source
      by before (inl less) =
          (λ i. before less i ++ rest_apart source n (λ e. absurd (let l = less in omega arith)) i)
          ∙ append-nil (rest_of source)
      by before (inr more) =
          let same : n ≡ source = omega arith in
          (λ i. none_yet source n more i ++ part source (rest_of (same i)))
          ∙ rest_alone source

  abbrev pub completed : List Stamped
  completed = taken ++ rests count

  pub completed_parts : (source : ℕ) → source < count → part source completed ≡ part source sent
  completed_parts source h =
      filter-append (λ (l : Stamped). l.from == source) taken (rests count)
      ∙ ap (λ ls. part source taken ++ ls) (part_of_rests source count h)
      ∙ parts source h

  pub completed_sources : ((l : Stamped) → IsIn l taken → l.from < count) → (l : Stamped) → IsIn l completed → l.from < count
  completed_sources below l is = by (in_append l taken (rests count) is)
    where
      by : IsIn l taken ⊎ IsIn l (rests count) → l.from < count
      by (inl one) = below l one
      by (inr other) = rests_from count l other

-- ---- passes after a round, place by place

abbrev keyed : List Stamped → List (Message Msg)
keyed ls = map message_under_key ls

-- a pass of all sources by which the messages to a node were put in
record HasPosted (count node : ℕ) (letters : List Stamped) (pass : PassModel) : Type 0 where
  pub lo : pass.view.lo ≡ 0
  pub hi : pass.view.hi ≡ count
  pub sources : pass.view.sources ≡ count
  pub takes : pass.view.takes ≡ true
  pub none : pass.view.taken ≡ []
  pub sent : pass.view.sent ≡ letters_to node letters

posted_at : (count n k : ℕ) (letters : List Stamped) (ps : List PassModel) (d : PassModel) → All (IsOpened count) ps → k < length ps → HasPosted count (n + k) letters (get_or (posted n letters ps) k d)
posted_at count n k letters [] d all h = absurd (omega arith)
posted_at count n zero letters (p ∷ ps) d all h =
    let o = all 0 d (omega arith) in
    record { lo = o.fresh.lo_is; hi = o.fresh.hi_is; sources = o.sources; takes = o.takes; none = o.taken; sent = (λ i. o.fresh.sent i ++ letters_to (zero_more n i) letters) }
  where
    zero_more : (m : ℕ) → m ≡ m + 0
    zero_more m = omega arith
posted_at count n (suc k) letters (p ∷ ps) d all h =
    subst (λ m. HasPosted count m letters (get_or (posted (suc n) letters ps) k d)) (omega arith) (posted_at count (suc n) k letters ps d (λ j e i. all (suc j) e (omega arith)) (omega arith))

get_mapped : {A B : Type 0} (f : A → B) (k : ℕ) (xs : List A) (d : A) (e : B) → k < length xs → get_or (map f xs) k e ≡ f (get_or xs k d)
get_mapped f k [] d e h = absurd (omega arith)
get_mapped f zero (x ∷ xs) d e h = refl
get_mapped f (suc k) (x ∷ xs) d e h = get_mapped f k xs d e (omega arith)

get_member : {A : Type 0} (k : ℕ) (xs : List A) (d : A) → k < length xs → IsIn (get_or xs k d) xs
get_member k [] d h = absurd (omega arith)
get_member zero (x ∷ xs) d h = inl refl
get_member (suc k) (x ∷ xs) d h = inr (get_member k xs d (omega arith))

length_mapped : {A B : Type 0} (f : A → B) (xs : List A) → length (map f xs) ≡ length xs
length_mapped f [] = refl
length_mapped f (x ∷ xs) = ap suc (length_mapped f xs)

number_at : (machine : MachineParts) (n k : ℕ) (xs : List StationModel) (d : StationModel) → IsNumbered (wind_tunnel machine) n (nodes_of xs) → k < length xs → (get_or xs k d).node.state.number ≡ n + k
number_at machine n k [] d numbered h = absurd (omega arith)
number_at machine n zero (x ∷ xs) d numbered h = let a = numbered.0 in omega arith
number_at machine n (suc k) (x ∷ xs) d numbered h = let r = number_at machine (suc n) k xs d numbered.1 (omega arith) in omega arith

number_is : (machine : MachineParts) (k : ℕ) (xs : List StationModel) (d : StationModel) → IsNumbered (wind_tunnel machine) 0 (nodes_of xs) → k < length xs → (get_or xs k d).node.state.number ≡ k
number_is machine k xs d numbered h = let r = number_at machine 0 k xs d numbered h in omega arith

-- two lists that agree at each place
alike : (xs ys : List StationModel) → length xs ≡ length ys → ((k : ℕ) (d : StationModel) → k < length ys → get_or xs k d ≡ get_or ys k d) → xs ≡ ys
alike [] [] same each = refl
alike [] (y ∷ ys) same each = absurd (omega (arith, same))
alike (x ∷ xs) [] same each = absurd (omega (arith, same))
alike (x ∷ xs) (y ∷ ys) same each = λ i. each 0 x (omega arith) i ∷ alike xs ys (omega arith) (λ k d h. each (suc k) d (omega arith)) i

taken_at : (k : ℕ) (ps : List PassModel) (d : PassModel) → k < length ps → taken_for ps k ≡ (get_or ps k d).view.taken
taken_at k [] d h = absurd (omega arith)
taken_at zero (p ∷ ps) d h = refl
taken_at (suc k) (p ∷ ps) d h = taken_at k ps d (omega arith)

module _ (engine : EngineModel) (running : IsRunning engine) (key : Key) (event : Event Msg) (is : least (events_in (wind_tunnel engine.machine) (world_of engine)) ≡ Some (key, event)) where
  abbrev sim : Simulation NodeState Msg
  sim = wind_tunnel engine.machine

  abbrev end : ℕ
  end = until engine running key event is

  abbrev stations : List StationModel
  stations = engine.stations

  count_is : length engine.stations ≡ engine.machine.nodes
  count_is = let e = numbered_length engine.machine 0 engine.stations running.world.numbered in omega arith

  -- ---- what a station hands out is its own

  are_senders : (n : ℕ) (xs : List StationModel) → ((s : StationModel) → IsIn s xs → IsIn s engine.stations) → IsNumbered sim n (nodes_of xs) → AreSenders end (length engine.stations) n xs
  are_senders n [] among numbered = tt
  are_senders n (x ∷ xs) among numbered = (
    λ outs handed. all_by (IsFrom n (length engine.stations)) outs (λ l member.
        let sent = outs_are engine running key event is x (among x (inl refl)) outs handed l member in
        let c = count_is in
        record { source = let a = sent.source in let b = numbered.0 in omega arith; there = let f = sent.fits.to in omega arith }),
    are_senders (suc n) xs (λ s h. among s (inr h)) numbered.1,
  )

  module _ (letters : List Stamped) (handed : AreHandedOut end engine.stations letters) where
    -- the merge that makes what was taken for a node whole, and those of the others in order
    module _ (node : ℕ) (there : node < length engine.stations) (full : List Stamped) (sources : (l : Stamped) → IsIn l full → l.from < length engine.stations) (parts_of : (source : ℕ) → source < length engine.stations → part source full ≡ part source (letters_to node letters)) where
      is_merge : IsMerge (length engine.stations) (λ from. handed_to end engine.stations from node) (keyed full)
      is_merge = record {
        sources = λ m member. below m (from_map message_under_key m full member);
        parts = λ from h.
            sym (part_under_keys from full) ∙ ap keyed (parts_of from h) ∙ part_under_keys from (letters_to node letters)
            ∙ (merge_in_order engine running key event is letters handed node there).parts from h;
      }
        where
          below : (m : Message Msg) → (l : Stamped) × IsIn l full × (m ≡ message_under_key l) → m.0.from < length engine.stations
          below m (l, member, e) = subst (λ (k : Message Msg). k.0.from < length engine.stations) (sym e) (sources l member)

      abbrev chosen : ℕ → List Stamped
      chosen to = cond (to == node) full (letters_to to letters)

      all_merges : (to : ℕ) → to < length engine.stations → IsMerge (length engine.stations) (λ from. handed_to end engine.stations from to) (keyed (chosen to))
      all_merges to h = by (to == node) refl
        where
          by : (b : Bool) → (to == node) ≡ b → IsMerge (length engine.stations) (λ from. handed_to end engine.stations from to) (keyed (cond b full (letters_to to letters)))
          by true e = subst (λ n. IsMerge (length engine.stations) (λ from. handed_to end engine.stations from n) (keyed full)) (sym (eqb-true to node e)) is_merge
          by false e = merge_in_order engine running key event is letters handed to h

      full_may : (s : StationModel) → IsIn s engine.stations → s.node.state.number ≡ node → MayBeGiven full (ran_to end s)
      full_may s member e = subst (λ ls. MayBeGiven ls (ran_to end s)) (ap (λ (b : Bool). cond b full (letters_to s.node.state.number letters)) (eq-eqb s.node.state.number node e))
          (may_be_given engine running key event is chosen all_merges s member)

    -- what is taken of a pass may be given
    first_given : (node : ℕ) → node < length engine.stations → (pass : PassModel) → HasPosted (length engine.stations) node letters pass → (s : StationModel) → IsIn s engine.stations → s.node.state.number ≡ node →
        (taken : List Stamped) → IsInOrder (with_taken taken pass).view → MayBeGiven taken (ran_to end s)
    first_given node there pass has s member e taken first =
        first_may taken (rests (length engine.stations) taken (letters_to node letters) first_parts (length engine.stations)) (ran_to end s)
        (full_may node there (completed (length engine.stations) taken (letters_to node letters) first_parts) (completed_sources (length engine.stations) taken (letters_to node letters) first_parts sources) (completed_parts (length engine.stations) taken (letters_to node letters) first_parts) s member e)
      where
        first_parts : (source : ℕ) → source < (length engine.stations) → (rest : List Stamped) × (part source (letters_to node letters) ≡ part source taken ++ rest)
        first_parts source h =
            let f = first.parts source (let lo = has.lo in omega arith, let hi = has.hi in omega arith) in
            (f.0, ap (part source) (sym has.sent) ∙ f.1)

        sources : (l : Stamped) → IsIn l taken → l.from < (length engine.stations)
        sources l is = let r = in_all (λ (m : Stamped). m.from < pass.view.sources) taken first.sources l is in let e = has.sources in omega arith

    module _ (opened : List PassModel) (same : length opened ≡ length engine.stations) (are_opened : All (IsOpened (length engine.stations)) opened) where
      posted_here : (k : ℕ) (d : PassModel) → k < length engine.stations → HasPosted (length engine.stations) k letters (get_or (posted 0 letters opened) k d)
      posted_here k d h = subst (λ n. HasPosted (length engine.stations) n letters (get_or (posted 0 letters opened) k d)) (omega arith) (posted_at (length engine.stations) 0 k letters opened d are_opened (omega arith))

      ran_here : (k : ℕ) (d : StationModel) → k < length engine.stations → get_or (map (ran_to end) engine.stations) k d ≡ ran_to end (get_or engine.stations k d)
      ran_here k d h = get_mapped (ran_to end) k engine.stations d d h

      pub are_to_be_taken : (goods : All IsGood (map (ran_to end) engine.stations)) → AreToBeTaken (posted 0 letters opened) (map (ran_to end) engine.stations)
      are_to_be_taken goods = record {
        count = let a = length_mapped (ran_to end) engine.stations in let b = length_posted 0 letters opened in omega arith;
        each = λ k p s h.
            let b = length_posted 0 letters opened in
            let below : k < length engine.stations = omega arith in
            let has = posted_here k p below in
            record {
              takes = has.takes;
              whole = (has.lo, has.hi ∙ sym has.sources);
              none = has.none;
              good = goods k s (let a = length_mapped (ran_to end) engine.stations in omega arith);
              may = λ taken first. subst (MayBeGiven taken) (sym (ran_here k s below))
                  (first_given k below (get_or (posted 0 letters opened) k p) has (get_or engine.stations k s) (get_member k engine.stations s below)
                  (number_is engine.machine k engine.stations s running.world.numbered below) taken first);
            };
      }

  -- ---- and once it was taken

  module _ (passes : List PassModel) (after : List StationModel) (have : HaveMet end engine.stations after passes) where
    there : (k : ℕ) → k < length engine.stations → k < length (posted 0 have.letters have.opened)
    there k h = let a = length_posted 0 have.letters have.opened in let c = have.count in omega arith

    pass_count : length passes ≡ length engine.stations
    pass_count = let a = length_posted 0 have.letters have.opened in let b = have.taken.passes_count in let c = have.count in omega arith

    after_count : length after ≡ length engine.stations
    after_count = have.taken.count ∙ length_mapped (ran_to end) engine.stations

    taken_here : (k : ℕ) (p : PassModel) (s : StationModel) → k < length engine.stations → HasTaken (get_or (posted 0 have.letters have.opened) k p) (get_or passes k p) (get_or (map (ran_to end) engine.stations) k s) (get_or after k s)
    taken_here k p s h = have.taken.each k p s (there k h)

    posts_here : (k : ℕ) (p : PassModel) → k < length engine.stations → HasPosted (length engine.stations) k have.letters (get_or (posted 0 have.letters have.opened) k p)
    posts_here k p h = posted_here have.letters have.handed_out have.opened have.count have.are_opened k p h

    -- a pass, as a value where none is meant
    any_pass : (ps : List PassModel) → 0 < length ps → PassModel
    any_pass [] h = absurd (omega arith)
    any_pass (p ∷ ps) h = p

    spare_pass : (k : ℕ) → k < length engine.stations → PassModel
    spare_pass k h = any_pass passes (let c = pass_count in omega arith)

    any_station : (xs : List StationModel) → 0 < length xs → StationModel
    any_station [] h = absurd (omega arith)
    any_station (x ∷ xs) h = x

    -- what was put in by each source is what that node sent
    sent_is : (k : ℕ) (p : PassModel) → k < length engine.stations → (get_or passes k p).view.sent ≡ letters_to k have.letters
    sent_is k p h =
        let t = taken_here k p (any_station engine.stations (omega arith)) h in
        ap (λ (q : PassModel). q.view.sent) t.pass ∙ (posts_here k p h).sent

    sources_are : (k : ℕ) (p : PassModel) → k < length engine.stations → (get_or passes k p).view.sources ≡ length engine.stations
    sources_are k p h =
        let t = taken_here k p (any_station engine.stations (omega arith)) h in
        ap (λ (q : PassModel). q.view.sources) t.pass ∙ (posts_here k p h).sources

    part_is : (k : ℕ) (p : PassModel) (h : k < length engine.stations) (from : ℕ) → from < length engine.stations → keyed (part from (get_or passes k p).view.sent) ≡ handed_to end engine.stations from k
    part_is k p h from below =
        ap (λ ls. keyed (part from ls)) (sent_is k p h) ∙ part_under_keys from (letters_to k have.letters)
        ∙ (merge_in_order engine running key event is have.letters have.handed_out k h).parts from below

    merge_here : (k : ℕ) (p : PassModel) → k < length engine.stations → IsMerge (length engine.stations) (λ from. handed_to end engine.stations from k) (keyed (get_or passes k p).view.taken)
    merge_here k p h =
        let t = taken_here k p (any_station engine.stations (omega arith)) h in
        let e = sources_are k p h in
        record {
          sources = λ m member. (let s = t.merge.sources m member in omega arith);
          parts = λ from below. t.merge.parts from (omega arith) ∙ part_is k p h from below;
        }

    merges : (to : ℕ) → to < length engine.stations → IsMerge (length engine.stations) (λ from. handed_to end engine.stations from to) (keyed (taken_for passes to))
    merges to h = subst (λ ls. IsMerge (length engine.stations) (λ from. handed_to end engine.stations from to) (keyed ls))
        (sym (taken_at to passes (spare_pass to h) (let c = pass_count in omega arith))) (merge_here to (spare_pass to h) h)

    pub have_met : HaveAdvanced end engine.stations after
    have_met = record {
      letters = taken_for passes;
      merges = merges;
      delivery = alike after (map its_given engine.stations) (after_count ∙ sym (length_mapped its_given engine.stations)) each;
      good = λ k d h.
          let below : k < length engine.stations = let c = after_count in omega arith in
          (taken_here k (spare_pass k below) d below).good;
    }
      where
        its_given : StationModel → StationModel
        its_given s = given (taken_for passes s.node.state.number) (ran_to end s)

        each : (k : ℕ) (d : StationModel) → k < length (map its_given engine.stations) → get_or after k d ≡ get_or (map its_given engine.stations) k d
        each k d h =
            let below : k < length engine.stations = let c = length_mapped its_given engine.stations in omega arith in
            let p = spare_pass k below in
            let t = taken_here k p d below in
            t.given_it
            ∙ (λ i. given (sym (taken_at k passes p (let c = pass_count in omega arith)) i) (get_mapped (ran_to end) k engine.stations d d below i))
            ∙ ap (λ n. given (taken_for passes n) (ran_to end (get_or engine.stations k d))) (sym (number_is engine.machine k engine.stations d running.world.numbered below))
            ∙ sym (get_mapped its_given k engine.stations d d below)

    abbrev went_to : ℕ → EngineModel
    went_to threaded = record { machine = engine.machine; threaded = threaded; passes = passes; stations = after; kept_end = end; quanta = engine.quanta + 1; broken = false }

    -- The round was one of the interleavings of the core.
    pub interleaved : (threaded : ℕ) → IsInterleaved engine (went_to threaded)
    unfolding have_met
    interleaved threaded = record {
      count = pass_count ∙ count_is;
      passes = from_each 0 passes (λ k d h. subst (λ n. IsPassOf engine (went_to threaded) n (get_or passes k d)) (omega arith) (is_pass k d (let c = pass_count in omega arith)));
      enabled = (is_round engine running key event is (taken_for passes) merges).enabled;
      core = core_is;
      begun = stations_begin engine running key event is;
      ended = stations_went engine running key event is after have_met ∙ ap (λ (c : Core NodeState Msg). c.stations) core_is;
    }
      where
        core_is : core_run sim (round_steps sim (λ node. keyed (taken_for passes node))) (core_of sim (world_of engine)) ≡ core_of sim (world_of (went_to threaded))
        core_is = (is_round engine running key event is (taken_for passes) merges).comes_to ∙ ap (core_of sim) (sym (world_is engine running key event is after have_met))

        is_pass : (k : ℕ) (d : PassModel) → k < length engine.stations → IsPassOf engine (went_to threaded) k (get_or passes k d)
        is_pass k d h =
            let t = taken_here k d (any_station engine.stations (omega arith)) h in
            let has = posts_here k d h in
            let c = count_is in
            record {
              sources = sources_are k d h ∙ c;
              whole = (ap (λ (q : PassModel). q.view.lo) t.pass ∙ has.lo, ap (λ (q : PassModel). q.view.hi) t.pass ∙ has.hi ∙ sym (sources_are k d h));
              takes = ap (λ (q : PassModel). q.view.takes) t.pass ∙ has.takes;
              sent = λ source below. part_is k d h source (omega arith);
              taken = subst (λ n. IsMerge n (λ from. handed_to end engine.stations from k) (keyed (get_or passes k d).view.taken)) c (merge_here k d h);
            }

        from_each : (n : ℕ) (ps : List PassModel) → ((k : ℕ) (d : PassModel) → k < length ps → IsPassOf engine (went_to threaded) (n + k) (get_or ps k d)) → ArePassesFrom engine (went_to threaded) n ps
        from_each n [] each = tt
        from_each n (p ∷ ps) each = (
          subst (λ m. IsPassOf engine (went_to threaded) m p) (omega arith) (each 0 p (omega arith)),
          from_each (suc n) ps (λ k d h. subst (λ m. IsPassOf engine (went_to threaded) m (get_or ps k d)) (omega arith) (each (suc k) d (omega arith))),
        )

  pub may_meet : MayMeet end engine.stations
  may_meet = record {
    senders = are_senders 0 engine.stations (λ s h. h) running.world.numbered;
    taken = λ letters opened handed goods same are. are_to_be_taken letters handed opened same are goods;
  }

-- ---- the loop over the inboxes

pub one_more_taken : (i : ℕ) (ps qs : List PassModel) (ss ts : List StationModel) (d x : PassModel) (e y : StationModel) → length qs ≡ length ps → length ts ≡ length ss → length ss ≡ length ps → i < length ps →
    ((k : ℕ) (p : PassModel) (s : StationModel) → k < i → HasTaken (get_or ps k p) (get_or qs k p) (get_or ss k s) (get_or ts k s)) →
    ((k : ℕ) (p : PassModel) (s : StationModel) → i ≤ k → (get_or qs k p ≡ get_or ps k p) × (get_or ts k s ≡ get_or ss k s)) →
    HasTaken (get_or qs i d) x (get_or ts i e) y →
    (k : ℕ) (p : PassModel) (s : StationModel) → k < suc i → HasTaken (get_or ps k p) (get_or (set qs i x) k p) (get_or ss k s) (get_or (set ts i y) k s)
one_more_taken i ps qs ss ts d x e y a b c h done left has k p s below = by (lt_or_le k i)
  where
    by : (k < i) ⊎ (i ≤ k) → HasTaken (get_or ps k p) (get_or (set qs i x) k p) (get_or ss k s) (get_or (set ts i y) k s)
    by (inl less) = subst (λ (q : PassModel). HasTaken (get_or ps k p) q (get_or ss k s) (get_or (set ts i y) k s)) (sym (get_or-set_other qs i k x p (λ same. absurd (let l = less in omega arith))))
        (subst (λ (t : StationModel). HasTaken (get_or ps k p) (get_or qs k p) (get_or ss k s) t) (sym (get_or-set_other ts i k y s (λ same. absurd (let l = less in omega arith)))) (done k p s less))
    by (inr more) =
        let same : i ≡ k = omega arith in
        subst (λ (n : ℕ). HasTaken (get_or ps n p) (get_or (set qs i x) n p) (get_or ss n s) (get_or (set ts i y) n s)) same
        (subst (λ (q : PassModel). HasTaken (get_or ps i p) q (get_or ss i s) (get_or (set ts i y) i s)) (sym (get_or-set_same qs i x p (omega arith)))
        (subst (λ (t : StationModel). HasTaken (get_or ps i p) x (get_or ss i s) t) (sym (get_or-set_same ts i y s (omega arith)))
        (subst (λ (o : PassModel). HasTaken o x (get_or ss i s) y) (get_or_default qs i d p (omega arith) ∙ (left i p s (omega arith)).0)
        (subst (λ (o : StationModel). HasTaken (get_or qs i d) x o y) (get_or_default ts i e s (omega arith) ∙ (left i p s (omega arith)).1) has))))

pub others_left : (i : ℕ) (ps qs : List PassModel) (ss ts : List StationModel) (x : PassModel) (y : StationModel) →
    ((k : ℕ) (p : PassModel) (s : StationModel) → i ≤ k → (get_or qs k p ≡ get_or ps k p) × (get_or ts k s ≡ get_or ss k s)) →
    (k : ℕ) (p : PassModel) (s : StationModel) → suc i ≤ k → (get_or (set qs i x) k p ≡ get_or ps k p) × (get_or (set ts i y) k s ≡ get_or ss k s)
others_left i ps qs ss ts x y left k p s h = (
  get_or-set_other qs i k x p (λ same. absurd (omega arith)) ∙ (left k p s (omega arith)).0,
  get_or-set_other ts i k y s (λ same. absurd (omega arith)) ∙ (left k p s (omega arith)).1,
)
