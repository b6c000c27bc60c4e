-- Lists of passes by which messages are put in, which are cut, and put together again.
use Rattle.std.proofs.Common.{◌≡◌, ◌≢◌, ℕ, zero, suc, ◌+◌, ◌-◌, ◌<◌, ◌≤◌, ◌^◌, ◌==◌, nat_lt, not, ◌||◌, Bool, true, false, cond, List, [], ◌∷◌, ◌++◌, length, get_or, set, take, drop, map, refl, ap, sym, ◌∙◌, subst, arith, append_assoc, append-nil, eq-eqb, Result, Ok, Err, IfOk, OnOk}
use Rattle.std.proofs.Math.Seq.{take-append_seam}
use Rattle.std.specs.List.{All, AllWithin, filter}
use Rattle.std.proofs.lemmas.List.Elements.{All-set, filter-append}
use Rattle.std.proofs.lemmas.List.{length-append, length-drop, length-set, length-take, take-append-drop}
use Rattle.discrete_events.proofs.Peel.{tested}
use Rattle.wt_params.specs.declared.memory.NoMemory.{NoMemory}
use Rattle.wt_proto.specs.declared.message.Stamped.{Stamped}
use Rattle.quantum.specs.FreeRuns.{IsHandedOut, run_to_of}
use Rattle.quantum.specs.Stations.{StationModel, IsLive, IsUnbroken, machine_of, station_of}
use Rattle.inbox.specs.Passes.{InboxModel, PassModel}
use Rattle.inbox.specs.Views.{HasSource}
use Rattle.engine.specs.Quantum.{AreHandedOut, HaveRun, IsGood, ran_to}
use Rattle.engine.specs.Inboxes.{AreLent, ArePassesOf, AreSenders, CanPost, HavePosted, IsFresh, IsFrom, MayBePosted, MayPost, all_united, both_parts, letters_to, lower_part, posted, upper_part, with_sent}
use Rattle.engine.proofs.Halves.{both_have_run}
use Rattle.engine.proofs.Runs.{ran_is, unmapped_at}

-- ---- messages to a node

letters_here : (n : ℕ) (l : Stamped) (ls : List Stamped) → l.to ≡ n → letters_to n (l ∷ ls) ≡ l ∷ letters_to n ls
letters_here n l ls e = ap (λ (b : Bool). cond b (l ∷ letters_to n ls) (letters_to n ls)) (eq-eqb l.to n e)

letters_other : (n : ℕ) (l : Stamped) (ls : List Stamped) → l.to ≢ n → letters_to n (l ∷ ls) ≡ letters_to n ls
letters_other n l ls e = ap (λ (b : Bool). cond b (l ∷ letters_to n ls) (letters_to n ls)) (tested l.to n e)

letters_both : (n : ℕ) (ones more : List Stamped) → letters_to n (ones ++ more) ≡ letters_to n ones ++ letters_to n more
letters_both n ones more = filter-append (λ (l : Stamped). l.to == n) ones more

-- ---- passes by which they were put in

pub length_posted : (n : ℕ) (ls : List Stamped) (ps : List PassModel) → length (posted n ls ps) ≡ length ps
length_posted n ls [] = refl
length_posted n ls (p ∷ ps) = ap suc (length_posted (suc n) ls ps)

pub of_posted : (n : ℕ) (ls : List Stamped) (ps : List PassModel) → map (λ (p : PassModel). p.of) (posted n ls ps) ≡ map (λ (p : PassModel). p.of) ps
of_posted n ls [] = refl
of_posted n ls (p ∷ ps) = ap (λ (os : List InboxModel). p.of ∷ os) (of_posted (suc n) ls ps)

pub posted_none : (n : ℕ) (ps : List PassModel) → posted n [] ps ≡ ps
posted_none n [] = refl
posted_none n (p ∷ ps) = λ i. with_sent (append-nil p.view.sent i) p ∷ posted_none (suc n) ps i

pub posted_both : (n : ℕ) (ones more : List Stamped) (ps : List PassModel) → posted n more (posted n ones ps) ≡ posted n (ones ++ more) ps
posted_both n ones more [] = refl
posted_both n ones more (p ∷ ps) =
    λ i. with_sent ((append_assoc p.view.sent (letters_to n ones) (letters_to n more) ∙ ap (λ ls. p.view.sent ++ ls) (sym (letters_both n ones more))) i) p ∷ posted_both (suc n) ones more ps i

posted_other : (n : ℕ) (l : Stamped) (ls : List Stamped) (ps : List PassModel) → l.to < n → posted n (l ∷ ls) ps ≡ posted n ls ps
posted_other n l ls [] h = refl
posted_other n l ls (p ∷ ps) h = λ i. with_sent (p.view.sent ++ letters_other n l ls (omega arith) i) p ∷ posted_other (suc n) l ls ps (omega arith) i

-- a pass by which one message more was put in
abbrev pub with_one : Stamped → PassModel → PassModel
with_one l p = with_sent (p.view.sent ++ l ∷ []) p

pub posted_one : (n k : ℕ) (l : Stamped) (ls : List Stamped) (ps : List PassModel) (d : PassModel) → l.to ≡ n + k → k < length ps → posted n (l ∷ ls) ps ≡ posted n ls (set ps k (with_one l (get_or ps k d)))
posted_one n k l ls [] d e h = absurd (omega arith)
posted_one n zero l ls (p ∷ ps) d e h =
    λ i. with_sent ((ap (λ ms. p.view.sent ++ ms) (letters_here n l ls (omega arith)) ∙ sym (append_assoc p.view.sent (l ∷ []) (letters_to n ls))) i) p ∷ posted_other (suc n) l ls ps (omega arith) i
posted_one n (suc k) l ls (p ∷ ps) d e h =
    λ i. with_sent (p.view.sent ++ letters_other n l ls (omega arith) i) p ∷ posted_one (suc n) k l ls ps d (omega arith) (omega arith) i

-- what each pass has, each has still
pub all_posted : (P : PassModel → Type 0) → ((p : PassModel) (ls : List Stamped) → P p → P (with_sent ls p)) → (n : ℕ) (ls : List Stamped) (ps : List PassModel) → All P ps → All P (posted n ls ps)
all_posted P keeps n ls [] all k d h = absurd (omega arith)
all_posted P keeps n ls (p ∷ ps) all zero d h = keeps p (p.view.sent ++ letters_to n ls) (all 0 d (omega arith))
all_posted P keeps n ls (p ∷ ps) all (suc k) d h = all_posted P keeps (suc n) ls ps (λ j e i. all (suc j) e (omega arith)) k d (omega arith)

pub all_mapped : (P Q : PassModel → Type 0) (f : PassModel → PassModel) → ((p : PassModel) → P p → Q (f p)) → (ps : List PassModel) → All P ps → All Q (map f ps)
all_mapped P Q f each [] all k d h = absurd (omega arith)
all_mapped P Q f each (p ∷ ps) all zero d h = each p (all 0 d (omega arith))
all_mapped P Q f each (p ∷ ps) all (suc k) d h = all_mapped P Q f each ps (λ j e i. all (suc j) e (omega arith)) k d (omega arith)

pub all_also : {A : Type 0} (P Q : A → Type 0) → ((x : A) → P x → Q x) → (xs : List A) → All P xs → All Q xs
all_also P Q each xs all k d h = each _ (all k d h)

pub length_mapped : (f : PassModel → PassModel) (ps : List PassModel) → length (map f ps) ≡ length ps
length_mapped f [] = refl
length_mapped f (p ∷ ps) = ap suc (length_mapped f ps)

of_mapped : (f : PassModel → PassModel) → ((p : PassModel) → (f p).of ≡ p.of) → (ps : List PassModel) → map (λ (p : PassModel). p.of) (map f ps) ≡ map (λ (p : PassModel). p.of) ps
of_mapped f same [] = refl
of_mapped f same (p ∷ ps) = λ i. same p i ∷ of_mapped f same ps i

-- ---- passes that are cut

lower_fresh : (lo hi mid : ℕ) (p : PassModel) → IsFresh lo hi p → IsFresh lo mid (lower_part mid p)
lower_fresh lo hi mid p fresh = record { lo_is = fresh.lo_is; hi_is = refl; sent = ap (filter (λ (l : Stamped). nat_lt l.from mid)) fresh.sent }

upper_fresh : (lo hi mid : ℕ) (p : PassModel) → IsFresh lo hi p → IsFresh mid hi (upper_part mid p)
upper_fresh lo hi mid p fresh = record { lo_is = refl; hi_is = fresh.hi_is; sent = ap (filter (λ (l : Stamped). not (nat_lt l.from mid))) fresh.sent }

senders_cut : (until count n : ℕ) (front back : List StationModel) → AreSenders until count n (front ++ back) → AreSenders until count n front × AreSenders until count (n + length front) back
senders_cut until count n [] back all = (tt, subst (λ m. AreSenders until count m back) (omega arith) all)
senders_cut until count n (s ∷ front) back all =
    let rest = senders_cut until count (suc n) front back all.1 in
    ((all.0, rest.0), subst (λ m. AreSenders until count m back) (omega arith) rest.1)

module _ (until number mid : ℕ) (inboxes : List InboxModel) (passes : List PassModel) (stations front back : List StationModel) (cut : stations ≡ front ++ back) (at : mid ≡ number + length front) (may : MayPost until number inboxes passes stations) where
  whole : length stations ≡ length front + length back
  whole = ap (length {A = StationModel}) cut ∙ length-append front back

  parts : AreSenders until (length passes) number front × AreSenders until (length passes) (number + length front) back
  parts = senders_cut until (length passes) number front back (subst (AreSenders until (length passes) number) cut may.senders)

  ends : number + length stations ≡ mid + length back
  ends = let w = whole in omega arith

  pub front_may : MayPost until number inboxes (map (lower_part mid) passes) front
  front_may = record {
    few = let w = whole in let f = may.few in omega arith;
    count = subst (λ n. n < 2 ^ 32) (sym (length_mapped (lower_part mid) passes)) may.count;
    of = of_mapped (lower_part mid) (λ p. refl) passes ∙ may.of;
    fresh = subst (λ m. All (IsFresh number m) (map (lower_part mid) passes)) at
        (all_mapped (IsFresh number (number + length stations)) (IsFresh number mid) (lower_part mid) (lower_fresh number (number + length stations) mid) passes may.fresh);
    senders = subst (λ n. AreSenders until n number front) (sym (length_mapped (lower_part mid) passes)) parts.0;
  }

  pub back_may : MayPost until mid inboxes (map (upper_part mid) passes) back
  back_may = record {
    few = let w = whole in let f = may.few in omega arith;
    count = subst (λ n. n < 2 ^ 32) (sym (length_mapped (upper_part mid) passes)) may.count;
    of = of_mapped (upper_part mid) (λ p. refl) passes ∙ may.of;
    fresh = subst (λ m. All (IsFresh mid m) (map (upper_part mid) passes)) ends
        (all_mapped (IsFresh number (number + length stations)) (IsFresh mid (number + length stations)) (upper_part mid) (upper_fresh number (number + length stations) mid) passes may.fresh);
    senders = subst (λ n. AreSenders until n mid back) (sym (length_mapped (upper_part mid) passes)) (subst (λ m. AreSenders until (length passes) m back) (sym at) parts.1);
  }

  pub cut_inside : 0 < length front → 0 < length back → All (λ (p : PassModel). (p.view.lo < mid) × (mid < p.view.hi)) passes
  cut_inside some more = all_also (IsFresh number (number + length stations)) (λ (p : PassModel). (p.view.lo < mid) × (mid < p.view.hi))
      (λ p fresh. let w = whole in let lo = fresh.lo_is in let hi = fresh.hi_is in (omega arith, omega arith)) passes may.fresh

-- ---- and put together again

none_kept : (q r : Stamped → Bool) (ones more sent : List Stamped) → sent ≡ [] → (filter q sent ++ ones) ++ (filter r sent ++ more) ≡ sent ++ (ones ++ more)
none_kept q r ones more [] e = refl
none_kept q r ones more (x ∷ xs) e = absurd (let f : x ∷ xs ≡ [] = e in cc)

or_false : (b : Bool) → (b || false) ≡ b
or_false true = refl
or_false false = refl

pub united_posted : (lo hi mid n : ℕ) (fronts backs : List Stamped) (ps : List PassModel) → All (IsFresh lo hi) ps → all_united (posted n fronts (map (lower_part mid) ps)) (posted n backs (map (upper_part mid) ps)) ≡ posted n (fronts ++ backs) ps
united_posted lo hi mid n fronts backs [] fresh = refl
united_posted lo hi mid n fronts backs (p ∷ ps) fresh =
    λ i. record p {
      view = record (p.view) {
        sent = (none_kept (λ (l : Stamped). nat_lt l.from mid) (λ (l : Stamped). not (nat_lt l.from mid)) (letters_to n fronts) (letters_to n backs) p.view.sent (fresh 0 p (omega arith)).sent ∙ ap (λ ls. p.view.sent ++ ls) (sym (letters_both n fronts backs))) i;
        takes = or_false p.view.takes i;
        taken = append-nil p.view.taken i;
      };
    } ∷ united_posted lo hi mid (suc n) fronts backs ps (λ k d h. fresh (suc k) d (omega arith)) i

pub lent_posted : (mid n : ℕ) (fronts backs : List Stamped) (ps : List PassModel) → AreLent (posted n fronts (map (lower_part mid) ps)) (posted n backs (map (upper_part mid) ps))
lent_posted mid n fronts backs [] = tt
lent_posted mid n fronts backs (p ∷ ps) = (refl, refl, lent_posted mid (suc n) fronts backs ps)

pub both_have_posted : (until number mid : ℕ) (stations front back front_after back_after : List StationModel) (passes lowers uppers united : List PassModel) (inboxes : List InboxModel) → stations ≡ front ++ back → MayPost until number inboxes passes stations →
    HavePosted until front front_after (map (lower_part mid) passes) lowers → HavePosted until back back_after (map (upper_part mid) passes) uppers → united ≡ all_united lowers uppers →
    HavePosted until stations (front_after ++ back_after) passes united
both_have_posted until number mid stations front back front_after back_after passes lowers uppers united inboxes cut may one other is = record {
  letters = one.letters ++ other.letters;
  runs = both_have_run until stations front back front_after back_after one.letters other.letters (one.letters ++ other.letters) cut one.runs other.runs refl;
  passes = is ∙ (λ i. all_united (one.passes i) (other.passes i)) ∙ united_posted number (number + length stations) mid 0 one.letters other.letters passes may.fresh;
}

-- ---- one message, and what one station hands out

pub of_set : (ps : List PassModel) (k : ℕ) (p d : PassModel) → p.of ≡ (get_or ps k d).of → map (λ (q : PassModel). q.of) (set ps k p) ≡ map (λ (q : PassModel). q.of) ps
of_set [] k p d e = refl
of_set (q ∷ ps) zero p d e = ap (λ (o : InboxModel). o ∷ map (λ (q : PassModel). q.of) ps) e
of_set (q ∷ ps) (suc k) p d e = ap (λ (os : List InboxModel). q.of ∷ os) (of_set ps k p d e)

-- A message was put in by a pass: the others may be put in still.
pub others_may : (l : Stamped) (ps : List PassModel) (ls : List Stamped) (k : ℕ) (d : PassModel) → k < length ps → All (MayBePosted ps) ls → All (MayBePosted (set ps k (with_one l (get_or ps k d)))) ls
others_may l ps ls k d h all = all_also (MayBePosted ps) (MayBePosted (set ps k (with_one l (get_or ps k d))))
    (λ m may. record {
      there = subst (λ n. m.to < n) (sym (length-set ps k (with_one l (get_or ps k d)))) may.there;
      source = All-set (λ (p : PassModel). HasSource p.view m.from) ps k (with_one l (get_or ps k d)) (may.source k d h) may.source;
    }) ls all

pub sends_may : (number count : ℕ) (passes : List PassModel) (outs : List Stamped) → count ≡ length passes → All (λ (p : PassModel). HasSource p.view number) passes → All (IsFrom number count) outs → All (MayBePosted passes) outs
sends_may number count passes outs same ranges all = all_also (IsFrom number count) (MayBePosted passes)
    (λ l is. record {
      there = let t = is.there in omega (arith, same, t);
      source = all_also (λ (p : PassModel). HasSource p.view number) (λ (p : PassModel). HasSource p.view l.from) (λ p range. let s = is.source in let a = range.0 in let b = range.1 in (omega arith, omega arith)) passes ranges;
    }) outs all

-- ---- the inbox of a pass

length_ofs : (ps : List PassModel) → length (map (λ (p : PassModel). p.of) ps) ≡ length ps
length_ofs [] = refl
length_ofs (p ∷ ps) = ap suc (length_ofs ps)

pub inboxes_count : (inboxes : List InboxModel) (ps : List PassModel) → ArePassesOf inboxes ps → length inboxes ≡ length ps
inboxes_count inboxes ps of = ap (length {A = InboxModel}) (sym of) ∙ length_ofs ps

of_at : (ps : List PassModel) (k : ℕ) (d : PassModel) (i : InboxModel) → k < length ps → i ≡ get_or (map (λ (p : PassModel). p.of) ps) k i → (get_or ps k d).of ≡ i
of_at [] k d i h is = absurd (omega arith)
of_at (p ∷ ps) zero d i h is = sym is
of_at (p ∷ ps) (suc k) d i h is = of_at ps k d i (omega arith) is

pub pass_of : (inboxes : List InboxModel) (ps : List PassModel) (k : ℕ) (d : PassModel) (i : InboxModel) → ArePassesOf inboxes ps → k < length ps → i ≡ get_or inboxes k i → (get_or ps k d).of ≡ i
pass_of inboxes ps k d i of h is = of_at ps k d i h (is ∙ ap (λ (os : List InboxModel). get_or os k i) (sym of))

-- ---- passes put together with their upper parts, from the last on

pub lent_last : (ps us : List PassModel) (u d : PassModel) → AreLent ps (us ++ u ∷ []) → (length us < length ps) × (u.of ≡ (get_or ps (length us) d).of) × ((get_or ps (length us) d).view.hi ≡ u.view.lo)
lent_last [] [] u d lent = absurd lent
lent_last [] (v ∷ us) u d lent = absurd lent
lent_last (p ∷ ps) [] u d lent = (omega arith, lent.0, lent.1)
lent_last (p ∷ ps) (v ∷ us) u d lent = let r = lent_last ps us u d lent.2 in (let a = r.0 in omega arith, r.1, r.2)

pub lent_before : (ps us : List PassModel) (u x : PassModel) → AreLent ps (us ++ u ∷ []) → AreLent (set ps (length us) x) us
lent_before [] [] u x lent = tt
lent_before [] (v ∷ us) u x lent = absurd lent
lent_before (p ∷ ps) [] u x lent = tt
lent_before (p ∷ ps) (v ∷ us) u x lent = (lent.0, lent.1, lent_before ps us u x lent.2)

pub united_none : (ps : List PassModel) → all_united ps [] ≡ ps
united_none [] = refl
united_none (p ∷ ps) = refl

pub united_last : (ps us : List PassModel) (u d : PassModel) → length us < length ps → all_united (set ps (length us) (both_parts (get_or ps (length us) d) u)) us ≡ all_united ps (us ++ u ∷ [])
united_last [] us u d h = absurd (omega arith)
united_last (p ∷ ps) [] u d h = ap (λ qs. both_parts p u ∷ qs) (sym (united_none ps))
united_last (p ∷ ps) (v ∷ us) u d h = ap (λ qs. both_parts p v ∷ qs) (united_last ps us u d (omega arith))

pub no_items : {A : Type 0} (xs : List A) → length xs ≡ 0 → xs ≡ []
no_items [] e = refl
no_items (x ∷ xs) e = absurd (omega (arith, e))

pub map_more : {A B : Type 0} (f : A → B) (xs : List A) (x : A) → map f (xs ++ x ∷ []) ≡ map f xs ++ f x ∷ []
map_more f [] x = refl
map_more f (y ∷ xs) x = ap (λ zs. f y ∷ zs) (map_more f xs x)

-- ---- the loop over the stations of a part

senders_at : (until count n : ℕ) (xs : List StationModel) (k : ℕ) (d : StationModel) → AreSenders until count n xs → k < length xs → (outs : List Stamped) → IsHandedOut until (get_or xs k d) (ran_to until (get_or xs k d)) outs → All (IsFrom (n + k) count) outs
senders_at until count n [] k d all h outs handed = absurd (omega arith)
senders_at until count n (x ∷ xs) zero d all h outs handed = subst (λ m. All (IsFrom m count) outs) (omega arith) (all.0 outs handed)
senders_at until count n (x ∷ xs) (suc k) d all h outs handed = subst (λ m. All (IsFrom m count) outs) (omega arith) (senders_at until count (suc n) xs k d all.1 (omega arith) outs handed)

-- What the station at a place hands out may be put in.
pub outs_may : (until : ℕ) (inboxes : List InboxModel) (ps now_ps : List PassModel) (letters : List Stamped) (xs now : List StationModel) (i : ℕ) (d new : StationModel) (outs : List Stamped) → CanPost until inboxes ps xs → now_ps ≡ posted 0 letters ps → i < length xs →
    now ≡ map (ran_to until) (take i xs) ++ drop i xs →
    station_of new ≡ (run_to_of until (get_or now i d)).0 → machine_of new ≡ machine_of (get_or now i d) → IsUnbroken new → IsLive new → IsHandedOut until (get_or now i d) new outs → All (MayBePosted now_ps) outs
outs_may until inboxes ps now_ps letters xs now i d new outs can is below ran run machine whole live handed =
    subst (λ qs. All (MayBePosted qs) outs) (sym is)
    (sends_may (can.number + i) (length ps) (posted 0 letters ps) outs (sym (length_posted 0 letters ps))
    (all_posted (λ (p : PassModel). HasSource p.view (can.number + i)) (λ p ls has. has) 0 letters ps
    (all_also (IsFresh can.number (can.number + length xs)) (λ (p : PassModel). HasSource p.view (can.number + i)) (λ p fresh. let lo = fresh.lo_is in let hi = fresh.hi_is in (omega arith, omega arith)) ps can.may.fresh))
    (senders_at until (length ps) can.number xs i d can.may.senders below outs
    (subst (λ (x : StationModel). IsHandedOut until x (ran_to until x) outs) old_is
    (subst (λ (y : StationModel). IsHandedOut until (get_or now i d) y outs) (ran_is until (get_or now i d) new run machine whole live) handed))))
  where
    old_is : get_or now i d ≡ get_or xs i d
    old_is = ap (λ ys. get_or ys i d) ran ∙ unmapped_at (ran_to until) i xs d below

-- ---- what the two sides of a part may do

module _ (until number at : ℕ) (inboxes : List InboxModel) (passes : List PassModel) (stations : List StationModel) (some : 0 < at) (less : at < length stations) (may : MayPost until number inboxes passes stations) where
  cut : stations ≡ take at stations ++ drop at stations
  cut = sym (take-append-drop at stations)

  front_count : length (take at stations) ≡ at
  front_count = let l = length-take at stations in omega arith

  pub inside_all : All (λ (p : PassModel). (p.view.lo < number + at) × (number + at < p.view.hi)) passes
  inside_all = cut_inside until number (number + at) inboxes passes stations (take at stations) (drop at stations) cut (let f = front_count in omega arith) may (let f = front_count in omega arith) (let d = length-drop at stations in omega arith)

  pub front_may_post : (lowers : List PassModel) → lowers ≡ map (lower_part (number + at)) passes → MayPost until number inboxes lowers (take at stations)
  front_may_post lowers is = subst (λ ps. MayPost until number inboxes ps (take at stations)) (sym is) (front_may until number (number + at) inboxes passes stations (take at stations) (drop at stations) cut (let f = front_count in omega arith) may)

  pub back_may_post : (uppers : List PassModel) → uppers ≡ map (upper_part (number + at)) passes → MayPost until (number + at) inboxes uppers (drop at stations)
  back_may_post uppers is = subst (λ ps. MayPost until (number + at) inboxes ps (drop at stations)) (sym is) (back_may until number (number + at) inboxes passes stations (take at stations) (drop at stations) cut (let f = front_count in omega arith) may)

-- a list that was lent whole is written back whole
pub written_back : (n : ℕ) (xs ys : List PassModel) → length xs ≡ n → take n (xs ++ ys) ≡ xs
written_back n xs ys e = ap (λ k. take k (xs ++ ys)) (sym e) ∙ take-append_seam xs ys

pub of_lowers : (mid : ℕ) (ps : List PassModel) → map (λ (p : PassModel). p.of) (map (lower_part mid) ps) ≡ map (λ (p : PassModel). p.of) ps
of_lowers mid ps = of_mapped (lower_part mid) (λ p. refl) ps

-- ---- what both halves have come to

-- a half that has ended well
ended_well : (r : Result Unit NoMemory) (u : Unit) (P : Type 0) → r ≡ Ok u → OnOk r P → P
ended_well r u P is ok = subst (λ (q : Result Unit NoMemory). OnOk q P) is ok

module _ (until number mid : ℕ) (inboxes : List InboxModel) (passes lowers uppers lowers_after uppers_after : List PassModel) (front front_after back back_after : List StationModel)
    (lower : lowers ≡ map (lower_part mid) passes) (above : uppers ≡ map (upper_part mid) passes)
    (one : Result Unit NoMemory) (u : Unit) (one_is : one ≡ Ok u) (one_ok : OnOk one (HavePosted until front front_after lowers lowers_after))
    (other : Result Unit NoMemory) (v : Unit) (other_is : other ≡ Ok v) (other_ok : OnOk other (HavePosted until back back_after uppers uppers_after))
  where
    fronts : HavePosted until front front_after (map (lower_part mid) passes) lowers_after
    fronts = subst (λ ps. HavePosted until front front_after ps lowers_after) lower (ended_well one u (HavePosted until front front_after lowers lowers_after) one_is one_ok)

    backs : HavePosted until back back_after (map (upper_part mid) passes) uppers_after
    backs = subst (λ ps. HavePosted until back back_after ps uppers_after) above (ended_well other v (HavePosted until back back_after uppers uppers_after) other_is other_ok)

    pub lowers_are_of : ArePassesOf inboxes passes → ArePassesOf inboxes lowers_after
    lowers_are_of of = ap (map (λ (p : PassModel). p.of)) fronts.passes ∙ of_posted 0 fronts.letters (map (lower_part mid) passes) ∙ of_lowers mid passes ∙ of

    pub uppers_are_lent : (written : List PassModel) → written ≡ uppers_after → AreLent lowers_after written
    uppers_are_lent written is = subst (λ ps. AreLent lowers_after ps) (sym is)
        (subst (λ ps. AreLent ps uppers_after) (sym fronts.passes) (subst (λ ps. AreLent (posted 0 fronts.letters (map (lower_part mid) passes)) ps) (sym backs.passes)
        (lent_posted mid 0 fronts.letters backs.letters passes)))

    pub lowers_count : length lowers_after ≡ length passes
    lowers_count = ap (length {A = PassModel}) fronts.passes ∙ length_posted 0 fronts.letters (map (lower_part mid) passes) ∙ length_mapped (lower_part mid) passes

    pub uppers_count : length uppers_after ≡ length uppers
    uppers_count = ap (length {A = PassModel}) backs.passes ∙ length_posted 0 backs.letters (map (upper_part mid) passes) ∙ ap (length {A = PassModel}) (sym above)

    pub all_have_posted : (stations : List StationModel) (written united : List PassModel) → stations ≡ front ++ back → MayPost until number inboxes passes stations → written ≡ uppers_after → united ≡ all_united lowers_after written →
        HavePosted until stations (front_after ++ back_after) passes united
    all_have_posted stations written united cut may is put = both_have_posted until number mid stations front back front_after back_after passes lowers_after uppers_after united inboxes cut may fronts backs (put ∙ ap (all_united lowers_after) is)

-- ---- what follows from an answer that is Ok

pub on_ok : {A E : Type 0} {P Q : Type 0} (r : Result A E) → (P → Q) → OnOk r P → OnOk r Q
on_ok (Ok x) f p = f p
on_ok (Err e) f p = tt

pub if_ok : {A E : Type 0} {P Q : A → Type 0} (r : Result A E) → ((x : A) → P x → Q x) → IfOk r P → IfOk r Q
if_ok (Ok x) f p = f x p
if_ok (Err e) f p = tt
