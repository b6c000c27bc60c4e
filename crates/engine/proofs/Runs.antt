-- Stations that have run up to a time, one after the other, and what they hand out.
use Rattle.std.proofs.Common.{◌≡◌, ℕ, zero, suc, ◌<◌, ◌≤◌, List, [], ◌∷◌, ◌++◌, length, get_or, take, drop, map, Option, Some, None, min, refl, ap, sym, ◌∙◌, subst, arith, append_assoc}
use Rattle.std.proofs.Math.ListN.{set}
use Rattle.std.proofs.Math.Seq.{take-suc}
use Rattle.wt_proto.specs.declared.message.Stamped.{Stamped}
use Rattle.quantum.specs.FreeRuns.{IsHandedOut, run_to_of}
use Rattle.quantum.specs.Stations.{StationModel, IsLive, IsUnbroken, least_time_of, machine_of, station_of}
use Rattle.engine.specs.Quantum.{AreHandedOut, earliest_of, ran_to, sooner}

-- ---- the loop over the stations

pub mapped_more : {A : Type 0} (f : A → A) (i : ℕ) (xs : List A) (d : A) → i < length xs → set (map f (take i xs) ++ drop i xs) i (f (get_or xs i d)) ≡ map f (take (suc i) xs) ++ drop (suc i) xs
mapped_more f i [] d h = absurd (omega arith)
mapped_more f zero (x ∷ xs) d h = refl
mapped_more f (suc n) (x ∷ xs) d h = ap (λ ys. f x ∷ ys) (mapped_more f n xs d (omega arith))

pub unmapped_at : {A : Type 0} (f : A → A) (i : ℕ) (xs : List A) (d : A) → i < length xs → get_or (map f (take i xs) ++ drop i xs) i d ≡ get_or xs i d
unmapped_at f i [] d h = absurd (omega arith)
unmapped_at f zero (x ∷ xs) d h = refl
unmapped_at f (suc n) (x ∷ xs) d h = unmapped_at f n xs d (omega arith)

pub mapped_all : {A : Type 0} (f : A → A) (i : ℕ) (xs : List A) → length xs ≤ i → map f (take i xs) ++ drop i xs ≡ map f xs
mapped_all f zero [] h = refl
mapped_all f (suc i) [] h = refl
mapped_all f zero (x ∷ xs) h = absurd (omega arith)
mapped_all f (suc n) (x ∷ xs) h = ap (λ ys. f x ∷ ys) (mapped_all f n xs (omega arith))

pub taken_all : {A : Type 0} (i : ℕ) (xs : List A) → length xs ≤ i → take i xs ≡ xs
taken_all zero [] h = refl
taken_all (suc i) [] h = refl
taken_all zero (x ∷ xs) h = absurd (omega arith)
taken_all (suc n) (x ∷ xs) h = ap (λ ys. x ∷ ys) (taken_all n xs (omega arith))

pub ran_is : (until : ℕ) (before after : StationModel) → station_of after ≡ (run_to_of until before).0 → machine_of after ≡ machine_of before → IsUnbroken after → IsLive after → after ≡ ran_to until before
ran_is until before after ran machine whole live = λ i. record {
  node = record { machine = machine i; state = (ran i).node; broken = live.whole i };
  pending = (ran i).pending;
  until = (ran i).until;
  broken = whole i;
}

pub handed_out_more : (until : ℕ) (xs : List StationModel) (letters : List Stamped) (x : StationModel) (outs : List Stamped) → AreHandedOut until xs letters → IsHandedOut until x (ran_to until x) outs → AreHandedOut until (xs ++ x ∷ []) (letters ++ outs)
handed_out_more until [] letters x outs so_far is = (outs, [], is, refl, ap (λ ls. ls ++ outs) so_far ∙ sym (append_nothing outs))
  where
    append_nothing : {A : Type 0} (xs : List A) → xs ++ [] ≡ xs
    append_nothing [] = refl
    append_nothing (x ∷ xs) = ap (λ ys. x ∷ ys) (append_nothing xs)
handed_out_more until (y ∷ ys) letters x outs so_far is =
    (so_far.0, so_far.1 ++ outs, so_far.2, handed_out_more until ys so_far.1 x outs so_far.3 is, ap (λ ls. ls ++ outs) so_far.4 ∙ append_assoc so_far.0 so_far.1 outs)

-- ---- the least of several times

pub sooner_assoc : (a b c : Option ℕ) → sooner (sooner a b) c ≡ sooner a (sooner b c)
sooner_assoc None b c = refl
sooner_assoc (Some a) None c = refl
sooner_assoc (Some a) (Some b) None = refl
sooner_assoc (Some a) (Some b) (Some c) = let e : min (min a b) c ≡ min a (min b c) = omega arith in ap (λ n. Some n) e

pub sooner_none : (a : Option ℕ) → sooner a None ≡ a
sooner_none None = refl
sooner_none (Some a) = refl

pub earliest_more : (first : Option ℕ) (i : ℕ) (xs : List StationModel) (d : StationModel) → i < length xs → sooner (sooner first (least_time_of (get_or xs i d))) (earliest_of (drop (suc i) xs)) ≡ sooner first (earliest_of (drop i xs))
earliest_more first i [] d h = absurd (omega arith)
earliest_more first zero (x ∷ xs) d h = sooner_assoc first (least_time_of x) (earliest_of xs)
earliest_more first (suc n) (x ∷ xs) d h = earliest_more first n xs d (omega arith)

pub earliest_all : (first : Option ℕ) (i : ℕ) (xs : List StationModel) → length xs ≤ i → sooner first (earliest_of (drop i xs)) ≡ first
earliest_all first zero [] h = sooner_none first
earliest_all first (suc i) [] h = sooner_none first
earliest_all first zero (x ∷ xs) h = absurd (omega arith)
earliest_all first (suc n) (x ∷ xs) h = earliest_all first n xs (omega arith)

-- ---- one more station has run

pub record RanOneMore (until : ℕ) (xs now : List StationModel) (letters : List Stamped) (i : ℕ) : Type 0 where
  pub ran : now ≡ map (ran_to until) (take i xs) ++ drop i xs
  pub outs : AreHandedOut until (take i xs) letters

pub run_one_more : (until : ℕ) (xs now : List StationModel) (letters letters' : List Stamped) (i : ℕ) (d new : StationModel) (outs : List Stamped) → i < length xs →
    now ≡ map (ran_to until) (take i xs) ++ drop i xs → AreHandedOut until (take i xs) letters →
    station_of new ≡ (run_to_of until (get_or now i d)).0 → machine_of new ≡ machine_of (get_or now i d) → IsUnbroken new → IsLive new → IsHandedOut until (get_or now i d) new outs → letters' ≡ letters ++ outs →
    RanOneMore until xs (set now i new) letters' (suc i)
run_one_more until xs now letters letters' i d new outs below ran so_far run machine whole live handed more = record {
  ran = (λ j. set (ran j) i (new_is j)) ∙ mapped_more (ran_to until) i xs d below;
  outs = subst (λ (ls : List Stamped). AreHandedOut until (take (suc i) xs) ls) (sym more)
      (subst (λ (ys : List StationModel). AreHandedOut until ys (letters ++ outs)) (sym (take-suc xs i d below))
      (handed_out_more until (take i xs) letters (get_or xs i d) outs so_far
      (subst (λ (x : StationModel). IsHandedOut until x (ran_to until x) outs) old_is
      (subst (λ (y : StationModel). IsHandedOut until (get_or now i d) y outs) (ran_is until (get_or now i d) new run machine whole live) handed))));
}
  where
    old_is : get_or now i d ≡ get_or xs i d
    old_is = ap (λ ys. get_or ys i d) ran ∙ unmapped_at (ran_to until) i xs d below

    new_is : new ≡ ran_to until (get_or xs i d)
    new_is = ran_is until (get_or now i d) new run machine whole live ∙ ap (ran_to until) old_is
