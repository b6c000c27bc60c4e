-- Stations that are cut in two parts, each of which runs on its own.
use Rattle.std.proofs.Common.{◌≡◌, ℕ, ◌+◌, ◌-◌, ◌*◌, ◌/◌, ◌<◌, ◌≤◌, arith, List, [], ◌∷◌, ◌++◌, map, refl, ap, sym, ◌∙◌, subst, append_assoc}
use Rattle.std.proofs.Math.Nat.{div-le_of_le-mul}
use Rattle.std.proofs.lemmas.Nat.{le-div}
use Rattle.std.proofs.lemmas.List.Elements.{All-append}
use Rattle.wt_proto.specs.declared.message.Stamped.{Stamped}
use Rattle.quantum.specs.Stations.{StationModel}
use Rattle.engine.specs.Quantum.{AreHandedOut, HaveRun, IsGood, ran_to}

handed_out_by_both : (until : ℕ) (front back : List StationModel) (fronts backs : List Stamped) → AreHandedOut until front fronts → AreHandedOut until back backs → AreHandedOut until (front ++ back) (fronts ++ backs)
handed_out_by_both until [] back fronts backs none more = subst (AreHandedOut until back) (ap (λ (ls : List Stamped). ls ++ backs) (sym none)) more
handed_out_by_both until (station ∷ front) back fronts backs some more =
    (some.0, some.1 ++ backs, some.2, handed_out_by_both until front back some.1 backs some.3 more, ap (λ (ls : List Stamped). ls ++ backs) some.4 ∙ append_assoc some.0 some.1 backs)

map_both : (f : StationModel → StationModel) (xs ys : List StationModel) → map f (xs ++ ys) ≡ map f xs ++ map f ys
map_both f [] ys = refl
map_both f (x ∷ xs) ys = ap (λ zs. f x ∷ zs) (map_both f xs ys)

-- What both parts have come to, they have together.
pub both_have_run : (until : ℕ) (stations front back front_after back_after : List StationModel) (fronts backs letters : List Stamped) →
    stations ≡ front ++ back → HaveRun until front front_after fronts → HaveRun until back back_after backs → letters ≡ fronts ++ backs →
    HaveRun until stations (front_after ++ back_after) letters
both_have_run until stations front back front_after back_after fronts backs letters cut one other both = record {
  ran = (λ i. one.ran i ++ other.ran i) ∙ sym (map_both (ran_to until) front back) ∙ ap (map (ran_to until)) (sym cut);
  outs = subst (λ (ss : List StationModel). AreHandedOut until ss letters) (sym cut) (subst (AreHandedOut until (front ++ back)) (sym both) (handed_out_by_both until front back fronts backs one.outs other.outs));
  good = All-append IsGood front_after back_after one.good other.good;
}

-- ---- the place of the cut

times_more : (left parts len : ℕ) → parts ≤ len → left * parts ≤ len * left
times_more left parts len enough = grind arith

apart : (left right more : ℕ) → (left + right + more) * left ≤ (left + right) * (left + more)
apart left right more = grind arith

-- each side has a station for each of its workers
pub left_is_enough : (parts len left at : ℕ) → parts ≤ len → at ≡ len * left / parts → 0 < parts → left ≤ at
left_is_enough parts len left at enough is some = subst (λ n. left ≤ n) (sym is) (le-div left (len * left) parts some (times_more left parts len enough))

pub right_is_enough : (parts len left at : ℕ) → parts ≤ len → at ≡ len * left / parts → left ≤ parts → (parts - left) + at ≤ len
right_is_enough parts len left at enough is half =
    let right = parts - left in
    let more = len - parts in
    let a : (left + right + more) * left ≤ (left + right) * (left + more) = apart left right more in
    let p : left + right ≡ parts = omega arith in
    let l : left + right + more ≡ len = omega arith in
    let b : len * left ≤ parts * (left + more) = subst (λ n. n * left ≤ parts * (left + more)) l (subst (λ n. (left + right + more) * left ≤ n * (left + more)) p a) in
    let c : len * left / parts ≤ left + more = div-le_of_le-mul parts b in
    omega arith
