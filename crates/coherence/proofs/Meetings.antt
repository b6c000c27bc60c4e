-- Everybody has one place at the barrier.
use Rattle.std.proofs.Common.{◌≡◌, ℕ, ◌+◌, ◌-◌, ◌≤◌, ◌==◌, nat_lt, Bool, true, false, cond, List, [], ◌∷◌, refl, ap, sym, ◌∙◌, subst, arith, eqb-true, true≢false}
use Rattle.std.specs.Prelude.{◌||◌}
use Rattle.std.proofs.lemmas.Bool.Decides.{nat_tests}
use Rattle.dir_list.specs.Lists.{with_node}
use Rattle.wt_proto.specs.NodeSets.{has_node}
use Rattle.target_barrier.specs.declared.barrier.Release.{Release}
use Rattle.target_barrier.specs.declared.barrier.Release.TheVariants.{Hold, Go}
use Rattle.target_barrier.specs.Barrier.{Barrier, is_known, is_complete, opened}
use Rattle.coherence.specs.Meetings.{Stand, Part, Meeting, Move, with_part, once, told_of, move_of, MayMove, waits_once, gone_once, HasPlace, HavePlaces, IsExpected, MeetingsAreOrderly}
use Rattle.coherence.specs.Meetings.Stand.{Away, Waits, Gone}
use Rattle.coherence.specs.Meetings.Move.{Come, Quit, ArriveComes, LeaveComes, GoComes}

-- ---- sets

itself : (n : ℕ) → (n == n) ≡ true
itself n = grind (arith, nat_tests)

once_had : (test : Bool) → once test ≡ 0 → test ≡ false
once_had true is = absurd (omega (arith, is))
once_had false is = refl

-- a node that joins a set
joined : (node other : ℕ) (nodes : List ℕ) → (other == node) ≡ false → has_node (with_node node nodes) other ≡ has_node nodes other
joined node other [] differ = grind (arith, nat_tests)
joined node other (first ∷ rest) differ = by (nat_lt node first) (node == first) refl (joined node other rest differ)
  where
    by : (before same : Bool) → (node == first) ≡ same → has_node (with_node node rest) other ≡ has_node rest other →
        has_node (cond before (node ∷ (first ∷ rest)) (cond same (first ∷ rest) (first ∷ with_node node rest))) other ≡ has_node (first ∷ rest) other
    by true same is later = (let apart : (node == other) ≡ false = grind (arith, nat_tests) in rw apart refl)
    by false true is later = refl
    by false false is later = ap (λ (b : Bool). (first == other) || b) later

joined_itself : (node : ℕ) (nodes : List ℕ) → has_node (with_node node nodes) node ≡ true
joined_itself node [] = rw (itself node) refl
joined_itself node (first ∷ rest) = by (nat_lt node first) (node == first) refl (joined_itself node rest)
  where
    or_true : (b : Bool) → (b || true) ≡ true
    or_true true = refl
    or_true false = refl

    by : (before same : Bool) → (node == first) ≡ same → has_node (with_node node rest) node ≡ true →
        has_node (cond before (node ∷ (first ∷ rest)) (cond same (first ∷ rest) (first ∷ with_node node rest))) node ≡ true
    by true same is later = rw (itself node) refl
    by false true is later = (let e : (first == node) ≡ true = grind (arith, nat_tests) in rw e refl)
    by false false is later = rw later (or_true (first == node))

-- ---- one part changes

changed : (unit : Barrier) (part : ℕ → Part) (node : ℕ) (now : Part) → ((other : ℕ) → HasPlace unit other (part other)) → HasPlace unit node now →
    (other : ℕ) → HasPlace unit other (with_part node now part other)
changed unit part node now were is other = by (other == node) refl
  where
    by : (same : Bool) → (other == node) ≡ same → HasPlace unit other (cond same now (part other))
    by true e = subst (λ (k : ℕ). HasPlace unit k now) (sym (eqb-true other node e)) is
    by false e = were other

-- where one stands by what is under way
stands_waiting : (stand : Stand) → 1 ≤ waits_once stand → (stand ≡ Waits) × (gone_once stand ≡ 0)
stands_waiting Away some = absurd (omega arith)
stands_waiting Waits some = (refl, refl)
stands_waiting Gone some = absurd (omega arith)

stands_gone : (stand : Stand) → 1 ≤ gone_once stand → waits_once stand ≡ 0
stands_gone Away some = absurd (omega arith)
stands_gone Waits some = absurd (omega arith)
stands_gone Gone some = refl

unknown : (barrier : Barrier) (node : ℕ) → has_node barrier.arrived node ≡ false → has_node barrier.left node ≡ false → is_known barrier node ≡ false
unknown barrier node none gone = rw (none, gone) refl

-- ---- the unit answers

opens : (barrier : Barrier) (node : ℕ) (part : Part) → HasPlace barrier node part →
    HasPlace (opened barrier).0 node (record part { gos = part.gos + once (has_node (told_of (opened barrier).1) node) })
opens barrier node part is = by (is_complete barrier)
  where
    by : (complete : Bool) → HasPlace (cond {A = Barrier × Release} complete (record barrier { arrived = [] }, Go barrier.arrived) (barrier, Hold)).0 node
        (record part { gos = part.gos + once (has_node (told_of (cond {A = Barrier × Release} complete (record barrier { arrived = [] }, Go barrier.arrived) (barrier, Hold)).1) node) })
    by true = record { waits = let w = is.waits in omega (arith, w); gone = is.gone }
    by false = record { waits = let w = is.waits in omega (arith, w); gone = is.gone }

module _ (now : Meeting) (are : HavePlaces now) (node : ℕ) where
  abbrev mine : Part
  mine = now.part node

  new_at_unit : 1 ≤ mine.arrives → is_known now.unit node ≡ false
  new_at_unit some =
      let w = (are node).waits in
      let stands = stands_waiting mine.stand (omega (arith, w, some)) in
      let g = (are node).gone in
      let few = at_most_one mine.stand in
      unknown now.unit node (once_had (has_node now.unit.arrived node) (omega (arith, w, some, few))) (once_had (has_node now.unit.left node) (let none = stands.1 in omega (arith, g, none)))
    where
      at_most_one : (stand : Stand) → waits_once stand ≤ 1
      at_most_one Away = omega arith
      at_most_one Waits = omega arith
      at_most_one Gone = omega arith

  new_to_leave : 1 ≤ mine.leaves → is_known now.unit node ≡ false
  new_to_leave some =
      let g = (are node).gone in
      let w = (are node).waits in
      let none = stands_gone mine.stand (omega (arith, g, some)) in
      let few = at_most_one mine.stand in
      unknown now.unit node (once_had (has_node now.unit.arrived node) (omega (arith, w, none))) (once_had (has_node now.unit.left node) (omega (arith, g, some, few)))
    where
      at_most_one : (stand : Stand) → gone_once stand ≤ 1
      at_most_one Away = omega arith
      at_most_one Waits = omega arith
      at_most_one Gone = omega arith

  comes : mine.stand ≡ Away → HavePlaces (move_of (Come node) now)
  comes away = changed now.unit now.part node (record mine { stand = Waits; arrives = mine.arrives + 1 }) are (record {
    waits = let w : mine.arrives + once (has_node now.unit.arrived node) + mine.gos ≡ 0 = (are node).waits ∙ ap waits_once away in omega (arith, w);
    gone = (are node).gone ∙ ap gone_once away;
  })

  quits : mine.stand ≡ Away → HavePlaces (move_of (Quit node) now)
  quits away = changed now.unit now.part node (record mine { stand = Gone; leaves = mine.leaves + 1 }) are (record {
    waits = (are node).waits ∙ ap waits_once away;
    gone = let g : mine.leaves + once (has_node now.unit.left node) ≡ 0 = (are node).gone ∙ ap gone_once away in omega (arith, g);
  })

  goes_on : 1 ≤ mine.gos → HavePlaces (move_of (GoComes node) now)
  goes_on some =
      let w = (are node).waits in
      let stands = stands_waiting mine.stand (omega (arith, w, some)) in
      let one : mine.arrives + once (has_node now.unit.arrived node) + mine.gos ≡ 1 = w ∙ ap waits_once stands.0 in
      changed now.unit now.part node (record mine { stand = Away; gos = mine.gos - 1 }) are (record { waits = omega (arith, one, some); gone = (are node).gone ∙ stands.1 })

  arrives : 1 ≤ mine.arrives → HavePlaces (move_of (ArriveComes node) now)
  arrives some other =
      rw (new_at_unit some)
      (opens (record (now.unit) { arrived = with_node node now.unit.arrived }) other (with_part node (record mine { arrives = mine.arrives - 1 }) now.part other) (by (other == node) refl))
    where
      by : (same : Bool) → (other == node) ≡ same → HasPlace (record (now.unit) { arrived = with_node node now.unit.arrived }) other (cond same (record mine { arrives = mine.arrives - 1 }) (now.part other))
      by true e = subst (λ (k : ℕ). HasPlace (record (now.unit) { arrived = with_node node now.unit.arrived }) k (record mine { arrives = mine.arrives - 1 })) (sym (eqb-true other node e)) (record {
        waits =
            let w = (are node).waits in
            let before : once (has_node now.unit.arrived node) ≡ 0 = no_once now.unit.arrived node (new_at_unit some) in
            let after : once (has_node (with_node node now.unit.arrived) node) ≡ 1 = ap once (joined_itself node now.unit.arrived) in
            omega (arith, w, before, after, some);
        gone = (are node).gone;
      })
        where
          no_once : (set : List ℕ) (k : ℕ) → (has_node set k || has_node now.unit.left k) ≡ false → once (has_node set k) ≡ 0
          no_once set k none = ap once (first_false (has_node set k) (has_node now.unit.left k) none)
            where
              first_false : (a b : Bool) → (a || b) ≡ false → a ≡ false
              first_false true b is = absurd (true≢false is)
              first_false false b is = refl
      by false e = record {
        waits = (let same : once (has_node (with_node node now.unit.arrived) other) ≡ once (has_node now.unit.arrived other) = ap once (joined node other now.unit.arrived e) in let w = (are other).waits in omega (arith, w, same));
        gone = (are other).gone;
      }

  leaves : 1 ≤ mine.leaves → HavePlaces (move_of (LeaveComes node) now)
  leaves some other =
      rw (new_to_leave some)
      (opens (record (now.unit) { left = with_node node now.unit.left }) other (with_part node (record mine { leaves = mine.leaves - 1 }) now.part other) (by (other == node) refl))
    where
      second_false : (a b : Bool) → (a || b) ≡ false → b ≡ false
      second_false true b is = absurd (true≢false is)
      second_false false b is = is

      by : (same : Bool) → (other == node) ≡ same → HasPlace (record (now.unit) { left = with_node node now.unit.left }) other (cond same (record mine { leaves = mine.leaves - 1 }) (now.part other))
      by true e = subst (λ (k : ℕ). HasPlace (record (now.unit) { left = with_node node now.unit.left }) k (record mine { leaves = mine.leaves - 1 })) (sym (eqb-true other node e)) (record {
        waits = (are node).waits;
        gone =
            let g = (are node).gone in
            let before : once (has_node now.unit.left node) ≡ 0 = ap once (second_false (has_node now.unit.arrived node) (has_node now.unit.left node) (new_to_leave some)) in
            let after : once (has_node (with_node node now.unit.left) node) ≡ 1 = ap once (joined_itself node now.unit.left) in
            omega (arith, g, before, after, some);
      })
      by false e = record {
        waits = (are other).waits;
        gone = (let same : once (has_node (with_node node now.unit.left) other) ≡ once (has_node now.unit.left other) = ap once (joined node other now.unit.left e) in let g = (are other).gone in omega (arith, g, same));
      }

keeps : (now : Meeting) (move : Move) → HavePlaces now → MayMove now move → HavePlaces (move_of move now)
keeps now (Come node) are may = comes now are node may
keeps now (Quit node) are may = quits now are node may
keeps now (ArriveComes node) are may = arrives now are node may
keeps now (LeaveComes node) are may = leaves now are node may
keeps now (GoComes node) are may = goes_on now are node may

is_expected : (now : Meeting) (move : Move) → HavePlaces now → MayMove now move → IsExpected now move
is_expected now (Come node) are may = tt
is_expected now (Quit node) are may = tt
is_expected now (ArriveComes node) are may = new_at_unit now are node may
is_expected now (LeaveComes node) are may = new_to_leave now are node may
is_expected now (GoComes node) are may = (stands_waiting (now.part node).stand (let w = (are node).waits in omega (arith, w, may))).0

pub meetings_orderly : MeetingsAreOrderly
meetings_orderly = record {
  start = λ now first node. record {
    waits = rw (first.arrived, first.parts node) refl;
    gone = rw (first.left, first.parts node) refl;
  };
  move = keeps;
  expected = is_expected;
}
