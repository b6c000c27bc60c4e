-- Different nodes are apart, neighbours by one step, so the least latency is that of neighbours.
use Rattle.std.proofs.Common.{◌≡◌, ◌≢◌, ℕ, zero, suc, ◌+◌, ◌*◌, ◌/◌, ◌%◌, ◌<◌, ◌≤◌, Bool, true, false, not, cond, List, [], ◌∷◌, ◌++◌, map, refl, ap, sym, ◌∙◌, eq-eqb, true≢false, arith, Some, slice_get}
use Rattle.std.proofs.Math.Nat.{div-add-mod, div-eq_of_lt, mod-eq_of_lt, zero-div, zero-mod, le-mul_of_pos_right}
use Rattle.std.proofs.lemmas.Bool.{le-leb, cases_lt}
use Rattle.std.proofs.lemmas.Bool.Decides.{nat_tests}
use mathlib.Core.Logic.{◌⊎◌, inl, inr}
use Rattle.std.specs.Int.{abs_diff}
use Rattle.std.specs.Prelude.{⊤}
use Rattle.std.specs.Prelude.{◌==◌, nat_le}
use Rattle.std.specs.List.{filter, flat_map, range_with_len}
use Rattle.wt_params.specs.declared.parts.MachineParts.{MachineParts}
use Rattle.wt_params.specs.Machine.{InRange, IsMachine}
use Rattle.wt_params.specs.Mesh.{distance_of, latency_of, least_of, least_or, lookahead_of}

-- equal columns and rows are those of one node
same_place : (width from to : ℕ) → from % width ≡ to % width → from / width ≡ to / width → from ≡ to
same_place width from to column row =
    sym (div-add-mod from width) ∙ (ap (λ n. width * n + from % width) row ∙ (ap (λ n. width * (to / width) + n) column ∙ div-add-mod to width))

apart_by : (a b c d : ℕ) → ((a ≡ b) → (c ≡ d) → 1 ≤ 0) → 1 ≤ abs_diff a b + abs_diff c d
apart_by a b c d different = grind (arith, different)

-- different nodes differ in their columns or in their rows
pub apart : (machine : MachineParts) (from to : ℕ) → from ≢ to → 1 ≤ distance_of machine from to
unfolding distance_of
apart machine from to different =
    apart_by (from % machine.width) (to % machine.width) (from / machine.width) (to / machine.width)
    (λ column row. absurd (different (same_place machine.width from to column row)))

one_step : (width : ℕ) → abs_diff (0 % width) (1 % width) + abs_diff (0 / width) (1 / width) ≡ 1
one_step zero = refl
one_step (suc zero) = refl
one_step (suc (suc width)) =
    let row : 1 / suc (suc width) ≡ 0 = div-eq_of_lt (omega arith) in
    let column : 1 % suc (suc width) ≡ 1 = mod-eq_of_lt (omega arith) in
    rw (row, column, zero-div (suc (suc width)), zero-mod (suc (suc width))) refl

-- the first two nodes are neighbours, whatever the width
pub neighbours : (machine : MachineParts) → distance_of machine 0 1 ≡ 1
unfolding distance_of
neighbours machine = one_step machine.width

-- a message to another node takes at least the latency and one hop
hops : (latency hop distance : ℕ) → 1 ≤ distance → latency + hop ≤ latency + hop * distance
hops latency hop distance one = omega (arith, le-mul_of_pos_right hop one)

far : (machine : MachineParts) (from to : ℕ) → (from == to) ≡ false → machine.latency + machine.hop ≤ latency_of machine from to
far machine from to other =
    rw other (hops machine.latency machine.hop (distance_of machine from to) (apart machine from to different))
  where
    different : from ≢ to
    different same = true≢false (sym (eq-eqb from to same) ∙ other)

-- no number of a list is less than a bound
abbrev AllFrom : ℕ → List ℕ → Type 0
AllFrom bound [] = ⊤
AllFrom bound (number ∷ rest) = (bound ≤ number) × AllFrom bound rest

joined : (bound : ℕ) (a b : List ℕ) → AllFrom bound a → AllFrom bound b → AllFrom bound (a ++ b)
joined bound [] b all others = others
joined bound (number ∷ a) b all others = (all.0, joined bound a b all.1 others)

least_from : (bound number : ℕ) (rest : List ℕ) → bound ≤ number → AllFrom bound rest → bound ≤ least_of number rest
least_from bound number [] from all = from
least_from bound number (other ∷ rest) from all =
    let least : bound ≤ least_of other rest = least_from bound other rest all.0 all.1 in
    omega arith

least_is : (bound : ℕ) (rest : List ℕ) → AllFrom bound rest → least_of bound rest ≡ bound
least_is bound [] all = refl
least_is bound (number ∷ rest) all =
    let least : bound ≤ least_of number rest = least_from bound number rest all.0 all.1 in
    omega arith

least_first : (default bound first : ℕ) (numbers : List ℕ) → slice_get numbers 0 ≡ Some first → first ≡ bound → AllFrom bound numbers → least_or default numbers ≡ bound
least_first default bound first [] at is all = cc
least_first default bound first (number ∷ rest) at is all =
    let same : number ≡ bound = cc in
    rw same (least_is bound rest all.1)

module _ (machine : MachineParts) where
  abbrev bound : ℕ
  bound = machine.latency + machine.hop

  -- the latencies from a node to some others, and those of some nodes
  abbrev row_from : ℕ → List ℕ → List ℕ
  row_from from nodes = map (latency_of machine from) (filter (λ to. not (from == to)) nodes)

  far_row : (from : ℕ) (nodes : List ℕ) → AllFrom bound (row_from from nodes)
  far_row from [] = tt
  far_row from (to ∷ nodes) = by (from == to) refl (far_row from nodes)
    where
      by : (same : Bool) → (from == to) ≡ same → AllFrom bound (row_from from nodes) → AllFrom bound (map (latency_of machine from) (cond (not same) (to ∷ filter (λ n. not (from == n)) nodes) (filter (λ n. not (from == n)) nodes)))
      by true is rest = rest
      by false is rest = (far machine from to is, rest)

  far_rows : (nodes all : List ℕ) → AllFrom bound (flat_map (λ from. row_from from all) nodes)
  far_rows [] all = tt
  far_rows (from ∷ nodes) all = joined bound (row_from from all) _ (far_row from all) (far_rows nodes all)

  by_count : (count : ℕ) → least_or machine.latency (flat_map (λ from. row_from from (range_with_len 0 count)) (range_with_len 0 count)) ≡ cond (nat_le count 1) machine.latency bound
  by_count zero = refl
  by_count (suc zero) = refl
  by_count (suc (suc count)) =
      let all = range_with_len 0 (suc (suc count)) in
      let near : machine.latency + machine.hop * distance_of machine 0 1 ≡ bound = one_hop machine.latency machine.hop (distance_of machine 0 1) (neighbours machine) in
      least_first machine.latency bound _ (flat_map (λ from. row_from from all) all) refl near (far_rows all all)
      ∙ ap (λ alone. cond alone machine.latency bound) (sym (many count))
    where
      one_hop : (latency hop distance : ℕ) → distance ≡ 1 → latency + hop * distance ≡ latency + hop
      one_hop latency hop distance one = rw one (omega arith)

      many : (count : ℕ) → nat_le (suc (suc count)) 1 ≡ false
      many count = grind (arith, nat_tests)

-- the lookahead is the latency of neighbours, where there are any
pub lookahead_is : (machine : MachineParts) → lookahead_of machine ≡ cond (nat_le machine.nodes 1) machine.latency (machine.latency + machine.hop)
unfolding lookahead_of
lookahead_is machine = by_count machine machine.nodes

pub lookahead_alone : (machine : MachineParts) → machine.nodes ≤ 1 → lookahead_of machine ≡ machine.latency
lookahead_alone machine few =
    lookahead_is machine ∙ ap (λ alone. cond alone machine.latency (machine.latency + machine.hop)) (le-leb machine.nodes 1 few)

pub lookahead_among : (machine : MachineParts) → 1 < machine.nodes → lookahead_of machine ≡ machine.latency + machine.hop
lookahead_among machine some =
    lookahead_is machine ∙ ap (λ alone. cond alone machine.latency (machine.latency + machine.hop)) (several machine.nodes some)
  where
    several : (nodes : ℕ) → 1 < nodes → nat_le nodes 1 ≡ false
    several nodes some = grind (arith, nat_tests)

-- between the latency and one hop more
pub lookahead_within : (machine : MachineParts) → InRange machine.latency (machine.latency + machine.hop) (lookahead_of machine)
lookahead_within machine = by (cases_lt 1 machine.nodes)
  where
    by : (1 < machine.nodes) ⊎ (machine.nodes ≤ 1) → InRange machine.latency (machine.latency + machine.hop) (lookahead_of machine)
    by (inl some) = let is = lookahead_among machine some in record { at_least = omega arith; at_most = omega arith }
    by (inr few) = let is = lookahead_alone machine few in record { at_least = omega arith; at_most = omega arith }

-- the lookahead is no longer than any way between different nodes takes
pub no_nearer : (machine : MachineParts) (from to : ℕ) → from ≢ to → lookahead_of machine ≤ machine.latency + machine.hop * distance_of machine from to
no_nearer machine from to different =
    let within = (lookahead_within machine).at_most in
    let later = hops machine.latency machine.hop (distance_of machine from to) (apart machine from to different) in
    omega arith

-- no message to another node comes before the lookahead
pub none_before : (machine : MachineParts) (from to : ℕ) → from ≢ to → lookahead_of machine ≤ latency_of machine from to
none_before machine from to different = rw (differ from to different) (no_nearer machine from to different)
  where
    differ : (from to : ℕ) → from ≢ to → (from == to) ≡ false
    differ from to different = grind (arith, nat_tests, different)

-- every message takes a cycle or more
pub latency_positive : (machine : MachineParts) (from to : ℕ) → IsMachine machine → 1 ≤ latency_of machine from to
latency_positive machine from to is = by (from == to)
  where
    by : (same : Bool) → 1 ≤ cond same machine.self_latency (machine.latency + machine.hop * distance_of machine from to)
    by true = is.self_latency.at_least
    by false = let one = is.latency.at_least in omega arith
