-- When one key is below another. Lemmas, for the laws of a simulation.
use Rattle.std.proofs.Common.{◌≡◌, ℕ, ◌<◌, ◌≤◌, refl, sym, arith}
use Rattle.std.proofs.lemmas.Bool.Decides.{nat_tests}
use Rattle.std.specs.declared.cmp.Ordering.{Ordering}
use Rattle.std.specs.declared.cmp.Ordering.TheVariants.{Less, Equal, Greater}
use Rattle.std.specs.Ordering.{nat_cmp, ordering_then}
use Rattle.std.specs.Cmp.{ranked}
use Rattle.wt_proto.specs.declared.key.Key.{Key}
use Rattle.wt_proto.specs.KeyOrder.{key_cmp}
use Rattle.discrete_events.specs.Simulation.{Simulation, step_key}

first_less : (r s : Ordering) → r ≡ Less → ordering_then r s ≡ Less
first_less Less s e = refl
first_less Equal s e = cc
first_less Greater s e = cc

num_less : (a b : ℕ) → a < b → nat_cmp a b ≡ Less
num_less a b h = grind (arith, nat_tests)

num_equal : (a : ℕ) → nat_cmp a a ≡ Equal
num_equal a = grind (arith, nat_tests)

pub earlier_less : (a b : Key) → a.time < b.time → key_cmp a b ≡ Less
earlier_less a b h = first_less _ _ (num_less a.time b.time h)

then_less : (a b : ℕ) (r : Ordering) → a ≤ b → (a ≡ b → r ≡ Less) → ordering_then (nat_cmp a b) r ≡ Less
then_less a b r h same = by (nat_cmp a b) refl
  where
    by : (t : Ordering) → nat_cmp a b ≡ t → ordering_then t r ≡ Less
    by Less e = refl
    by Equal e = same (ranked a b Equal (sym e))
    by Greater e = absurd (let n : b < a = ranked a b Greater (sym e) in omega arith)

-- A message to a node comes before the node's step of the same time.
pub before_step : {S X : Type 0} (sim : Simulation S X) (node : S) (key : Key) (time : ℕ) → key.time ≤ time → key.to ≡ sim.number node → key.from < sim.nodes → key_cmp key (step_key sim node time) ≡ Less
before_step sim node key time early to from =
    then_less key.time time _ early (λ t. then_less key.to (sim.number node) _ (omega (arith, to)) (λ e. first_less _ _ (num_less key.from sim.nodes from)))
