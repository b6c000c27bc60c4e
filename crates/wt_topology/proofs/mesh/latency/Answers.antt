use Rattle.std.proofs.Common.{◌≡◌, ◌≢◌, ◌==◌, ℕ, ◌+◌, ◌*◌, ◌≤◌, false, arith, sym, ◌∙◌}
use Rattle.std.proofs.Math.Nat.{mul-le-mul}
use Rattle.std.proofs.lemmas.Bool.Decides.{nat_tests}
use Rattle.wt_params.specs.Mesh.{distance_of}
use Rattle.wt_params.proofs.MeshLaws.{no_nearer}
use Rattle.wt_topology.proofs.mesh.latency.Goals as goal

steps : (hop distance : ℕ) → hop ≤ 100 → distance ≤ 510 → hop * distance ≤ 51000
steps hop distance few near = mul-le-mul few near

no_steps : (hop distance latency : ℕ) → hop ≡ 0 → latency ≡ latency + hop * distance
no_steps hop distance latency none = rw none (omega arith)

apart : (from to : ℕ) → from ≢ to → (from == to) ≡ false
apart from to different = grind (arith, nat_tests)

pub overflow_mul-result : goal.overflow_mul-result
overflow_mul-result c =
    let few = steps c.hop-hop.result c.distance.result (omega arith) (omega arith) in
    omega arith

pub overflow_add-result : goal.overflow_add-result
overflow_add-result c =
    let few = steps c.hop-hop.result c.distance.result (omega arith) (omega arith) in
    omega arith

pub returns-then-hop-eq0-clause-value : goal.returns-then-hop-eq0-clause-value
returns-then-hop-eq0-clause-value c =
    let none = no_steps c.args.machine.now.hop (distance_of c.args.machine.now c.args.from c.args.to) c.args.machine.now.latency (sym c.hop-hop.ensures.value ∙ c.if-hop-eq0.true) in
    rw (apart c.args.from c.args.to c.if-from-to.false) (c.latency.ensures.value ∙ none)

pub returns-then-hop-eq0-clause-another : goal.returns-then-hop-eq0-clause-another
returns-then-hop-eq0-clause-another c different =
    let nearest = no_nearer c.args.machine.now c.args.from c.args.to different in
    let none = no_steps c.args.machine.now.hop (distance_of c.args.machine.now c.args.from c.args.to) c.args.machine.now.latency (sym c.hop-hop.ensures.value ∙ c.if-hop-eq0.true) in
    omega (arith, nearest, none, c.latency.ensures.value)

pub returns-clause-another : goal.returns-clause-another
returns-clause-another c different =
    let nearest = no_nearer c.args.machine.now c.args.from c.args.to different in
    rw (c.latency-2.ensures.value, c.hop-hop.ensures.value, c.distance.ensures.value) nearest

pub returns-clause-range : goal.returns-clause-range
returns-clause-range c =
    let few = steps c.hop-hop.result c.distance.result (omega arith) (omega arith) in
    record { at_least = omega arith; at_most = omega arith }
