use Rattle.std.proofs.Common.{◌≡◌, ℕ, ◌-◌, ◌^◌, ◌<◌, min, arith, rules}
use Rattle.std.specs.Prelude.{nat_le}
use Rattle.std.proofs.lemmas.Bool.Decides.{nat_tests}
use Rattle.wt_params.specs.Mesh.{lookahead_of}
use Rattle.wt_params.proofs.parts.MachineParts.is_in_range.Goals as goal

-- a number of 64 bits is no greater than a bound exactly where it is no greater than what 64 bits hold of the bound
kept : (value bound : ℕ) → value < 2 ^ 64 → nat_le value (min bound (2 ^ 64 - 1)) ≡ nat_le value bound
kept value bound fits = grind (arith, nat_tests)

pub returns-in-Quantum : goal.returns-in-Quantum
returns-in-Quantum c =
    let is = rw c.in-Quantum.is at c.number-value.ensures in
    let same = kept c.args.self.now.quantum (lookahead_of c.args.self.now) (omega arith) in
    rw (c.in-Quantum.is, ← same) (search rules)
