-- What follows for a count of faults over parts of the time.
use Rattle.std.specs.Prelude.{◌≡◌, ℕ, ◌<◌, ◌≤◌}
use Rattle.std.proofs.Common.{arith}
use Rattle.wt_outside.specs.Faults.{last_count, Rose, Stood}

-- what rose in a part of the time rose in all of it
pub rose_later : (a b c : ℕ) → a ≤ b → Rose b c → Rose a c
rose_later a b c later rose = omega arith

pub rose_sooner : (a b c : ℕ) → Rose a b → b ≤ c → Rose a c
rose_sooner a b c rose later = omega arith

-- what stood all the time stood in each part of it
pub stood_sooner : (a b c : ℕ) → Stood a c → b ≤ c → Stood a b
stood_sooner a b c stood later = omega arith

pub stood_later : (a b c : ℕ) → Stood a c → a ≤ b → Stood b c
stood_later a b c stood later = omega arith

-- a count that never falls and stood is the same, and below its end
pub stood_same : (a b : ℕ) → Stood a b → a ≤ b → (b ≡ a) × (a < last_count)
stood_same a b stood later = (omega arith, omega arith)

pub not_both : (a b : ℕ) → Rose a b → Stood a b → ⊥
not_both a b rose stood = omega arith
