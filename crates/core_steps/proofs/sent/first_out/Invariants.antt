use Rattle.std.proofs.Common.{◌<◌, ℕ, [], get_or}
use Rattle.core_steps.specs.Sent.{HaveNone}
use Rattle.core_steps.proofs.sent.first_out.Given as goal

-- nothing is left of the sources so far
abbrev pub invariant-loop-from : goal.invariant-loop-from
invariant-loop-from l = (one : ℕ) → one < l.from → HaveNone l.count (get_or l.outs one [])
