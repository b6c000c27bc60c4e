-- When messages arrive. Own.
use Rattle.std.specs.Prelude.{ℕ, ◌+◌}
use Rattle.wt_params.specs.declared.parts.MachineParts.{MachineParts}
use Rattle.wt_params.specs.Mesh.{latency_of}

-- when a message arrives that is sent at a time
abbrev pub stamp_of : MachineParts → ℕ → ℕ → ℕ → ℕ
stamp_of machine from to sent_at = sent_at + latency_of machine from to
