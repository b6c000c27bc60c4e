use Rattle.std.proofs.Common.{take}
use Rattle.core_steps.specs.Sent.{HasNone}
use Rattle.core_steps.proofs.sent.has_any.Given as goal

-- none so far is to the node
abbrev pub invariant-loop-place : goal.invariant-loop-place
invariant-loop-place l = HasNone l.to (take l.place l.list)
