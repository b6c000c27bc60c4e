use Rattle.std.proofs.Common.{take}
use Rattle.core_steps.specs.Steps.{HaveStepped}
use Rattle.core_steps.proofs.interleaved.replay.Given as goal

-- the steps so far were done
abbrev pub invariant-loop-step : goal.invariant-loop-step
invariant-loop-step l = HaveStepped l.fn.core (take l.step-index l.fn.steps) l.core
