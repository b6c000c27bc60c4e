use Rattle.std.proofs.Common.{◌≡◌, ◌-◌, ◌++◌, length, take}
use Rattle.std.specs.Prelude.{flat_map}
use Rattle.wt_trace.specs.EventLine.{send_text}
use Rattle.wt_trace.proofs.event_line.sends.Given as goal

abbrev pub invariant-loop-item : goal.invariant-loop-item
invariant-loop-item l = l.line ≡ l.fn.line ++ flat_map (send_text l.machine) (take l.i l.list)

abbrev pub decreases-loop-item : goal.decreases-loop-item
decreases-loop-item l = length l.list - l.i
