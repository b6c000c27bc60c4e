use Rattle.std.proofs.Common.{◌≡◌, ◌++◌, take, flat_map}
use Rattle.std.specs.List.{range_with_len}
use Rattle.wt_report.specs.Memory.{register_text}
use Rattle.wt_report.proofs.memory.registers.Given as goal

-- The registers so far are added.
abbrev pub invariant-loop-r : goal.invariant-loop-r
invariant-loop-r l = l.line ≡ l.fn.line ++ flat_map (register_text l.node.state) (take l.r (range_with_len 0 32))
