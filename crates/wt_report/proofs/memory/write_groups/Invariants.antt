use Rattle.std.proofs.Common.{◌/◌, length, take, flat_map}
use Rattle.std.specs.List.{range_with_len}
use Rattle.wt_report.specs.Memory.{group_text_at}
use Rattle.wt_outside.proofs.WriteLemmas.{HasWritten}
use Rattle.wt_report.proofs.memory.write_groups.Given as goal

-- The lines of the groups so far are written.
abbrev pub invariant-loop-number : goal.invariant-loop-number
invariant-loop-number g l =
    HasWritten (flat_map (group_text_at l.memory l.address l.bytes) (take l.number (range_with_len 0 (length l.bytes / 16))))
    g.K.Sink.view l.fn.out l.out
