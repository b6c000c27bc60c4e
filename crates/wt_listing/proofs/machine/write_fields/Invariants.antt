use Rattle.std.proofs.Common.{take, flat_map}
use Rattle.wt_listing.specs.Listing.{line_in}
use Rattle.wt_outside.proofs.WriteLemmas.{HasWritten}
use Rattle.wt_listing.proofs.machine.write_fields.Given as goal

-- The lines of the fields so far are written.
abbrev pub invariant-loop-field : goal.invariant-loop-field
invariant-loop-field g l =
    HasWritten (flat_map (line_in l.version l.machine) (take l.field-index l.fields)) g.K.Sink.view l.fn.out l.out
