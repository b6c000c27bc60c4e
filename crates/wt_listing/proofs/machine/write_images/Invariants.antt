use Rattle.std.proofs.Common.{take, flat_map}
use Rattle.std.specs.List.{enumerate_from}
use Rattle.wt_listing.specs.Listing.{image_line_of}
use Rattle.wt_outside.proofs.WriteLemmas.{HasWritten}
use Rattle.wt_listing.proofs.machine.write_images.Given as goal

-- The lines of the images so far are written.
abbrev pub invariant-loop-number : goal.invariant-loop-number
invariant-loop-number g l =
    HasWritten (flat_map image_line_of (take l.number (enumerate_from 0 l.images))) g.K.Sink.view l.fn.out l.out
