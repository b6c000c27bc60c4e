use Rattle.std.proofs.Common.{take, flat_map}
use Rattle.wt_listing.specs.Listing.{segment_text}
use Rattle.wt_outside.proofs.WriteLemmas.{HasWritten}
use Rattle.wt_listing.proofs.words.write_segments.Given as goal

-- The words of the segments so far are written.
abbrev pub invariant-loop-segment : goal.invariant-loop-segment
invariant-loop-segment g l =
    HasWritten (flat_map segment_text (take l.segment-index l.segments)) g.K.Sink.view l.fn.out l.out
