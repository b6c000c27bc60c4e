use Rattle.std.proofs.Common.{arith}
use Rattle.wt_listing.specs.Listing.{segment_text}
use Rattle.wt_outside.proofs.WriteLemmas.{writes_all, writes_handed_on, writes_until}
use Rattle.wt_listing.proofs.words.write_segments.Goals as goal

pub returns-in_err-write_segment : goal.returns-in_err-write_segment
returns-in_err-write_segment g c =
    writes_handed_on c.from_residual.result c.from_residual.ensures.1
    (writes_until segment_text c.args.segments.now c.loop-segment.segment-index c.segment-item.result (omega arith) c.segment-item.is
    c.loop-segment.invariant c.in_err-write_segment.ensures)

pub returns : goal.returns
returns g c =
    writes_all segment_text c.args.segments.now c.loop-segment.segment-index (omega arith) c.loop-segment.invariant
