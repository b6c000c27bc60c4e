use Rattle.std.proofs.Common.{◌≡◌, ◌/◌, length, take, flat_map}
use Rattle.std.specs.List.{range_with_len}
use Rattle.wt_listing.specs.Listing.{address_of, segment_line_of}
use Rattle.wt_outside.proofs.WriteLemmas.{HasWritten}
use Rattle.wt_listing.proofs.words.write_segment.Given as goal

-- The lines of the words so far are written, and the next one's address is known.
abbrev pub invariant-loop-number : goal.invariant-loop-number
invariant-loop-number g l = record {
  address : l.address ≡ address_of l.segment l.number;
  written : HasWritten (flat_map (segment_line_of l.segment) (take l.number (range_with_len 0 (length l.segment.bytes / 4))))
      g.K.Sink.view l.fn.out l.out;
}
