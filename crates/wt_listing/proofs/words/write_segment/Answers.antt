use Rattle.std.proofs.Common.{◌≡◌, ℕ, ◌/◌, ◌<◌, List, Ok, Err, length, refl, arith, ap, ◌∙◌}
use Rattle.std.specs.List.{range_with_len}
use Rattle.std.proofs.lemmas.List.FromFn.{length-range_with_len}
use Rattle.elf_image.specs.declared.image.Segment.{Segment}
use Rattle.wt_listing.specs.Listing.{address_of, segment_line_of, word_line_of, word_of}
use Rattle.wt_listing.proofs.TextLemmas.{number_at, address_more}
use Rattle.wt_outside.proofs.WriteLemmas.{writes_all, writes_handed_on, writes_same, writes_until, written_more}
use Rattle.wt_listing.proofs.words.write_segment.Goals as goal

-- the line of an address and a word that are those of a segment
line_at : (segment : Segment) (i address word : ℕ) (bytes : List ℕ) → bytes ≡ segment.bytes → address ≡ address_of segment i → word ≡ word_of bytes i → word_line_of address word ≡ segment_line_of segment i
line_at segment i address word bytes own there value =
    let same : word ≡ word_of segment.bytes i = value ∙ ap (λ list. word_of list i) own in
    λ j. word_line_of (there j) (same j)

pub returns-in_err-write_word : goal.returns-in_err-write_word
returns-in_err-write_word g c =
    let segment = c.args.segment.now in
    let n = length segment.bytes / 4 in
    let i = c.loop-number.number in
    let count : length c.get-bytes.result.now / 4 ≡ n = ap (λ bytes. length bytes / 4) c.get-bytes.ensures in
    let within : i < n = omega arith in
    let line = line_at segment i c.loop-number.address c.word.result c.get-bytes.result.now c.get-bytes.ensures c.loop-number.invariant.address c.word.ensures in
    writes_handed_on c.from_residual.result c.from_residual.ensures.1
    (writes_until (segment_line_of segment) (range_with_len 0 n) i i (omega (arith, length-range_with_len 0 n))
    (number_at n i within) c.loop-number.invariant.written (writes_same (Err c.in_err-write_word.field-0.0) line c.in_err-write_word.ensures))

pub loop-number-preserved : goal.loop-number-preserved
loop-number-preserved g c =
    let segment = c.args.segment.now in
    let n = length segment.bytes / 4 in
    let i = c.loop-number.number in
    let count : length c.get-bytes.result.now / 4 ≡ n = ap (λ bytes. length bytes / 4) c.get-bytes.ensures in
    let within : i < n = omega arith in
    let line = line_at segment i c.loop-number.address c.word.result c.get-bytes.result.now c.get-bytes.ensures c.loop-number.invariant.address c.word.ensures in
    record {
      address = address_more segment.at i c.loop-number.address _ c.loop-number.invariant.address refl;
      written = written_more (segment_line_of segment) (range_with_len 0 n) i i (omega (arith, length-range_with_len 0 n))
          (number_at n i within) c.loop-number.invariant.written (writes_same (Ok c.in_ok-write_word.field-0) line c.in_ok-write_word.ensures);
    }

pub returns : goal.returns
returns g c =
    let segment = c.args.segment.now in
    let n = length segment.bytes / 4 in
    let count : length c.get-bytes.result.now / 4 ≡ n = ap (λ bytes. length bytes / 4) c.get-bytes.ensures in
    writes_all (segment_line_of segment) (range_with_len 0 n) c.loop-number.number
    (omega (arith, length-range_with_len 0 n)) c.loop-number.invariant.written
