use Rattle.std.proofs.Common.{◌<◌, length, arith}
use Rattle.std.specs.List.{enumerate_from}
use Rattle.std.proofs.lemmas.List.FromFn.{length-enumerate_from}
use Rattle.wt_listing.specs.Listing.{image_line_of}
use Rattle.wt_listing.proofs.TextLemmas.{numbered_at}
use Rattle.wt_outside.proofs.WriteLemmas.{writes_all, writes_handed_on, writes_until, written_more}
use Rattle.wt_listing.proofs.machine.write_images.Goals as goal

pub returns-in_err-write_image : goal.returns-in_err-write_image
returns-in_err-write_image g c =
    let images = c.args.images.now in
    let i = c.loop-number.number in
    let image = c.index-images-number.result in
    let within : i < length images = omega arith in
    writes_handed_on c.from_residual.result c.from_residual.ensures.1
    (writes_until image_line_of (enumerate_from 0 images) i (i, image) (omega (arith, length-enumerate_from 0 images))
    (numbered_at images i image within c.index-images-number.is) c.loop-number.invariant c.in_err-write_image.ensures)

pub loop-number-preserved : goal.loop-number-preserved
loop-number-preserved g c =
    let images = c.args.images.now in
    let i = c.loop-number.number in
    let image = c.index-images-number.result in
    let within : i < length images = omega arith in
    written_more image_line_of (enumerate_from 0 images) i (i, image) (omega (arith, length-enumerate_from 0 images))
    (numbered_at images i image within c.index-images-number.is) c.loop-number.invariant c.in_ok-write_image.ensures

pub returns : goal.returns
returns g c =
    let images = c.args.images.now in
    writes_all image_line_of (enumerate_from 0 images) c.loop-number.number
    (omega (arith, length-enumerate_from 0 images)) c.loop-number.invariant
