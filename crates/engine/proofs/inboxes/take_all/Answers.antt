use Rattle.std.proofs.Common.{◌≡◌, ◌<◌, length, ◌∙◌, add-one, arith}
use Rattle.std.proofs.lemmas.List.{length-set}
use Rattle.engine.proofs.Taking.{one_more_taken, others_left}
use Rattle.engine.proofs.inboxes.take_all.Goals as goal

pub loop-place-preserved : goal.loop-place-preserved
loop-place-preserved g c =
    let i = c.loop-place.place in
    let so_far = c.loop-place.invariant in
    let ps = c.args.passes.now in
    let ss = c.args.stations.now in
    let a = so_far.passes_count in
    let b = so_far.count in
    let n = c.requires.may.count in
    let below : i < length ps = omega arith in
    rw add-one (record {
      passes_count = length-set c.loop-place.passes i c.take.new.pass ∙ a;
      count = length-set c.loop-place.stations i c.take.new.station ∙ b;
      done = one_more_taken i ps c.loop-place.passes ss c.loop-place.stations c.index-passes-place.result c.take.new.pass c.index-stations-place.result c.take.new.station a b n below so_far.done so_far.left c.in_ok-take.ensures;
      left = others_left i ps c.loop-place.passes ss c.loop-place.stations c.take.new.pass c.take.new.station so_far.left;
    })
