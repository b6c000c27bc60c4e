use Rattle.std.proofs.Common.{◌<◌, length, arith}
use Rattle.core_steps.proofs.Deliveries.{one_given}
use Rattle.core_steps.proofs.delivery.deliver.Goals as goal

pub loop-place-preserved : goal.loop-place-preserved
loop-place-preserved g c =
    let so_far = c.loop-place.invariant in
    let there : c.loop-place.place < length c.loop-place.stations = (let n = so_far.count in omega arith) in
    let also : c.loop-place.place < length c.loop-place.inboxes = (let n = so_far.count in let m = so_far.boxes in let s = c.requires.sizes in omega arith) in
    let next = one_given c.args.inboxes.now c.args.stations.now c.loop-place.place c.loop-place.inboxes c.loop-place.stations
    (record { count = so_far.count; boxes_count = so_far.boxes; done = so_far.done; left = so_far.left; none = so_far.none; boxes_left = so_far.boxes_left; good = so_far.good })
    there also c.give.new.station c.index-stations-place.result c.give.new.inbox c.index-inboxes-place.result
    c.in_ok-give.ensures.given c.in_ok-give.ensures.none_left c.in_ok-give.ensures.good
    in
    record { count = next.count; boxes = next.boxes_count; done = next.done; left = next.left; none = next.none; boxes_left = next.boxes_left; good = next.good }
