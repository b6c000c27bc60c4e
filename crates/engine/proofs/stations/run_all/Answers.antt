use Rattle.std.proofs.Common.{◌<◌, length, add-one, arith}
use Rattle.std.proofs.lemmas.List.Elements.{AllWithin-more_set}
use Rattle.engine.specs.Quantum.{IsGood}
use Rattle.engine.proofs.Runs.{run_one_more}
use Rattle.engine.proofs.stations.run_all.Goals as goal

pub loop-station-preserved : goal.loop-station-preserved
loop-station-preserved g c =
    let i = c.loop-station.station-index in
    let so_far = c.loop-station.invariant in
    let ran = c.in_ok-run_into.ensures in
    let below : i < length c.args.stations.now = omega arith in
    let here : i < length c.loop-station.stations = omega arith in
    let more = run_one_more c.args.until c.args.stations.now c.loop-station.stations c.loop-station.letters c.run_into.new.outs i c.station-item.result c.run_into.new.self ran.outs.outs below
    so_far.ran so_far.outs ran.ran ran.machine ran.live.1 ran.live.2 ran.outs.handed ran.outs.added in
    rw add-one (record { ran = more.ran; outs = more.outs; good = rw (← add-one) (AllWithin-more_set c.loop-station.stations i c.run_into.new.self here IsGood so_far.good (record { whole = ran.live.1; live = ran.live.2 })) })
