use Rattle.std.proofs.Common.{arith, ◌∙◌}
use Rattle.coherence.specs.Copies.{reads, writes}
use Rattle.coherence.proofs.WhoHolds.{passed_with}
use Rattle.coherence.proofs.breaches.copies.Goals as goal

pub loop-station-preserved : goal.loop-station-preserved
loop-station-preserved c =
    let stations = c.args.stations.now in
    let i = c.loop-station.station-index in
    let station = c.station-item.result in
    record {
      writers = c.add.ensures.writers ∙ passed_with c.requires.machine stations c.requires.are (writes c.args.block) i station c.loop-station.copies.writers (omega arith) c.station-item.is c.loop-station.invariant.writers;
      readers = c.add.ensures.readers ∙ passed_with c.requires.machine stations c.requires.are (reads c.args.block) i station c.loop-station.copies.readers (omega arith) c.station-item.is c.loop-station.invariant.readers;
    }
