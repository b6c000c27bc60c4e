use Rattle.std.proofs.Common.{◌<◌, sym, arith}
use Rattle.std.specs.List.{range_with_len}
use Rattle.std.proofs.lemmas.List.FromFn.{length-range_with_len, get_or-range_with_len}
use Rattle.wt_report.specs.Stations.{nodes_of}
use Rattle.coherence.specs.Copies.{twos_of}
use Rattle.coherence.proofs.Firsts.{first_made, flat_none_more, none_made}
use Rattle.coherence.proofs.breaches.first_two.Goals as goal

pub returns-in-Some : goal.returns-in-Some
returns-in-Some c =
    let n = c.args.machine.now.blocks in
    let i = c.loop-block.block in
    let within : i < n = omega arith in
    sym (first_made (twos_of (nodes_of c.args.stations.now)) (range_with_len 0 n) i i c.in-Some.breach (omega (arith, length-range_with_len 0 n))
    (let at = get_or-range_with_len 0 n i i within in omega (arith, at)) c.loop-block.invariant (sym c.in-Some.ensures))

pub loop-block-preserved : goal.loop-block-preserved
loop-block-preserved c =
    let n = c.args.machine.now.blocks in
    let i = c.loop-block.block in
    let within : i < n = omega arith in
    flat_none_more (twos_of (nodes_of c.args.stations.now)) (range_with_len 0 n) i i (omega (arith, length-range_with_len 0 n))
    (let at = get_or-range_with_len 0 n i i within in omega (arith, at)) c.loop-block.invariant (sym c.in_default.ensures)

pub returns : goal.returns
returns c =
    let n = c.args.machine.now.blocks in
    sym (none_made (twos_of (nodes_of c.args.stations.now)) (range_with_len 0 n) c.loop-block.block (omega (arith, length-range_with_len 0 n)) c.loop-block.invariant)
