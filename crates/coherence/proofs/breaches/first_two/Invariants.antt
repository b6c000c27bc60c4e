use Rattle.std.proofs.Common.{◌≡◌, [], take, flat_map}
use Rattle.std.specs.List.{range_with_len}
use Rattle.wt_report.specs.Stations.{nodes_of}
use Rattle.coherence.specs.Copies.{twos_of}
use Rattle.coherence.proofs.breaches.first_two.Given as goal

-- None of the blocks so far has a writer beside another node.
abbrev pub invariant-loop-block : goal.invariant-loop-block
invariant-loop-block l = flat_map (twos_of (nodes_of l.stations)) (take l.block (range_with_len 0 l.machine.blocks)) ≡ []
