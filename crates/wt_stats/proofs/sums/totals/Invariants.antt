use Rattle.std.proofs.Common.{◌≡◌, take}
use Rattle.wt_stats.specs.Counts.{totals_of}
use Rattle.wt_stats.proofs.Small.{AreSmall}
use Rattle.wt_stats.proofs.sums.totals.Given as goal

-- The counters of the nodes so far are summed.
abbrev pub invariant-loop-counters : goal.invariant-loop-counters
invariant-loop-counters l = record {
  sums : l.totals ≡ totals_of (take l.counters-index l.list);
  small : AreSmall l.counters-index l.totals;
}
