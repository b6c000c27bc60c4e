use Rattle.std.proofs.Common.{◌≡◌, ◌++◌}
use Rattle.std.specs.Iterator.Adapters.{zip_first, zip_second}
use Rattle.std.specs.Slice.Iter.{iter_rest}
use Rattle.wt_report.proofs.CountLemmas.{counts_left}
use Rattle.wt_report.proofs.total.counts.Given as goal

-- The counters so far are added, and the others are left.
abbrev pub invariant-loop-name : goal.invariant-loop-name
invariant-loop-name l =
    l.fn.line ++ counts_left l.names l.values
    ≡ l.line ++ counts_left (iter_rest (zip_first l.name-iterator)) (iter_rest (zip_second l.name-iterator))
