use Rattle.std.proofs.Common.{◌≡◌, take, map}
use Rattle.std.specs.Prelude.{flat_map}
use Rattle.wt_trace.proofs.merged.all_records.Given as goal

abbrev pub invariant-loop-log : goal.invariant-loop-log
invariant-loop-log l = map (λ item. item.now) l.items.items ≡ flat_map (λ log. log) (take l.log-index l.logs)
