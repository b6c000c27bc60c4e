use Rattle.std.proofs.Common.{◌-◌}
use Rattle.engine.proofs.parts.+fn-run_parts-join_mut+arg2+fn-run_parts-join_mut+arg3+run_parts.Given as goal

abbrev pub decreases-join_mut+arg2 : goal.decreases-join_mut+arg2
decreases-join_mut+arg2 g l = l.left

abbrev pub decreases-join_mut+arg3 : goal.decreases-join_mut+arg3
decreases-join_mut+arg3 g l = l.parts - l.left

abbrev pub decreases-run_parts : goal.decreases-run_parts
decreases-run_parts g l = l.parts
