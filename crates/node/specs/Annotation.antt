-- A check-out or a check-in at a time. The address may be any; outside shared memory nothing is done. Own, after
-- Cooperative Shared Memory (Hill, Larus, Reinhardt, Wood, 1993).
use Rattle.std.specs.Prelude.{ℕ, ◌+◌, true, false, Option, Some, None}
use Rattle.wt_params.specs.declared.parts.MachineParts.{MachineParts}
use Rattle.wt_params.specs.Machine.{shared_block}
use Rattle.rv_decode.specs.declared.instr.CicoOp.{CicoOp}
use Rattle.rv_exec.specs.Meaning.{address_after}
use Rattle.cico_ops.specs.declared.annotation.CicoAction.{CicoAction}
use Rattle.cico_ops.specs.declared.annotation.CicoAction.TheVariants.{Nothing, GetS, GetX, PutS, PutX}
use Rattle.cico_ops.specs.Annotations.{action_of}
use Rattle.target_cache.specs.Cached.{tag_of, line_of, drop_of}
use Rattle.node.specs.declared.state.NodeState.{NodeState}
use Rattle.node.specs.State.{with_cache, one_checkin}
use Rattle.node.specs.Handled.{Handled, quiet, sending, moved_on, gives_back}
use Rattle.node.specs.SharedAccess.{missed, upgraded}

-- what doesn't wait goes on
abbrev pub annotated : MachineParts → ℕ → NodeState → NodeState
annotated machine time node = moved_on (address_after node.pc) (time + machine.costs.cico) node

-- A check-in drops the copy and gives it back.
abbrev pub checked_in : MachineParts → ℕ → ℕ → NodeState → Handled
checked_in machine time block node =
    sending (gives_back machine time (line_of node.cache block))
    (quiet (annotated machine time (one_checkin (with_cache (drop_of block node.cache) node))))

abbrev pub annotate_by : MachineParts → ℕ → ℕ → NodeState → CicoAction → Handled
annotate_by machine time block node Nothing = quiet (annotated machine time node)
annotate_by machine time block node GetS = missed machine time block false node
annotate_by machine time block node (GetX false) = missed machine time block true node
annotate_by machine time block node (GetX true) = upgraded machine time block node
annotate_by machine time block node PutS = checked_in machine time block node
annotate_by machine time block node PutX = checked_in machine time block node

abbrev pub annotate_block : MachineParts → ℕ → CicoOp → NodeState → Option ℕ → Handled
annotate_block machine time op node (Some block) =
    annotate_by machine time block node (action_of op (tag_of node.cache block))
annotate_block machine time op node None = quiet (annotated machine time node)

unfoldable pub annotate_of : MachineParts → ℕ → CicoOp → ℕ → NodeState → Handled
annotate_of machine time op address node = annotate_block machine time op node (shared_block machine address)
