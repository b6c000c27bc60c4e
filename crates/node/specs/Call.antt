-- An environment call at a time: x17 has its number, x10 and x11 its arguments and results. Own.
use Rattle.std.specs.Prelude.{ℕ, ◌+◌, ◌/◌, ◌%◌, ◌^◌, ◌==◌, [], ◌∷◌, ◌++◌, if◌then◌else◌}
use Rattle.wt_params.specs.declared.parts.MachineParts.{MachineParts}
use Rattle.rv_exec.specs.Meaning.{address_after}
use Rattle.wt_proto.specs.declared.message.Body.TheVariants.{Arrive, Leave}
use Rattle.wt_proto.specs.declared.mode.Cause.TheVariants.{Exit, Call}
use Rattle.wt_proto.specs.declared.mode.Mode.TheVariants.{InBarrier}
use Rattle.node.specs.declared.state.NodeState.{NodeState}
use Rattle.node.specs.State.{in_mode, register, with_register, one_done}
use Rattle.node.specs.Handled.{Handled, quiet, sending, stopped, moved_on, message_to}

-- The barrier unit is at node 0; a node alone has none.
abbrev pub barrier_call_of : MachineParts → ℕ → NodeState → Handled
barrier_call_of machine time node =
    if machine.nodes == 1 then quiet (moved_on (address_after node.pc) (time + machine.costs.call) node)
    else sending (message_to time 0 0 Arrive ∷ []) (quiet (in_mode InBarrier node))

-- An exit is done as any instruction that finishes, and the others at the barrier are told.
abbrev pub exit_of : MachineParts → ℕ → ℕ → NodeState → Handled
exit_of machine time code node =
    if machine.nodes == 1 then stopped (Exit code) (one_done node)
    else sending (message_to time 0 0 Leave ∷ []) (stopped (Exit code) (one_done node))

unfoldable pub call_of : MachineParts → ℕ → NodeState → Handled
call_of machine time node =
    let call = register node 17 in
    let argument = register node 10 in
    let next = address_after node.pc in
    let ready = time + machine.costs.call in
    if call == 1 then
    quiet (moved_on next ready (record node { output = node.output ++ (argument % 0x100) ∷ [] }))
    else if call == 2 then quiet (moved_on next ready (with_register node 10 node.number))
    else if call == 3 then quiet (moved_on next ready (with_register node 10 machine.nodes))
    else if call == 4 then
    quiet (moved_on next ready
    (with_register (with_register node 10 (time % 2 ^ 32)) 11 (time / 2 ^ 32 % 2 ^ 32)))
    else if call == 5 then barrier_call_of machine time node
    else if call == 93 then exit_of machine time argument node
    else stopped (Call call) node
