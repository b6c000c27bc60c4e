-- A message to a node's directory, and the trap that it may bring. Own, after Dir1SW.
use Rattle.std.specs.Prelude.{ℕ, ◌+◌, ◌==◌, List, ◌++◌, map, Some, if◌then◌else◌}
use Rattle.wt_params.specs.declared.parts.MachineParts.{MachineParts}
use Rattle.wt_params.specs.Machine.{home_of}
use Rattle.wt_proto.specs.declared.directory.TrapPlan.{TrapPlan}
use Rattle.wt_proto.specs.declared.message.Msg.{Msg}
use Rattle.dir1sw.specs.declared.home.DirAct.{DirAct}
use Rattle.dir1sw.specs.declared.home.DirAct.TheVariants.{Done, Trap, Stray}
use Rattle.dir1sw.specs.Homes.{with_block, row_of}
use Rattle.dir1sw.specs.Table.{Row}
use Rattle.trap_handler.specs.Trap.{targets_of, invalidation, trap_cycles_of, busy_after}
use Rattle.node.specs.declared.state.NodeState.{NodeState}
use Rattle.node.specs.declared.state.Send.{Send}
use Rattle.node.specs.State.{one_stray}
use Rattle.node.specs.Handled.{Handled, quiet, sending, sent_at}

-- the messages that a trap sends
abbrev pub trap_sends : MachineParts → ℕ → TrapPlan → List Send
trap_sends machine busy plan =
    map (sent_at busy) (map (invalidation plan.block) (targets_of machine.nodes plan.targets))

-- a node with one more trap, which keeps it busy
abbrev pub trapped : MachineParts → ℕ → TrapPlan → NodeState → NodeState
trapped machine time plan node = record node {
  busy = busy_after machine plan time node.busy;
  counters = record (node.counters) {
    traps = node.counters.traps + 1;
    trap_cycles = node.counters.trap_cycles + trap_cycles_of machine plan;
  };
}

abbrev pub trap_of : MachineParts → ℕ → TrapPlan → List Send → NodeState → Handled
trap_of machine time plan sends node =
    record (quiet (trapped machine time plan node)) {
      sends = sends ++ trap_sends machine (busy_after machine plan time node.busy) plan;
      trap = Some (trap_cycles_of machine plan);
    }

-- what the row of the directory's tables leaves to do
abbrev pub act_by : MachineParts → ℕ → List Send → NodeState → DirAct → Handled
act_by machine time sends node Done = sending sends (quiet node)
act_by machine time sends node Stray = sending sends (quiet (one_stray node))
act_by machine time sends node (Trap plan) = trap_of machine time plan sends node

-- what is kept of a block is as the row says, its messages leave at once
abbrev pub row_handled : MachineParts → ℕ → ℕ → Row → NodeState → Handled
row_handled machine time block row node =
    act_by machine time (map (sent_at time) row.sends)
    (record node { directory = with_block block row.home node.directory }) row.act

-- At another node than the block's home it is stray.
unfoldable pub directory_message_of : MachineParts → ℕ → ℕ → Msg → NodeState → Handled
directory_message_of machine time from msg node =
    if home_of machine msg.block == node.number
    then row_handled machine time msg.block (row_of node.directory from msg) node
    else quiet (one_stray node)
