-- An access to memory at a time: private memory first, and shared memory where the address isn't private. An address that
-- isn't a multiple of the width stops the processor, and so does one that lies in no memory. Own.
use Rattle.std.specs.Prelude.{ℕ, ◌+◌, List, Result, Ok, Err}
use Rattle.wt_params.specs.declared.parts.MachineParts.{MachineParts}
use Rattle.wt_params.specs.Machine.{shared_block}
use Rattle.rv_decode.specs.declared.instr.LoadOp.{LoadOp}
use Rattle.rv_decode.specs.declared.instr.StoreOp.{StoreOp}
use Rattle.rv_exec.specs.Widths.{load_width_of, store_width_of, widened}
use Rattle.priv_mem.specs.declared.fault.MemFault.{MemFault}
use Rattle.priv_mem.specs.declared.fault.MemFault.TheVariants.{Misaligned, Outside}
use Rattle.priv_mem.specs.Memory.{load_of, store_of}
use Rattle.wt_proto.specs.declared.mode.Cause.TheVariants as causes
use Rattle.node.specs.declared.state.NodeState.{NodeState}
use Rattle.node.specs.Handled.{Handled, stopped, loaded_into, stored_at}
use Rattle.node.specs.SharedAccess.{stored_value, shared_load_of, shared_store_of}

-- what a load comes to, by what private memory answers
abbrev pub load_by : MachineParts → ℕ → LoadOp → ℕ → ℕ → NodeState → Result ℕ MemFault → Handled
load_by machine time op rd address node (Ok number) =
    loaded_into rd (widened op number) address (time + machine.costs.mem) node
load_by machine time op rd address node (Err Misaligned) = stopped (causes.Misaligned address) node
load_by machine time op rd address node (Err Outside) =
    shared_load_of machine time op rd address node (shared_block machine address)

unfoldable pub load_from : MachineParts → ℕ → LoadOp → ℕ → ℕ → NodeState → Handled
load_from machine time op rd address node =
    load_by machine time op rd address node (load_of node.private address (load_width_of op))

-- what a store comes to, by what private memory answers
abbrev pub store_by : MachineParts → ℕ → StoreOp → ℕ → ℕ → NodeState → Result (List ℕ) MemFault → Handled
store_by machine time op address value node (Ok memory) =
    stored_at address (store_width_of op) (stored_value op value) (time + machine.costs.mem)
    (record node { private = memory })
store_by machine time op address value node (Err Misaligned) = stopped (causes.Misaligned address) node
store_by machine time op address value node (Err Outside) =
    shared_store_of machine time op address value node (shared_block machine address)

unfoldable pub store_to : MachineParts → ℕ → StoreOp → ℕ → ℕ → NodeState → Handled
store_to machine time op address value node =
    store_by machine time op address value node (store_of node.private address (store_width_of op) value)
