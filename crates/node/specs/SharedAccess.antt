-- An access to shared memory at a time, in the node's cache: a hit, a miss or an upgrade. Own, after the cached blocks of
-- the Wisconsin Wind Tunnel (Reinhardt and others, 1993).
use Rattle.std.specs.Prelude.{ℕ, ◌+◌, ◌%◌, ◌^◌, true, false, Bool, if◌then◌else◌, [], ◌∷◌, Option, Some, None}
use Rattle.wt_params.specs.declared.parts.MachineParts.{MachineParts}
use Rattle.rv_decode.specs.declared.instr.LoadOp.{LoadOp}
use Rattle.rv_decode.specs.declared.instr.StoreOp.{StoreOp}
use Rattle.rv_decode.specs.declared.instr.StoreOp.TheVariants.{Sb, Sh, Sw}
use Rattle.rv_exec.specs.Widths.{load_width_of, store_width_of, widened}
use Rattle.wt_proto.specs.declared.message.Body.TheVariants.{GetS, GetX}
use Rattle.wt_proto.specs.declared.mode.Cause.TheVariants as causes
use Rattle.wt_proto.specs.declared.mode.Mode.TheVariants.{Waiting}
use Rattle.block_tags.specs.declared.tag.Tag.{Tag}
use Rattle.block_tags.specs.declared.tag.Tag.TheVariants.{Invalid, ReadOnly, Writable}
use Rattle.target_cache.specs.Cached.{tag_of, read_of, write_of, drop_of}
use Rattle.node.specs.declared.state.NodeState.{NodeState}
use Rattle.node.specs.State.{in_mode, with_cache, one_hit, one_miss, one_upgrade}
use Rattle.node.specs.Handled.{Handled, quiet, sending, stopped, to_home, loaded_into, stored_at}

-- where an address lies in its block; shared memory begins at a multiple of every block's length
abbrev pub offset_of : MachineParts → ℕ → ℕ
offset_of machine address = address % machine.block_bytes

-- A miss asks the home for a copy, to read or to write, and the processor waits for it.
abbrev pub missed : MachineParts → ℕ → ℕ → Bool → NodeState → Handled
missed machine time block exclusive node =
    sending (to_home machine time block (if exclusive then GetX false else GetS) ∷ [])
    (quiet (in_mode (Waiting block exclusive) (one_miss node)))

-- An upgrade drops the copy to read, and asks for one to write.
abbrev pub upgraded : MachineParts → ℕ → ℕ → NodeState → Handled
upgraded machine time block node =
    sending (to_home machine time block (GetX true) ∷ [])
    (quiet (in_mode (Waiting block true) (one_upgrade (with_cache (drop_of block node.cache) node))))

-- A load is done at once where there is a copy.
abbrev pub hit_load_by : MachineParts → ℕ → LoadOp → ℕ → ℕ → ℕ → NodeState → Option ℕ → Handled
hit_load_by machine time op rd address block node (Some number) =
    loaded_into rd (widened op number) address (time + machine.costs.hit) (one_hit node)
hit_load_by machine time op rd address block node None = missed machine time block false node

abbrev pub shared_load_of : MachineParts → ℕ → LoadOp → ℕ → ℕ → NodeState → Option ℕ → Handled
shared_load_of machine time op rd address node (Some block) =
    hit_load_by machine time op rd address block node
    (read_of node.cache block (offset_of machine address) (load_width_of op))
shared_load_of machine time op rd address node None = stopped (causes.Address address) node

-- the low bytes that a store writes, as a number
abbrev pub stored_value : StoreOp → ℕ → ℕ
stored_value Sb value = value % 2 ^ 8
stored_value Sh value = value % 2 ^ 16
stored_value Sw value = value % 2 ^ 32

-- A store is done at once where there is a copy to write.
abbrev pub hit_store_by : MachineParts → ℕ → StoreOp → ℕ → ℕ → ℕ → NodeState → Tag → Handled
hit_store_by machine time op address value block node Writable =
    stored_at address (store_width_of op) (stored_value op value) (time + machine.costs.hit)
    (one_hit
    (with_cache (write_of block (offset_of machine address) (store_width_of op) value node.cache) node))
hit_store_by machine time op address value block node ReadOnly = upgraded machine time block node
hit_store_by machine time op address value block node Invalid = missed machine time block true node

abbrev pub shared_store_of : MachineParts → ℕ → StoreOp → ℕ → ℕ → NodeState → Option ℕ → Handled
shared_store_of machine time op address value node (Some block) =
    hit_store_by machine time op address value block node (tag_of node.cache block)
shared_store_of machine time op address value node None = stopped (causes.Address address) node
