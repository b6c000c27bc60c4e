-- DataS or DataX comes, with a copy of a block to read or to write. Own.
use Rattle.std.specs.Prelude.{ℕ, ◌+◌, ◌==◌, ◌&&◌, Bool, true, false, not, [], ◌∷◌, Option, Some, None, option_map, unwrap_or, if◌then◌else◌}
use Rattle.wt_params.specs.declared.parts.MachineParts.{MachineParts}
use Rattle.rv_exec.specs.declared.effect.Effect.{Effect}
use Rattle.rv_exec.specs.declared.effect.Effect.TheVariants.{Load, Store}
use Rattle.rv_exec.specs.Meaning.{address_after}
use Rattle.rv_exec.specs.Widths.{load_width_of, store_width_of, widened}
use Rattle.wt_proto.specs.declared.mode.Mode.{Mode}
use Rattle.wt_proto.specs.declared.mode.Mode.TheVariants.{Running, Waiting}
use Rattle.target_cache.specs.declared.line.Line.{Line}
use Rattle.target_cache.specs.Cached.{read_of, write_of, replaced_of, install_of}
use Rattle.node.specs.declared.state.NodeState.{NodeState}
use Rattle.node.specs.State.{in_mode, with_cache, one_replaced, one_stray}
use Rattle.node.specs.Handled.{Handled, quiet, sending, moved_on, loaded_into, stored_at, give_back_of, gives_back}
use Rattle.node.specs.SharedAccess.{offset_of, stored_value}
use Rattle.node.specs.Processor.{fetch_of, meaning_in}

-- whether a processor in this mode waits for a copy of this block, of this kind
abbrev pub asks_for : Mode → ℕ → Bool → Bool
asks_for (Waiting wanted true) block exclusive = (wanted == block) && exclusive
asks_for (Waiting wanted false) block exclusive = (wanted == block) && not exclusive
asks_for _ block exclusive = false

-- what the instruction at the pc does, where it can be fetched
abbrev pub effect_at : MachineParts → NodeState → Option Effect
effect_at machine node = option_map (λ word. (meaning_in machine word node).1) (fetch_of machine node)

-- The waiting instruction is done with the block that has come: a load writes its register, a store the line, and a
-- check-out does nothing more. No other instruction waits.
abbrev pub resumed : MachineParts → ℕ → ℕ → NodeState → Option Effect → Handled
resumed machine time block node (Some (Load op rd address)) =
    loaded_into rd
    (widened op (unwrap_or (read_of node.cache block (offset_of machine address) (load_width_of op)) 0))
    address (time + machine.costs.fill) node
resumed machine time block node (Some (Store op address value)) =
    stored_at address (store_width_of op) (stored_value op value) (time + machine.costs.fill)
    (with_cache (write_of block (offset_of machine address) (store_width_of op) value node.cache) node)
resumed machine time block node _ = quiet (moved_on (address_after node.pc) (time + machine.costs.fill) node)

-- a line that was replaced is counted
abbrev pub replacing : Option Line → NodeState → NodeState
replacing None node = node
replacing (Some line) node = one_replaced node

-- The block is installed, a line that it replaces leaves, and the processor runs again.
abbrev pub installed : Line → NodeState → NodeState
installed line node =
    in_mode Running (replacing (replaced_of line node.cache) (with_cache (install_of line node.cache) node))

abbrev pub fill_with : MachineParts → ℕ → Line → NodeState → Handled
fill_with machine time line node =
    sending (gives_back machine time (replaced_of line node.cache))
    (resumed machine time line.block (installed line node) (effect_at machine node))

-- A block that the processor doesn't wait for is stray, and given back.
unfoldable pub data_message_of : MachineParts → ℕ → Line → NodeState → Handled
data_message_of machine time line node =
    if asks_for node.mode line.block line.writable then fill_with machine time line node
    else sending (give_back_of machine time line ∷ []) (quiet (one_stray node))
