-- Inv comes: a copy is dropped, and the home told so, with the bytes where the copy was to write. Own.
use Rattle.std.specs.Prelude.{ℕ, [], ◌∷◌, List, Option, Some, None, if◌then◌else◌}
use Rattle.wt_params.specs.declared.parts.MachineParts.{MachineParts}
use Rattle.wt_proto.specs.declared.message.Body.TheVariants.{InvAck}
use Rattle.target_cache.specs.declared.line.Line.{Line}
use Rattle.target_cache.specs.Cached.{line_of, drop_of}
use Rattle.node.specs.declared.state.NodeState.{NodeState}
use Rattle.node.specs.State.{with_cache, one_inv}
use Rattle.node.specs.Handled.{Handled, quiet, sending, to_home}

-- the bytes that the home doesn't have
abbrev pub dirty_bytes : Line → Option (List ℕ)
dirty_bytes line = if line.writable then Some line.bytes else None

-- where there was no copy, nothing is dropped
abbrev pub without_copy : ℕ → NodeState → NodeState
without_copy block node = with_cache (drop_of block node.cache) node

abbrev pub inv_by : MachineParts → ℕ → ℕ → NodeState → Option Line → Handled
inv_by machine time block node (Some line) =
    sending (to_home machine time block (InvAck (dirty_bytes line)) ∷ []) (quiet (one_inv (without_copy block node)))
inv_by machine time block node None =
    sending (to_home machine time block (InvAck None) ∷ []) (quiet (without_copy block node))

unfoldable pub inv_message_of : MachineParts → ℕ → ℕ → NodeState → Handled
inv_message_of machine time block node = inv_by machine time block node (line_of node.cache block)
