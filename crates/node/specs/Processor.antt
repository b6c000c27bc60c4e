-- A step of a node's processor at a time: the instruction at the pc is fetched and done. Own, but for the instructions,
-- which are those of the RISC-V manual.
use Rattle.std.specs.Prelude.{ℕ, ◌+◌, List, nat_le, Option, Some, None, if◌then◌else◌}
use Rattle.wt_params.specs.declared.parts.MachineParts.{MachineParts}
use Rattle.rv_decode.specs.Table.{decode_of}
use Rattle.rv_exec.specs.declared.effect.Effect.{Effect}
use Rattle.rv_exec.specs.declared.effect.Effect.TheVariants.{Next, Load, Store, Cico, Call, Break, BadTarget, Illegal}
use Rattle.rv_exec.specs.Meaning.{meaning_of}
use Rattle.wt_proto.specs.declared.mode.Cause.TheVariants as causes
use Rattle.node.specs.declared.state.NodeState.{NodeState}
use Rattle.node.specs.State.{word_at}
use Rattle.node.specs.Handled.{Handled, quiet, stopped, moved_on}
use Rattle.node.specs.PrivateAccess.{load_from, store_to}
use Rattle.node.specs.Annotation.{annotate_of}
use Rattle.node.specs.Call.{call_of}

-- Instructions are fetched from private memory alone.
abbrev pub fetch_of : MachineParts → NodeState → Option ℕ
fetch_of machine node =
    if nat_le machine.private_bytes node.pc then None else Some (word_at node.private node.pc)

-- what the instruction of a word leaves in the registers, and what else is to be done
abbrev pub meaning_in : MachineParts → ℕ → NodeState → List ℕ × Effect
meaning_in machine word node = meaning_of node.registers node.pc (decode_of word) machine.costs

-- Registers change at once only where the instruction is finished by that.
abbrev pub effect_by : MachineParts → ℕ → ℕ → NodeState → List ℕ → Effect → Handled
effect_by machine time word node registers (Next pc cost) =
    quiet (moved_on pc (time + cost) (record node { registers = registers }))
effect_by machine time word node registers (Load op rd address) = load_from machine time op rd address node
effect_by machine time word node registers (Store op address value) = store_to machine time op address value node
effect_by machine time word node registers (Cico op address) = annotate_of machine time op address node
effect_by machine time word node registers Call = call_of machine time node
effect_by machine time word node registers Break = stopped causes.Break node
effect_by machine time word node registers (BadTarget target) = stopped (causes.Target target) node
effect_by machine time word node registers Illegal = stopped (causes.Illegal word) node

unfoldable pub execute_of : MachineParts → ℕ → ℕ → NodeState → Handled
execute_of machine time word node =
    let meaning = meaning_in machine word node in effect_by machine time word node meaning.0 meaning.1

abbrev pub step_by : MachineParts → ℕ → NodeState → Option ℕ → Handled
step_by machine time node None = stopped (causes.Fetch node.pc) node
step_by machine time node (Some word) = execute_of machine time word node

abbrev pub step_of : MachineParts → ℕ → NodeState → Handled
step_of machine time node = step_by machine time node (fetch_of machine node)
