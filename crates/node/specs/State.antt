-- What can be said of a node at a moment. Own.
use Rattle.std.specs.Prelude.{ℕ, ◌+◌, ◌==◌, max, Bool, true, false, List, slice_index, slice_range, Option, Some, None}
use Rattle.wt_params.specs.declared.parts.MachineParts.{MachineParts}
use Rattle.wt_proto.specs.declared.key.Key.{Key}
use Rattle.wt_proto.specs.declared.mode.Cause.TheVariants.{Exit}
use Rattle.wt_proto.specs.declared.mode.Mode.{Mode}
use Rattle.wt_proto.specs.declared.mode.Mode.TheVariants.{Running, Stopped}
use Rattle.rv_exec.specs.Registers.{register_set}
use Rattle.priv_mem.specs.Memory.{little_endian}
use Rattle.target_cache.specs.Cached.{Cached}
use Rattle.discrete_events.specs.Simulation.{key_of_step}
use Rattle.node.specs.declared.state.NodeState.{NodeState}

-- the events that a node has handled
abbrev pub events_of : NodeState → ℕ
events_of node = node.counters.steps + node.counters.messages

abbrev pub is_running_in : Mode → Bool
is_running_in Running = true
is_running_in _ = false

abbrev pub is_running : NodeState → Bool
is_running node = is_running_in node.mode

abbrev pub is_stopped_in : Mode → Bool
is_stopped_in (Stopped cause) = true
is_stopped_in _ = false

abbrev pub is_stopped : NodeState → Bool
is_stopped node = is_stopped_in node.mode

-- a program that ended by an exit with the code 0
abbrev pub exits_well_in : Mode → Bool
exits_well_in (Stopped (Exit code)) = code == 0
exits_well_in _ = false

abbrev pub exits_well : NodeState → Bool
exits_well node = exits_well_in node.mode

-- the time of the last event, or 0 before the first
abbrev pub time_of_last : Option Key → ℕ
time_of_last None = 0
time_of_last (Some key) = key.time

abbrev pub last_time_of : NodeState → ℕ
last_time_of node = time_of_last node.last

-- A processor's next step begins when it is ready and no trap keeps its node busy.
abbrev pub step_time : NodeState → ℕ
step_time node = max node.ready node.busy

-- a step that begins at a time, where a processor in this mode has one
abbrev pub step_in : Mode → ℕ → Option ℕ
step_in Running time = Some time
step_in _ time = None

-- when a running processor's next step begins
abbrev pub next_step_of : NodeState → Option ℕ
next_step_of node = step_in node.mode (step_time node)

-- the key of a processor's next step
abbrev pub next_key : MachineParts → NodeState → Key
next_key machine node = key_of_step machine.nodes node.number (step_time node)

abbrev pub register : NodeState → ℕ → ℕ
register node r = slice_index node.registers r

abbrev pub with_register : NodeState → ℕ → ℕ → NodeState
with_register node r value = record node { registers = register_set node.registers r value }

-- the number of the four bytes at an address of a memory
abbrev pub word_at : List ℕ → ℕ → ℕ
word_at memory address = little_endian (slice_range memory address (address + 4))

abbrev pub in_mode : Mode → NodeState → NodeState
in_mode mode node = record node { mode = mode }

abbrev pub with_cache : Cached → NodeState → NodeState
with_cache cache node = record node { cache = cache }

-- ---- one more is counted

abbrev pub one_done : NodeState → NodeState
one_done node = record node { counters = record (node.counters) { done = node.counters.done + 1 } }

abbrev pub one_hit : NodeState → NodeState
one_hit node = record node { counters = record (node.counters) { hits = node.counters.hits + 1 } }

abbrev pub one_miss : NodeState → NodeState
one_miss node = record node { counters = record (node.counters) { misses = node.counters.misses + 1 } }

abbrev pub one_upgrade : NodeState → NodeState
one_upgrade node = record node { counters = record (node.counters) { upgrades = node.counters.upgrades + 1 } }

abbrev pub one_replaced : NodeState → NodeState
one_replaced node = record node { counters = record (node.counters) { replaced = node.counters.replaced + 1 } }

abbrev pub one_checkin : NodeState → NodeState
one_checkin node = record node { counters = record (node.counters) { checkins = node.counters.checkins + 1 } }

abbrev pub one_inv : NodeState → NodeState
one_inv node = record node { counters = record (node.counters) { invs = node.counters.invs + 1 } }

abbrev pub one_barrier : NodeState → NodeState
one_barrier node = record node { counters = record (node.counters) { barriers = node.counters.barriers + 1 } }

abbrev pub one_stray : NodeState → NodeState
one_stray node = record node { counters = record (node.counters) { stray = node.counters.stray + 1 } }
