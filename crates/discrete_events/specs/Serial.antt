-- The serial simulation: it handles the event of least key, again and again, until there is none. Own.
use Rattle.std.specs.Prelude.{ℕ, suc, zero, ◌+◌, ◌*◌, ◌==◌, min, nat_le, Bool, List, [], ◌∷◌, map, flat_map, Option, Some, None, if◌then◌else◌}
use Rattle.std.specs.FinMap.{FinMap, insert, remove}
use Rattle.wt_proto.specs.declared.key.Key.{Key}
use Rattle.wt_proto.specs.KeyOrder.{key_cmp}
use Rattle.discrete_events.specs.Simulation.{Simulation, Event, Step, Arrival, Message}
use Rattle.discrete_events.specs.World.{World, events_in, least}

-- Messages are placed among the pending ones by their keys.
abbrev pub placed : {X : Type 0} → FinMap key_cmp X → List (Message X) → FinMap key_cmp X
placed pending [] = pending
placed pending (message ∷ messages) = placed (insert pending message.0 message.1) messages

-- the messages that are pending once an event is taken
abbrev pub taken : {X : Type 0} → Event X → FinMap key_cmp X → FinMap key_cmp X
taken Step pending = pending
taken (Arrival message) pending = remove pending message.0

-- whether an event with this key is an event of the node
abbrev pub is_for : {S X : Type 0} → Simulation S X → Key → S → Bool
is_for sim key node = sim.number node == key.to

-- the node after an event, and what it sends, where the event is for it
abbrev pub node_after : {S X : Type 0} → Simulation S X → Key → Event X → S → S
node_after sim key event node = if is_for sim key node then (sim.react node event).0 else node

abbrev pub sent_by : {S X : Type 0} → Simulation S X → Key → Event X → S → List (Message X)
sent_by sim key event node = if is_for sim key node then (sim.react node event).1 else []

-- An event whose time isn't below the kept end begins a quantum.
abbrev pub with_quantum : {S X : Type 0} → Simulation S X → ℕ → World S X → World S X
with_quantum sim time world =
    if nat_le world.kept_end time
    then record world { kept_end = min (time + sim.quantum) sim.budget; quanta = world.quanta + 1 }
    else world

-- The world after an event: its node reacts, and what that node sends is placed among the pending
-- messages.
abbrev pub after_event : {S X : Type 0} → Simulation S X → Key → Event X → World S X → World S X
after_event sim key event world = with_quantum sim key.time (record world {
  nodes = map (node_after sim key event) world.nodes;
  pending = placed (taken event world.pending) (flat_map (sent_by sim key event) world.nodes);
})

-- A world without events stays as it is.
abbrev pub after_least : {S X : Type 0} → Simulation S X → World S X → Option (Key × Event X) → World S X
after_least sim world None = world
after_least sim world (Some event) = after_event sim event.0 event.1 world

-- one event of the serial simulation
abbrev pub serial_step : {S X : Type 0} → Simulation S X → World S X → World S X
serial_step sim world = after_least sim world (least (events_in sim world))

-- so many events of the serial simulation
unfoldable pub serial : {S X : Type 0} → Simulation S X → ℕ → World S X → World S X
serial sim zero world = world
serial sim (suc n) world = serial_step sim (serial sim n world)

-- Each step is an event of one node, and no node passes the event limit: so then no event is left.
abbrev pub final : {S X : Type 0} → Simulation S X → World S X → World S X
final sim world = serial sim (sim.nodes * sim.event_limit) world
