-- Conservative quanta: each node runs on its own up to the end of the quantum, and then the
-- messages are exchanged. Own.
use Rattle.std.specs.Prelude.{ℕ, suc, zero, ◌+◌, ◌-◌, ◌==◌, not, min, List, [], ◌∷◌, ◌++◌, map, flat_map, Option, Some, None}
use Rattle.std.specs.List.{filter}
use Rattle.std.specs.FinMap.{FinMap, entries, retain_keys, from_entries}
use Rattle.wt_proto.specs.declared.key.Key.{Key}
use Rattle.wt_proto.specs.KeyOrder.{key_cmp}
use Rattle.discrete_events.specs.Simulation.{Simulation, Event, Message}
use Rattle.discrete_events.specs.World.{World, events_below, events_in, least}
use Rattle.discrete_events.specs.Serial.{placed, taken}

-- A node that has run on its own, with its pending messages and what it sent to other nodes, in
-- order of sending.
pub record FreeRun (S X : Type 0) : Type 0 where
  pub node : S
  pub pending : FinMap key_cmp X
  pub outs : List (Message X)

abbrev pub to_itself : {S X : Type 0} → Simulation S X → S → List (Message X) → List (Message X)
to_itself sim node sends = filter (λ message. message.0.to == sim.number node) sends

abbrev pub to_others : {S X : Type 0} → Simulation S X → S → List (Message X) → List (Message X)
to_others sim node sends = filter (λ message. not (message.0.to == sim.number node)) sends

abbrev pub with_outs : {S X : Type 0} → List (Message X) → FreeRun S X → FreeRun S X
with_outs outs run = record run { outs = outs ++ run.outs }

-- A node takes its least event, what it sends to itself joins its pending messages, and so on with
-- the rest of its run.
abbrev pub after_own : {S X : Type 0} → Simulation S X → (S → FinMap key_cmp X → FreeRun S X) → S → FinMap key_cmp X → Option (Key × Event X) → FreeRun S X
after_own sim rest node pending None = record { node = node; pending = pending; outs = [] }
after_own sim rest node pending (Some event) =
    let reaction = sim.react node event.1 in
    with_outs (to_others sim node reaction.1)
    (rest reaction.0 (placed (taken event.1 pending) (to_itself sim node reaction.1)))

-- the node's own events below a time, at most so many of them
unfoldable pub free_run : {S X : Type 0} → Simulation S X → ℕ → ℕ → S → FinMap key_cmp X → FreeRun S X
free_run sim until zero node pending = record { node = node; pending = pending; outs = [] }
free_run sim until (suc n) node pending =
    after_own sim (free_run sim until n) node pending (least (events_below sim until (node ∷ []) pending))

-- all the node's own events below a time, its messages to itself among them
abbrev pub local : {S X : Type 0} → Simulation S X → ℕ → S → FinMap key_cmp X → FreeRun S X
local sim until node pending = free_run sim until (sim.event_limit - sim.handled node) node pending

-- the messages to a node
abbrev pub to_node : {X : Type 0} → FinMap key_cmp X → ℕ → FinMap key_cmp X
to_node pending number = retain_keys pending (λ key. key.to == number)

-- the nodes, each run on its own up to a time
abbrev pub runs_to : {S X : Type 0} → Simulation S X → ℕ → List S → FinMap key_cmp X → List (FreeRun S X)
runs_to sim until nodes pending = map (λ node. local sim until node (to_node pending (sim.number node))) nodes

-- the messages of several nodes together
abbrev pub together : {X : Type 0} → List (FinMap key_cmp X) → FinMap key_cmp X
together queues = from_entries (flat_map entries queues)

-- the messages that are pending once the nodes have exchanged theirs
abbrev pub exchanged : {S X : Type 0} → List (FreeRun S X) → FinMap key_cmp X
exchanged runs = placed (together (map (λ run. run.pending) runs)) (flat_map (λ run. run.outs) runs)

-- A round: all nodes run up to the end of the quantum, and then they exchange their messages.
abbrev pub round : {S X : Type 0} → Simulation S X → ℕ → World S X → World S X
round sim until world =
    let runs = runs_to sim until world.nodes world.pending in
    record { nodes = map (λ run. run.node) runs; pending = exchanged runs; kept_end = until; quanta = world.quanta + 1 }

-- The quantum that an event begins ends so long after it, and not past the budget.
abbrev pub quantum_end : {S X : Type 0} → Simulation S X → ℕ → ℕ
quantum_end sim time = min (time + sim.quantum) sim.budget

-- The quantum that begins with the least event, where there is one.
abbrev pub after_opening : {S X : Type 0} → Simulation S X → World S X → Option (Key × Event X) → World S X
after_opening sim world None = world
after_opening sim world (Some event) = round sim (quantum_end sim event.0.time) world

-- so many rounds
unfoldable pub rounds : {S X : Type 0} → Simulation S X → ℕ → World S X → World S X
rounds sim zero world = world
rounds sim (suc n) world = let before = rounds sim n world in after_opening sim before (least (events_in sim before))
