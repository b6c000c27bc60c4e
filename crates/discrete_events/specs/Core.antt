-- The quanta of the nodes, the deposits of their messages and the turns to the next quantum, one
-- after the other in any order. Own.
use Rattle.std.specs.Prelude.{◌≡◌, ◌≢◌, ℕ, ◌+◌, ◌<◌, ◌==◌, ◌&&◌, ◌||◌, Bool, true, false, List, [], ◌∷◌, ◌++◌, map, flat_map, take, drop, Option, Some, None, option_map, if◌then◌else◌}
use Rattle.std.specs.List.{filter}
use Rattle.std.specs.FinMap.{FinMap}
use Rattle.wt_proto.specs.KeyOrder.{key_cmp}
use Rattle.discrete_events.specs.Simulation.{Simulation, Message}
use Rattle.discrete_events.specs.World.{World, events_in, least}
use Rattle.discrete_events.specs.Serial.{placed}
use Rattle.discrete_events.specs.Round.{local, to_node, together, quantum_end}

-- a node with its pending messages, and the time that it last ran up to
pub record Station (S X : Type 0) : Type 0 where
  pub node : S
  pub pending : FinMap key_cmp X
  pub until : ℕ

-- a station that has run up to a time, and what it sent to other nodes, in order of sending
abbrev pub run_to : {S X : Type 0} → Simulation S X → ℕ → Station S X → Station S X × List (Message X)
run_to sim until station =
    let run = local sim until station.node station.pending in
    (record { node = run.node; pending = run.pending; until = until }, run.outs)

-- The stations, the quanta so far, the end of the quantum that is open, the nodes that are done
-- with it, what a node sent to another and hasn't deposited yet, and what was deposited for a node.
pub record Core (S X : Type 0) : Type 0 where
  pub stations : List (Station S X)
  pub kept_end : ℕ
  pub quanta : ℕ
  pub until : Option ℕ
  pub done : ℕ → Bool
  pub out : ℕ → ℕ → List (Message X)
  pub inbox : ℕ → List (Message X)

-- A core stands for the world of its nodes with all their pending messages together.
abbrev pub world_of_core : {S X : Type 0} → Core S X → World S X
world_of_core core = record {
  nodes = map (λ station. station.node) core.stations;
  pending = together (map (λ station. station.pending) core.stations);
  kept_end = core.kept_end;
  quanta = core.quanta;
}

-- the end of the quantum that the least event of a world begins
abbrev pub opening : {S X : Type 0} → Simulation S X → World S X → Option ℕ
opening sim world = option_map (λ event. quantum_end sim event.0.time) (least (events_in sim world))

-- a node of a world, with the messages to it
abbrev pub station_in : {S X : Type 0} → Simulation S X → World S X → S → Station S X
station_in sim world node = record { node = node; pending = to_node world.pending (sim.number node); until = world.kept_end }

-- The core at rest of a world: each node has its messages, a quantum is open where there is an
-- event, nobody is done, and nothing was sent or deposited.
abbrev pub core_of : {S X : Type 0} → Simulation S X → World S X → Core S X
core_of sim world = record {
  stations = map (station_in sim world) world.nodes;
  kept_end = world.kept_end;
  quanta = world.quanta;
  until = opening sim world;
  done = λ node. false;
  out = λ from to. [];
  inbox = λ to. [];
}

-- nothing is done, sent or deposited
pub record IsAtRest {S X : Type 0} (core : Core S X) : Type 0 where
  pub done : (node : ℕ) → core.done node ≡ false
  pub out : (from to : ℕ) → core.out from to ≡ []
  pub inbox : (to : ℕ) → core.inbox to ≡ []

pub data CoreStep : Type 0 where
  Quantum : (node : ℕ) → CoreStep
  Deposit : (from to : ℕ) → CoreStep
  Turn : CoreStep

abbrev pub IsOpen : {S X : Type 0} → Core S X → Type 0
IsOpen core = core.until ≢ None

-- A quantum is a node's that isn't done. A message is deposited by a node that is done. A turn
-- comes when all are done and all their messages are deposited.
abbrev pub IsEnabled : {S X : Type 0} → Simulation S X → Core S X → CoreStep → Type 0
IsEnabled sim core (Quantum node) = IsOpen core × (node < sim.nodes) × (core.done node ≡ false)
IsEnabled sim core (Deposit from to) =
    IsOpen core × (from < sim.nodes) × (to < sim.nodes) × (core.done from ≡ true) × (core.out from to ≢ [])
IsEnabled sim core Turn =
    IsOpen core × ((node : ℕ) → node < sim.nodes → core.done node ≡ true)
    × ((from to : ℕ) → from < sim.nodes → to < sim.nodes → core.out from to ≡ [])

-- the messages of a source among some
abbrev pub part_from : {X : Type 0} → ℕ → List (Message X) → List (Message X)
part_from number messages = filter (λ message. message.0.from == number) messages

-- the messages to a node among some
abbrev pub part_to : {X : Type 0} → ℕ → List (Message X) → List (Message X)
part_to number messages = filter (λ message. message.0.to == number) messages

-- what a node of a world sends to others in a quantum
abbrev pub quantum_outs : {S X : Type 0} → Simulation S X → ℕ → World S X → S → List (Message X)
quantum_outs sim until world node = (local sim until node (to_node world.pending (sim.number node))).outs

-- and to one of them, by their numbers
abbrev pub sent_to : {S X : Type 0} → Simulation S X → ℕ → World S X → ℕ → ℕ → List (Message X)
sent_to sim until world from to =
    part_to to (flat_map (λ node. if sim.number node == from then quantum_outs sim until world node else []) world.nodes)

abbrev pub is_at : {S X : Type 0} → Simulation S X → ℕ → Station S X → Bool
is_at sim number station = sim.number station.node == number

abbrev pub after_quantum : {S X : Type 0} → Simulation S X → ℕ → ℕ → Core S X → Core S X
after_quantum sim until node core =
    let outs = flat_map (λ station. if is_at sim node station then (run_to sim until station).1 else []) core.stations in
    record core {
      stations = map (λ station. if is_at sim node station then (run_to sim until station).0 else station) core.stations;
      done = λ other. (other == node) || core.done other;
      out = λ from to. if from == node then part_to to outs else core.out from to;
    }

-- The first message that a node sent to another goes to the end of the inbox.
abbrev pub after_deposit : {S X : Type 0} → ℕ → ℕ → Core S X → Core S X
after_deposit from to core = record core {
  out = λ node other. if (node == from) && (other == to) then drop 1 (core.out from to) else core.out node other;
  inbox = λ other. if other == to then core.inbox other ++ take 1 (core.out from to) else core.inbox other;
}

abbrev pub reopened : {S X : Type 0} → Simulation S X → Core S X → Core S X
reopened sim core = record core { until = opening sim (world_of_core core) }

-- a station once some messages are placed among its pending ones
abbrev pub with_messages : {S X : Type 0} → List (Message X) → Station S X → Station S X
with_messages messages station = record station { pending = placed station.pending messages }

-- and once those of its inbox are
abbrev pub with_inbox : {S X : Type 0} → Simulation S X → (ℕ → List (Message X)) → Station S X → Station S X
with_inbox sim inbox station = with_messages (inbox (sim.number station.node)) station

-- What was deposited is placed among the pending messages, and the next quantum is opened.
abbrev pub after_turn : {S X : Type 0} → Simulation S X → ℕ → Core S X → Core S X
after_turn sim until core = reopened sim (record core {
  stations = map (with_inbox sim core.inbox) core.stations;
  kept_end = until;
  quanta = core.quanta + 1;
  done = λ node. false;
  inbox = λ to. [];
})

abbrev pub within_quantum : {S X : Type 0} → Simulation S X → ℕ → CoreStep → Core S X → Core S X
within_quantum sim until (Quantum node) core = after_quantum sim until node core
within_quantum sim until (Deposit from to) core = after_deposit from to core
within_quantum sim until Turn core = after_turn sim until core

abbrev pub while_open : {S X : Type 0} → Simulation S X → Option ℕ → CoreStep → Core S X → Core S X
while_open sim None step core = core
while_open sim (Some until) step core = within_quantum sim until step core

-- the core after a step, and after several
abbrev pub core_step : {S X : Type 0} → Simulation S X → CoreStep → Core S X → Core S X
core_step sim step core = while_open sim core.until step core

abbrev pub core_run : {S X : Type 0} → Simulation S X → List CoreStep → Core S X → Core S X
core_run sim [] core = core
core_run sim (step ∷ steps) core = core_run sim steps (core_step sim step core)

abbrev pub AreEnabled : {S X : Type 0} → Simulation S X → Core S X → List CoreStep → Type 0
AreEnabled sim core [] = Unit {0}
AreEnabled sim core (step ∷ steps) = IsEnabled sim core step × AreEnabled sim (core_step sim step core) steps
