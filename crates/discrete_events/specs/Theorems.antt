-- What is proved of every simulation that keeps the laws. Own.
use Rattle.std.specs.Prelude.{◌≡◌, ◌≢◌, ℕ, ◌+◌, ◌≤◌, ◌<◌, Bool, List, [], ◌∷◌, ◌++◌, map, flat_map, Some, None, if◌then◌else◌}
use Rattle.std.specs.declared.cmp.Ordering.TheVariants.{Less}
use Rattle.std.specs.FinMap.{FinMap, get, insert}
use Rattle.wt_proto.specs.declared.key.Key.{Key}
use Rattle.wt_proto.specs.KeyOrder.{key_cmp}
use Rattle.discrete_events.specs.Simulation.{Simulation, Event, Message}
use Rattle.discrete_events.specs.World.{World, events_below, events_in, least}
use Rattle.discrete_events.specs.Serial.{taken, sent_by, serial_step, serial, final}
use Rattle.discrete_events.specs.Round.{FreeRun, to_itself, local, runs_to, together, round, quantum_end, rounds}
use Rattle.discrete_events.specs.Core.{Station, Core, CoreStep, IsAtRest, part_from, sent_to, world_of_core, opening, core_of, core_run, AreEnabled}
use Rattle.discrete_events.specs.Laws.{IsIn, IsAfter, IsNumbered, IsStation, IsStart, IsWorld, IsConservative, IsBetweenQuanta, IsSerialFrom}

-- messages that are placed one after the other, each under a key that isn't pending then
abbrev pub AreNew : {X : Type 0} → FinMap key_cmp X → List (Message X) → Type 0
AreNew pending [] = Unit {0}
AreNew pending (message ∷ messages) =
    (get pending message.0 ≡ None) × AreNew (insert pending message.0 message.1) messages

-- a run with one more message left pending
abbrev pub with_pending : {S X : Type 0} → Message X → FreeRun S X → FreeRun S X
with_pending message run = record run { pending = insert run.pending message.0 message.1 }

-- A late message passes through: the run of a node that has it is the run without it, with the
-- message put back.
abbrev pub LateMessagePasses : {S X : Type 0} → Simulation S X → (S → Type 0) → (Message X → Type 0) → Type 0
LateMessagePasses {S} {X} sim IsSound Fits =
    (until : ℕ) (node : S) (pending : FinMap key_cmp X) (message : Message X) →
    until ≤ sim.budget → IsStation sim IsSound Fits node pending →
    until ≤ message.0.time → (message.0.from ≢ sim.number node) →
    local sim until node (insert pending message.0 message.1) ≡ with_pending message (local sim until node pending)

-- the same nodes and pending messages
pub record IsAlike {S X : Type 0} (one other : World S X) : Type 0 where
  pub nodes : one.nodes ≡ other.nodes
  pub pending : one.pending ≡ other.pending

-- The least event peels off: a round that ends no later than the lookahead allows is the round of
-- the world after it.
abbrev pub LeastEventPeels : {S X : Type 0} → Simulation S X → (S → Type 0) → (Message X → Type 0) → Type 0
LeastEventPeels {S} {X} sim IsSound Fits =
    (until : ℕ) (world : World S X) (key : Key) (event : Event X) →
    IsWorld sim IsSound Fits world → least (events_in sim world) ≡ Some (key, event) →
    key.time < until → until ≤ sim.budget → until ≤ key.time + sim.lookahead →
    IsAlike (round sim until world) (round sim until (serial_step sim world))

-- A round is the serial run: nodes, pending messages, kept end and count, by as many steps as
-- events were handled; and no event is left below its end.
pub record IsSerialRound {S X : Type 0} (sim : Simulation S X) (before after : World S X) : Type 0 where
  pub serial : IsSerialFrom sim before after
  pub none_left : IsBetweenQuanta sim after

abbrev pub RoundIsSerial : {S X : Type 0} → Simulation S X → (S → Type 0) → (Message X → Type 0) → Type 0
RoundIsSerial {S} {X} sim IsSound Fits =
    IsConservative sim → (world : World S X) (key : Key) (event : Event X) →
    IsWorld sim IsSound Fits world → IsBetweenQuanta sim world → least (events_in sim world) ≡ Some (key, event) →
    IsSerialRound sim world (round sim (quantum_end sim key.time) world)

-- And so are many.
abbrev pub RoundsAreSerial : {S X : Type 0} → Simulation S X → (S → Type 0) → (Message X → Type 0) → Type 0
RoundsAreSerial {S} {X} sim IsSound Fits =
    IsConservative sim → (n : ℕ) (world : World S X) →
    IsWorld sim IsSound Fits world → IsBetweenQuanta sim world → IsSerialRound sim world (rounds sim n world)

-- The final world has no event, comes by as many steps as events were handled, and is what any run
-- without events came to.
pub record IsFinal {S X : Type 0} (sim : Simulation S X) (world : World S X) : Type 0 where
  pub none_left : (key : Key) (event : Event X) → IsIn (key, event) (events_in sim (final sim world)) → ⊥
  pub counted : IsSerialFrom sim world (final sim world)
  pub reached : (after : World S X) → IsSerialFrom sim world after → least (events_in sim after) ≡ None → final sim world ≡ after

abbrev pub SerialRunEnds : {S X : Type 0} → Simulation S X → (S → Type 0) → (Message X → Type 0) → Type 0
SerialRunEnds {S} {X} sim IsSound Fits = (world : World S X) → IsWorld sim IsSound Fits world → IsFinal sim world

-- No past: along the serial run, and so after any round, the key of each message is above the last
-- key of its node.
pub record HasNoPast {S X : Type 0} (sim : Simulation S X) (IsSound : S → Type 0) (Fits : Message X → Type 0) (world : World S X) : Type 0 where
  pub is_world : IsWorld sim IsSound Fits world
  pub no_past : (node : S) (key : Key) (body : X) → IsIn node world.nodes → get world.pending key ≡ Some body →
      key.to ≡ sim.number node → IsAfter (sim.last node) key

abbrev pub NoPast : {S X : Type 0} → Simulation S X → (S → Type 0) → (Message X → Type 0) → Type 0
NoPast {S} {X} sim IsSound Fits =
    (before after : World S X) → IsWorld sim IsSound Fits before → IsSerialFrom sim before after →
    HasNoPast sim IsSound Fits after

-- Nor has a node that runs on its own.
abbrev pub NoPastOfRun : {S X : Type 0} → Simulation S X → (S → Type 0) → (Message X → Type 0) → Type 0
NoPastOfRun {S} {X} sim IsSound Fits =
    (until : ℕ) (node : S) (pending : FinMap key_cmp X) → until ≤ sim.budget → IsStation sim IsSound Fits node pending →
    IsStation sim IsSound Fits (local sim until node pending).node (local sim until node pending).pending

-- Each source numbers its sends, so no message is placed under the key of one that is pending: neither what an event
-- of the serial run sends, nor what a node sends to itself in its own run, nor what the nodes exchange in a round.
pub record KeysAreNew {S X : Type 0} (sim : Simulation S X) (IsSound : S → Type 0) (Fits : Message X → Type 0) : Type 0 where
  pub events : (world : World S X) (key : Key) (event : Event X) → IsWorld sim IsSound Fits world → least (events_in sim world) ≡ Some (key, event) →
      AreNew (taken event world.pending) (flat_map (sent_by sim key event) world.nodes)
  pub runs : (until : ℕ) (node : S) (pending : FinMap key_cmp X) (key : Key) (event : Event X) →
      until ≤ sim.budget → IsStation sim IsSound Fits node pending →
      least (events_below sim until (node ∷ []) pending) ≡ Some (key, event) →
      AreNew (taken event pending) (to_itself sim node (sim.react node event).1)
  pub rounds : (until : ℕ) (world : World S X) → until ≤ sim.budget → IsWorld sim IsSound Fits world →
      AreNew (together (map (λ run. run.pending) (runs_to sim until world.nodes world.pending)))
      (flat_map (λ run. run.outs) (runs_to sim until world.nodes world.pending))

-- The keys of the events handled rise strictly along the serial run.
abbrev pub KeysRise : {S X : Type 0} → Simulation S X → (S → Type 0) → (Message X → Type 0) → Type 0
KeysRise {S} {X} sim IsSound Fits =
    (world : World S X) (earlier later : ℕ) (one other : Key × Event X) →
    IsWorld sim IsSound Fits world → earlier < later →
    least (events_in sim (serial sim earlier world)) ≡ Some one → least (events_in sim (serial sim later world)) ≡ Some other →
    key_cmp one.0 other.0 ≡ Less

-- A start is a world between quanta.
abbrev pub StartIsWorld : {S X : Type 0} → Simulation S X → (S → Type 0) → (Message X → Type 0) → Type 0
StartIsWorld {S} {X} sim IsSound Fits =
    (world : World S X) → IsStart sim IsSound world → IsWorld sim IsSound Fits world × IsBetweenQuanta sim world

-- each node of the one list or, where it is marked, of the other
abbrev pub picked : {S X : Type 0} → Simulation S X → (ℕ → Bool) → List S → List S → List S
picked sim done [] others = []
picked sim done (node ∷ nodes) [] = []
picked sim done (node ∷ nodes) (other ∷ others) = (if done (sim.number node) then other else node) ∷ picked sim done nodes others

-- A message on its way to a node, in a core whose quantum ends at a time: it fits, is to that node and from another,
-- comes no earlier than that end and after all that the node has handled, and under a key that isn't pending there.
pub record IsUnderWay {S X : Type 0} (sim : Simulation S X) (Fits : Message X → Type 0) (until : ℕ) (core : Core S X) (to : ℕ) (message : Message X) : Type 0 where
  pub fits : Fits message
  pub names : message.0.to ≡ to
  pub away : message.0.from ≢ to
  pub late : until ≤ message.0.time
  pub no_past : (station : Station S X) → IsIn station core.stations → sim.number station.node ≡ to →
      IsAfter (sim.last station.node) message.0
  pub new : (station : Station S X) → IsIn station core.stations → sim.number station.node ≡ to →
      get station.pending message.0 ≡ None

-- A core in the middle of a quantum: a node that isn't done is as in the world in which the quantum
-- was opened, one that is done as in the world in which it ends. What was deposited and what waits
-- to be is under way, each inbox could be placed, and of each source it is the first part of what
-- that one sent.
pub record IsAmidQuantum {S X : Type 0} (sim : Simulation S X) (Fits : Message X → Type 0) (begun : World S X) (until : ℕ) (core : Core S X) : Type 0 where
  pub ended : World S X
  pub serial : IsSerialFrom sim begun ended
  pub ends : ended.kept_end ≡ until
  pub none_left : IsBetweenQuanta sim ended
  pub nodes : map (λ station. station.node) core.stations ≡ picked sim core.done begun.nodes ended.nodes
  pub ran : (station : Station S X) → IsIn station core.stations → station.until ≤ until
  pub outs : (from to : ℕ) (message : Message X) → IsIn message (core.out from to) → IsUnderWay sim Fits until core to message
  pub sources : (from to : ℕ) (message : Message X) → IsIn message (core.out from to) → message.0.from ≡ from
  pub inboxes : (to : ℕ) (message : Message X) → IsIn message (core.inbox to) → IsUnderWay sim Fits until core to message
  pub new : (station : Station S X) → IsIn station core.stations → AreNew station.pending (core.inbox (sim.number station.node))
  pub parts : (from to : ℕ) →
      part_from from (core.inbox to) ++ core.out from to ≡ (if core.done from then sent_to sim until begun from to else [])

-- A core after some steps from the core of a world. At rest it is the core of a world of the serial
-- run, in which no event is below the kept end.
pub record IsAmid {S X : Type 0} (sim : Simulation S X) (Fits : Message X → Type 0) (world : World S X) (core : Core S X) : Type 0 where
  pub begun : World S X
  pub serial : IsSerialFrom sim world begun
  pub none_left : IsBetweenQuanta sim begun
  pub kept_end : begun.kept_end ≡ core.kept_end
  pub until : core.until ≡ opening sim begun
  pub rest : IsAtRest core → core ≡ core_of sim begun
  pub ends : core.until ≡ None → begun ≡ final sim world
  pub amid : (until : ℕ) → core.until ≡ Some until → IsAmidQuantum sim Fits begun until core

-- Every interleaving of quanta, deposits and turns comes to the serial run.
abbrev pub EveryInterleaving : {S X : Type 0} → Simulation S X → (S → Type 0) → (Message X → Type 0) → Type 0
EveryInterleaving {S} {X} sim IsSound Fits =
    IsConservative sim → (world : World S X) (steps : List CoreStep) →
    IsWorld sim IsSound Fits world → IsBetweenQuanta sim world → AreEnabled sim (core_of sim world) steps →
    IsAmid sim Fits world (core_run sim steps (core_of sim world))

-- A core at rest, whose stations have messages to themselves alone and ran up to the kept end, and
-- whose quantum is that of its world.
pub record IsResting {S X : Type 0} (sim : Simulation S X) (core : Core S X) : Type 0 where
  pub rest : IsAtRest core
  pub numbered : IsNumbered sim 0 (map (λ station. station.node) core.stations)
  pub own : (station : Station S X) (key : Key) (body : X) → IsIn station core.stations → get station.pending key ≡ Some body →
      key.to ≡ sim.number station.node
  pub ran : (station : Station S X) → IsIn station core.stations → station.until ≡ core.kept_end
  pub until : core.until ≡ opening sim (world_of_core core)

-- Stands for: the core of a world has that world, and a core at rest is the core of its world.
pub record StandsFor {S X : Type 0} (sim : Simulation S X) (IsSound : S → Type 0) (Fits : Message X → Type 0) : Type 0 where
  pub world : (world : World S X) → IsWorld sim IsSound Fits world → world_of_core (core_of sim world) ≡ world
  pub core : (core : Core S X) → IsResting sim core → core ≡ core_of sim (world_of_core core)
