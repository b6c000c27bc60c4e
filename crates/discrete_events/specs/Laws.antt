-- What the theorems ask of a simulation, and of a world of it. Own.
use Rattle.std.specs.Prelude.{◌≡◌, ◌≢◌, ℕ, suc, ◌+◌, ◌≤◌, ◌<◌, ◌⊎◌, List, [], ◌∷◌, length, Option, Some, None, sum_by}
use Rattle.std.specs.List.{AllByRecursion}
use Rattle.std.specs.declared.cmp.Ordering.TheVariants.{Less}
use Rattle.std.specs.FinMap.{FinMap, get, empty}
use Rattle.wt_proto.specs.declared.key.Key.{Key}
use Rattle.wt_proto.specs.KeyOrder.{key_cmp}
use Rattle.discrete_events.specs.Simulation.{Simulation, Event, Step, Arrival, Message, step_key}
use Rattle.discrete_events.specs.World.{World, events_in}
use Rattle.discrete_events.specs.Serial.{serial}

abbrev pub IsIn : {A : Type 0} → A → List A → Type 0
IsIn x [] = ⊥
IsIn x (y ∷ ys) = (x ≡ y) ⊎ IsIn x ys

-- a key above the last one, if there was one
abbrev pub IsAfter : Option Key → Key → Type 0
IsAfter None key = Unit {0}
IsAfter (Some last) key = key_cmp last key ≡ Less

-- An event is a node's next step, or a message to it that fits and isn't later than the next step.
abbrev pub IsItsOwn : {S X : Type 0} → Simulation S X → (Message X → Type 0) → S → Key → Event X → Type 0
IsItsOwn sim Fits node key Step = (sim.next node ≡ Some key.time) × (key ≡ step_key sim node key.time)
IsItsOwn sim Fits node key (Arrival message) =
    (key ≡ message.0) × (key.to ≡ sim.number node) × Fits message × ((time : ℕ) → sim.next node ≡ Some time → key.time ≤ time)

-- An event that a node may handle now.
pub record IsDue {S X : Type 0} (sim : Simulation S X) (Fits : Message X → Type 0) (node : S) (key : Key) (event : Event X) : Type 0 where
  pub unspent : sim.handled node < sim.event_limit
  pub early : key.time < sim.budget
  pub later : IsAfter (sim.last node) key
  pub its_own : IsItsOwn sim Fits node key event

-- A message that a node sends at an event comes later than the event, and to another node by the
-- lookahead.
pub record IsSent {S X : Type 0} (sim : Simulation S X) (Fits : Message X → Type 0) (node : S) (key : Key) (message : Message X) : Type 0 where
  pub fits : Fits message
  pub source : message.0.from ≡ sim.number node
  pub later : key.time < message.0.time
  pub late : (message.0.to ≢ sim.number node) → key.time + sim.lookahead ≤ message.0.time

-- Messages have the numbers from one on as their sequences.
abbrev pub AreInSequence : {X : Type 0} → ℕ → List (Message X) → Type 0
AreInSequence sequence [] = Unit {0}
AreInSequence sequence (message ∷ messages) =
    (message.0.sequence ≡ sequence) × AreInSequence (sequence + 1) messages

-- What a node does at an event. Its sends go on with the numbers of those before.
pub record Reacts {S X : Type 0} (sim : Simulation S X) (IsSound : S → Type 0) (Fits : Message X → Type 0) (node : S) (key : Key) (new : S) (sends : List (Message X)) : Type 0 where
  pub sound : IsSound new
  pub number : sim.number new ≡ sim.number node
  pub handled : sim.handled new ≡ suc (sim.handled node)
  pub last : sim.last new ≡ Some key
  pub next : (time : ℕ) → sim.next new ≡ Some time → key_cmp key (step_key sim new time) ≡ Less
  pub sent : AllByRecursion (IsSent sim Fits node key) sends
  pub counted : sim.sent new ≡ sim.sent node + length sends
  pub numbered : AreInSequence (sim.sent node) sends

-- The laws of a simulation: what its nodes keep, what fits, and how a sound node reacts to an event
-- that is due.
pub record IsSimulation {S X : Type 0} (sim : Simulation S X) (IsSound : S → Type 0) (Fits : Message X → Type 0) : Type 0 where
  pub within : (node : S) → IsSound node → sim.handled node ≤ sim.event_limit
  pub addressed : (message : Message X) → Fits message → message.0.to < sim.nodes
  pub sourced : (message : Message X) → Fits message → message.0.from < sim.nodes
  pub reacts : (node : S) (key : Key) (event : Event X) → IsSound node → IsDue sim Fits node key event →
      Reacts sim IsSound Fits node key (sim.react node event).0 (sim.react node event).1

-- A quantum is conservative where it isn't empty, and no longer than the lookahead.
pub record IsConservative {S X : Type 0} (sim : Simulation S X) : Type 0 where
  pub positive : 0 < sim.quantum
  pub no_longer : sim.quantum ≤ sim.lookahead

-- The nodes are numbered in their order, from a number on up to the number of nodes.
abbrev pub IsNumbered : {S X : Type 0} → Simulation S X → ℕ → List S → Type 0
IsNumbered sim from [] = from ≡ sim.nodes
IsNumbered sim from (node ∷ nodes) = (sim.number node ≡ from) × IsNumbered sim (suc from) nodes

-- A sound node with messages that fit, none of which, and no next step, is at or before the last
-- event it handled. Those that it sent itself are among the ones that it has numbered.
pub record IsStation {S X : Type 0} (sim : Simulation S X) (IsSound : S → Type 0) (Fits : Message X → Type 0) (node : S) (pending : FinMap key_cmp X) : Type 0 where
  pub sound : IsSound node
  pub fitting : (key : Key) (body : X) → get pending key ≡ Some body → Fits (key, body)
  pub no_past : (key : Key) (body : X) → get pending key ≡ Some body → key.to ≡ sim.number node → IsAfter (sim.last node) key
  pub step : (time : ℕ) → sim.next node ≡ Some time → IsAfter (sim.last node) (step_key sim node time)
  pub numbered : (key : Key) (body : X) → get pending key ≡ Some body → key.from ≡ sim.number node → key.sequence < sim.sent node

-- A world that a simulation may come to: no event that is due is at or before one that a node has
-- handled.
pub record IsWorld {S X : Type 0} (sim : Simulation S X) (IsSound : S → Type 0) (Fits : Message X → Type 0) (world : World S X) : Type 0 where
  pub numbered : IsNumbered sim 0 world.nodes
  pub fitting : (key : Key) (body : X) → get world.pending key ≡ Some body → Fits (key, body)
  pub stations : (node : S) → IsIn node world.nodes → IsStation sim IsSound Fits node world.pending
  pub rising : (node : S) (key : Key) (event : Event X) → IsIn node world.nodes → IsIn (key, event) (events_in sim world) →
      IsAfter (sim.last node) key

-- A start: sound nodes that have handled nothing, and nothing pending.
pub record IsStart {S X : Type 0} (sim : Simulation S X) (IsSound : S → Type 0) (world : World S X) : Type 0 where
  pub numbered : IsNumbered sim 0 world.nodes
  pub sound : (node : S) → IsIn node world.nodes → IsSound node
  pub unused : (node : S) → IsIn node world.nodes → sim.last node ≡ None
  pub pending : world.pending ≡ empty
  pub kept_end : world.kept_end ≡ 0

-- No event that is due lies before the end of the last quantum.
abbrev pub IsBetweenQuanta : {S X : Type 0} → Simulation S X → World S X → Type 0
IsBetweenQuanta {S} {X} sim world = (key : Key) (event : Event X) → IsIn (key, event) (events_in sim world) → world.kept_end ≤ key.time

-- the events that the nodes have handled
abbrev pub handled_in : {S X : Type 0} → Simulation S X → World S X → ℕ
handled_in sim world = sum_by sim.handled world.nodes

-- One world comes from another by serial steps: as many as the events that were handled.
pub record IsSerialFrom {S X : Type 0} (sim : Simulation S X) (before after : World S X) : Type 0 where
  pub steps : ℕ
  pub run : after ≡ serial sim steps before
  pub counted : handled_in sim after ≡ handled_in sim before + steps
