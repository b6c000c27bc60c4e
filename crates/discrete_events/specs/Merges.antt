-- A round in which each node is given what the others sent it, in any order that keeps that of each of them. Own.
use Rattle.std.specs.Prelude.{◌≡◌, ℕ, ◌<◌, ◌≤◌, List, [], ◌∷◌, ◌++◌, map, flat_map, Some}
use Rattle.std.specs.List.{range_with_len}
use Rattle.wt_proto.specs.declared.key.Key.{Key}
use Rattle.discrete_events.specs.Simulation.{Simulation, Event, Message}
use Rattle.discrete_events.specs.World.{World, events_in, least}
use Rattle.discrete_events.specs.Round.{round, quantum_end}
use Rattle.discrete_events.specs.Core.{Station, Core, CoreStep, Quantum, Deposit, Turn, run_to, station_in, with_messages, core_of, part_from, part_to, quantum_outs, sent_to, core_run, AreEnabled}
use Rattle.discrete_events.specs.Laws.{IsIn, IsWorld, IsConservative, IsBetweenQuanta}
use Rattle.discrete_events.specs.Theorems.{IsAmidQuantum}

-- A list is a merge of what so many sources sent where each of its messages is of one of them, and its part of each is
-- what that one sent, in that order.
pub record IsMerge {X : Type 0} (count : ℕ) (sent : ℕ → List (Message X)) (merged : List (Message X)) : Type 0 where
  pub sources : (message : Message X) → IsIn message merged → message.0.from < count
  pub parts : (from : ℕ) → from < count → part_from from merged ≡ sent from

-- the quanta of all nodes, in their order
abbrev pub all_quanta : {S X : Type 0} → Simulation S X → List CoreStep
all_quanta sim = map Quantum (range_with_len 0 sim.nodes)

-- the deposits of some messages to a node, in their order
abbrev pub deposits_to : {X : Type 0} → ℕ → List (Message X) → List CoreStep
deposits_to to messages = map (λ message. Deposit message.0.from to) messages

-- the deposits of a list for each node
abbrev pub all_deposits : {S X : Type 0} → Simulation S X → (ℕ → List (Message X)) → List CoreStep
all_deposits sim merged = flat_map (λ to. deposits_to to (merged to)) (range_with_len 0 sim.nodes)

-- the steps of a round up to its turn, and all of them
abbrev pub steps_to_turn : {S X : Type 0} → Simulation S X → (ℕ → List (Message X)) → List CoreStep
steps_to_turn sim merged = all_quanta sim ++ all_deposits sim merged

abbrev pub round_steps : {S X : Type 0} → Simulation S X → (ℕ → List (Message X)) → List CoreStep
round_steps sim merged = steps_to_turn sim merged ++ Turn ∷ []

-- the core at the turn of a round
abbrev pub core_at_turn : {S X : Type 0} → Simulation S X → (ℕ → List (Message X)) → World S X → Core S X
core_at_turn sim merged world = core_run sim (steps_to_turn sim merged) (core_of sim world)

-- a node's station once it has run
abbrev pub station_ran : {S X : Type 0} → Simulation S X → ℕ → World S X → S → Station S X
station_ran sim until world node = (run_to sim until (station_in sim world node)).0

-- Each step of the round is enabled. At the turn all nodes have run, each has its list in its inbox, and what is in it
-- could be placed. The turn leads to the core of the world after the round, in which each node has run and was given its
-- list.
pub record IsRoundOf {S X : Type 0} (sim : Simulation S X) (Fits : Message X → Type 0) (until : ℕ) (world : World S X) (merged : ℕ → List (Message X)) : Type 0 where
  pub enabled : AreEnabled sim (core_of sim world) (round_steps sim merged)
  pub amid : IsAmidQuantum sim Fits world until (core_at_turn sim merged world)
  pub ran : (core_at_turn sim merged world).stations ≡ map (station_ran sim until world) world.nodes
  pub delivered : (to : ℕ) → to < sim.nodes → (core_at_turn sim merged world).inbox to ≡ merged to
  pub comes_to : core_run sim (round_steps sim merged) (core_of sim world) ≡ core_of sim (round sim until world)
  pub given : map (λ node. with_messages (merged (sim.number node)) (station_ran sim until world node)) world.nodes
      ≡ (core_of sim (round sim until world)).stations

-- Whatever the merges are in which the nodes are given what was sent, the round comes to the same world.
abbrev pub MergesAreRounds : {S X : Type 0} → Simulation S X → (S → Type 0) → (Message X → Type 0) → Type 0
MergesAreRounds {S} {X} sim IsSound Fits =
    IsConservative sim → (world : World S X) (key : Key) (event : Event X) (merged : ℕ → List (Message X)) →
    IsWorld sim IsSound Fits world → IsBetweenQuanta sim world → least (events_in sim world) ≡ Some (key, event) →
    ((to : ℕ) → to < sim.nodes → IsMerge sim.nodes (λ from. sent_to sim (quantum_end sim key.time) world from to) (merged to)) →
    IsRoundOf sim Fits (quantum_end sim key.time) world merged

-- What all nodes sent, in the order of the nodes, is such a merge for each.
abbrev pub InOrderIsMerge : {S X : Type 0} → Simulation S X → (S → Type 0) → (Message X → Type 0) → Type 0
InOrderIsMerge {S} {X} sim IsSound Fits =
    (until : ℕ) (world : World S X) (to : ℕ) → until ≤ sim.budget → IsWorld sim IsSound Fits world →
    IsMerge sim.nodes (λ from. sent_to sim until world from to) (part_to to (flat_map (quantum_outs sim until world) world.nodes))
