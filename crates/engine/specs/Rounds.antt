-- What one round does to an engine. Own.
use Rattle.std.specs.Prelude.{◌≡◌, ⊤, ℕ, zero, suc, ◌+◌, ◌*◌, ◌<◌, ◌≤◌, true, All, List, [], ◌∷◌, length, map, Option, Some, None, option_map, Result, IfOk, OnErr, OnOk}
use Rattle.wt_params.specs.declared.memory.NoMemory.{NoMemory}
use Rattle.wt_proto.specs.declared.message.Stamped.{Stamped}
use Rattle.discrete_events.specs.World.{events_in, least}
use Rattle.discrete_events.specs.Serial.{final}
use Rattle.discrete_events.specs.Round.{quantum_end}
use Rattle.discrete_events.specs.Laws.{IsBetweenQuanta, IsSerialFrom}
use Rattle.discrete_events.specs.Core.{CoreStep, core_of, core_run, AreEnabled}
use Rattle.discrete_events.specs.Merges.{IsMerge, round_steps}
use Rattle.node.specs.React.{message_under_key}
use Rattle.quantum.specs.Stations.{HasNoPast, station_of}
use Rattle.inbox.specs.Passes.{PassModel}
use Rattle.inbox.specs.Views.{IsWhole, part}
use Rattle.engine.specs.Engine.{EngineModel, IsUnbroken, sim_of, world_of, events_so_far}
use Rattle.engine.specs.Quantum.{handed_to}
use Rattle.engine.specs.declared.engine.Round.{Round}
use Rattle.engine.specs.declared.engine.Round.TheVariants.{Ended, More}

-- the time of the world's least event, where there is one
abbrev pub next_time : EngineModel → Option ℕ
next_time engine = option_map (λ event. event.0.time) (least (events_in (sim_of engine) (world_of engine)))

-- a call that finds no event changes nothing, and the world is the final one
pub record IsOver (before after : EngineModel) : Type 0 where
  pub none : next_time before ≡ None
  pub unchanged : after ≡ before
  pub last : world_of after ≡ final (sim_of before) (world_of before)

-- a call that finds one does exactly the quantum that this event begins, and handles at least one event
pub record IsOneQuantum (before after : EngineModel) : Type 0 where
  pub time : ℕ
  pub next : next_time before ≡ Some time
  pub kept_end : after.kept_end ≡ quantum_end (sim_of before) time
  pub quanta : after.quanta ≡ before.quanta + 1
  pub none_left : IsBetweenQuanta (sim_of before) (world_of after)
  pub grows : events_so_far before < events_so_far after

abbrev pub WentRound : EngineModel → EngineModel → Round → Type 0
WentRound before after Ended = IsOver before after
WentRound before after More = IsOneQuantum before after

-- What a call for a round comes to: the world is one of the serial run, which ends as before, and the events stay within
-- their bound; no message waits at a node that was stamped before an event that the node has handled. After want of
-- memory the engine is broken.
pub record GoesRound (before after : EngineModel) (result : Result Round NoMemory) : Type 0 where
  pub serial : OnOk result (IsSerialFrom (sim_of before) (world_of before) (world_of after))
  pub round : IfOk result (WentRound before after)
  pub end : OnOk result (final (sim_of before) (world_of after) ≡ final (sim_of before) (world_of before))
  pub bound : OnOk result (events_so_far after ≤ after.machine.nodes * after.machine.event_limit)
  pub no_past : OnOk result (All HasNoPast after.stations)
  pub unbroken : OnOk result (IsUnbroken before × IsUnbroken after)
  pub machine : after.machine ≡ before.machine
  pub broken : OnErr result (after.broken ≡ true)

-- how many quanta were run by threads, after a round that was
abbrev pub threaded_after : Round → ℕ → ℕ
threaded_after Ended threaded = threaded
threaded_after More threaded = threaded + 1

-- The pass of a node after a quantum that was run by threads. It is of all sources and may take; what was put in by each
-- of them is what that node sent to this one; and what was taken is a merge of that.
pub record IsPassOf (before after : EngineModel) (node : ℕ) (pass : PassModel) : Type 0 where
  pub sources : pass.view.sources ≡ before.machine.nodes
  pub whole : IsWhole pass.view
  pub takes : pass.view.takes ≡ true
  pub sent : (source : ℕ) → source < before.machine.nodes → map message_under_key (part source pass.view.sent) ≡ handed_to after.kept_end before.stations source node
  pub taken : IsMerge before.machine.nodes (λ source. handed_to after.kept_end before.stations source node) (map message_under_key pass.view.taken)

-- the passes of the nodes from one on
abbrev pub ArePassesFrom : EngineModel → EngineModel → ℕ → List PassModel → Type 0
ArePassesFrom before after node [] = ⊤
ArePassesFrom before after node (pass ∷ passes) = IsPassOf before after node pass × ArePassesFrom before after (suc node) passes

-- what was taken for a node, in that order
abbrev pub taken_for : List PassModel → ℕ → List Stamped
taken_for [] node = []
taken_for (pass ∷ passes) zero = pass.view.taken
taken_for (pass ∷ passes) (suc node) = taken_for passes node

-- the steps of a quantum that was run by threads: all runs, the deposits for each node in the order in which they were
-- taken, and the turn
abbrev pub steps_by_inboxes : EngineModel → EngineModel → List CoreStep
steps_by_inboxes before after = round_steps (sim_of before) (λ node. map message_under_key (taken_for after.passes node))

-- A quantum that was run by threads went through the inboxes of the nodes, and was one of the interleavings of the core.
pub record IsInterleaved (before after : EngineModel) : Type 0 where
  pub count : length after.passes ≡ before.machine.nodes
  pub passes : ArePassesFrom before after 0 after.passes
  pub enabled : AreEnabled (sim_of before) (core_of (sim_of before) (world_of before)) (steps_by_inboxes before after)
  pub core : core_run (sim_of before) (steps_by_inboxes before after) (core_of (sim_of before) (world_of before)) ≡ core_of (sim_of before) (world_of after)
  pub begun : map station_of before.stations ≡ (core_of (sim_of before) (world_of before)).stations
  pub ended : map station_of after.stations ≡ (core_of (sim_of before) (world_of after)).stations

abbrev pub WentByInboxes : EngineModel → EngineModel → Round → Type 0
WentByInboxes before after Ended = ⊤
WentByInboxes before after More = IsInterleaved before after
