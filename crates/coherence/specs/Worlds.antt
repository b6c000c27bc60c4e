-- Each block and the barrier of a whole machine, as they stand in a world of its run, and what holds of them. Own.
use Rattle.std.specs.Prelude.{◌≡◌, ⊤, ℕ, ◌*◌, ◌<◌, ◌≤◌, ◌==◌, ◌&&◌, Bool, false, List, [], ◌∷◌, length, Option, Some, None, if◌then◌else◌}
use Rattle.std.specs.FinMap.{get, entries}
use Rattle.wt_params.specs.declared.parts.MachineParts.{MachineParts}
use Rattle.wt_params.specs.Machine.{home_of}
use Rattle.wt_network.specs.Stamps.{stamp_of}
use Rattle.wt_proto.specs.declared.key.Key.{Key}
use Rattle.wt_proto.specs.declared.message.Body.{Body}
use Rattle.wt_proto.specs.declared.message.Body.TheVariants.{Inv}
use Rattle.wt_proto.specs.declared.message.Msg.{Msg}
use Rattle.wt_proto.specs.declared.mode.Mode.TheVariants.{Waiting}
use Rattle.dir1sw.specs.Homes.{block_of}
use Rattle.target_barrier.specs.Barrier.{Barrier}
use Rattle.discrete_events.specs.World.{World as WorldOf}
use Rattle.discrete_events.specs.Laws.{IsIn}
use Rattle.node.specs.declared.state.NodeState.{NodeState}
use Rattle.node.specs.State.{last_time_of}
use Rattle.node.specs.Processor.{fetch_of}
use Rattle.coherence.specs.Block.{Cell, Home, View}
use Rattle.coherence.specs.Entries.{kept_of, wake_in}
use Rattle.coherence.specs.Facts.{IsCoherent}
use Rattle.coherence.specs.Values.{HasValue}
use Rattle.coherence.specs.Traces.{Known, bytes_of}
use Rattle.coherence.specs.Lines.{line, goes_from, comes_to, bodies}
use Rattle.coherence.specs.Deals.{cell_of}
use Rattle.coherence.specs.Meetings.{Stand, Part, Meeting, HavePlaces}
use Rattle.coherence.specs.Meetings.Stand.{Away}
use Rattle.coherence.specs.Moves.{stand_in, arrive_in, leave_in, go_in}
use Rattle.coherence.specs.Sends.{GoesRight}

abbrev pub World : Type 0
World = WorldOf NodeState Msg

-- the node of a number among some nodes
abbrev pub node_in : ℕ → List NodeState → Option NodeState
node_in number [] = None
node_in number (first ∷ rest) = if first.number == number then Some first else node_in number rest

-- the messages under way that pass a test
abbrev pub under_way : (Key × Msg → Bool) → World → List (Key × Msg)
under_way is_of world = line is_of (entries world.pending)

-- ---- a block

abbrev pub to_home_in : World → ℕ → ℕ → List Body
to_home_in world block number = bodies (under_way (goes_from block number) world)

abbrev pub from_home_in : World → ℕ → ℕ → List Body
from_home_in world block number = bodies (under_way (comes_to block number) world)

abbrev pub cell_by : ℕ → List Body → List Body → Option NodeState → Cell
cell_by block to_home from_home None =
    record { wants = None; copy = None; to_home = to_home; from_home = from_home }
cell_by block to_home from_home (Some node) = cell_of block to_home from_home node

-- what the node of a number has to do with a block
abbrev pub cell_in : World → ℕ → ℕ → Cell
cell_in world block number =
    cell_by block (to_home_in world block number) (from_home_in world block number) (node_in number world.nodes)

abbrev pub is_wake : ℕ → Key × Msg → Bool
is_wake block message = (message.1.block == block) && (wake_in message.1.body == 1)

-- a block of which its home keeps so much
abbrev pub view_in : World → ℕ → Home → View
view_in world block home = record {
  home = home;
  wakes = length (under_way (is_wake block) world);
  cell = cell_in world block;
}

-- A block is coherent and has a value, with the names of all that the entry in the directory of its home stands for.
pub record IsCoherentBlock (machine : MachineParts) (world : World) (block : ℕ) (value : List ℕ) : Type 0 where
  pub listed : Bool
  pub home : Home
  pub kept : (node : NodeState) → IsIn node world.nodes → node.number ≡ home_of machine block →
      block_of node.directory block ≡ kept_of listed home
  pub facts : IsCoherent (view_in world block home)
  pub has_value : HasValue value (view_in world block home)

-- ---- the barrier

abbrev pub arrives_from : ℕ → Key × Msg → Bool
arrives_from node message = (message.0.from == node) && (arrive_in message.1.body == 1)

abbrev pub leaves_from : ℕ → Key × Msg → Bool
leaves_from node message = (message.0.from == node) && (leave_in message.1.body == 1)

abbrev pub goes_to : ℕ → Key × Msg → Bool
goes_to node message = go_in node message.0.to message.1.body == 1

abbrev pub stand_of : Option NodeState → Stand
stand_of None = Away
stand_of (Some node) = stand_in node.mode

-- where the processor of a number stands, and how many messages about the barrier are under way from it and to it
abbrev pub part_in : World → ℕ → Part
part_in world number = record {
  stand = stand_of (node_in number world.nodes);
  arrives = length (under_way (arrives_from number) world);
  leaves = length (under_way (leaves_from number) world);
  gos = length (under_way (goes_to number) world);
}

abbrev pub meeting_in : World → Barrier → Meeting
meeting_in world unit = record { unit = unit; part = part_in world }

-- In a machine of several nodes, whose unit is at node 0, everybody is in one place.
abbrev pub IsOrderly : MachineParts → World → Type 0
IsOrderly machine world =
    (machine.nodes == 1) ≡ false → (node : NodeState) → IsIn node world.nodes → node.number ≡ 0 →
    HavePlaces (meeting_in world node.barrier)

-- ---- the messages under way

-- A message that isn't Inv left no later than the last event of its source.
abbrev pub IsInTime : MachineParts → Key → ℕ → Body → Type 0
IsInTime machine key last Inv = ⊤
IsInTime machine key last body = key.time ≤ stamp_of machine key.from key.to last

pub record AreRight (machine : MachineParts) (world : World) : Type 0 where
  pub goes : (key : Key) (msg : Msg) → get world.pending key ≡ Some msg →
      GoesRight machine key.from key.to msg.block msg.body
  pub in_time : (key : Key) (msg : Msg) (node : NodeState) → get world.pending key ≡ Some msg → IsIn node world.nodes →
      key.from ≡ node.number → IsInTime machine key (last_time_of node) msg.body

-- ---- the whole

-- Each block is coherent and has the bytes that the stores so far left, the barrier is orderly, every message goes where
-- it should, none that came was stray, and a processor that waits is at the word of its node's last step.
pub record IsCoherentWorld (machine : MachineParts) (world : World) (known : Known) : Type 0 where
  pub blocks : (block : ℕ) → block < machine.blocks → IsCoherentBlock machine world block (bytes_of machine known.memory block)
  pub size : length known.memory ≡ machine.blocks * machine.block_bytes
  pub barrier : IsOrderly machine world
  pub right : AreRight machine world
  pub none_stray : (node : NodeState) → IsIn node world.nodes → node.counters.stray ≡ 0
  pub words : (node : NodeState) (block : ℕ) (exclusive : Bool) → IsIn node world.nodes → node.mode ≡ Waiting block exclusive →
      known.word node.number ≡ fetch_of machine node
