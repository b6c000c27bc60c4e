-- What one event of a node does to one block at that node: to its copy, to what its processor waits for, and to the
-- messages between it and the home. Own.
use Rattle.std.specs.Prelude.{◌≡◌, ⊤, ℕ, ◌==◌, ◌&&◌, Bool, true, false, List, [], ◌∷◌, ◌++◌, length, map, option_map, IfSome, Option, Some, None, if◌then◌else◌}
use Rattle.wt_params.specs.declared.parts.MachineParts.{MachineParts}
use Rattle.wt_params.specs.Machine.{shared_block}
use Rattle.wt_proto.specs.declared.key.Key.{Key}
use Rattle.wt_proto.specs.declared.message.Body.{Body}
use Rattle.wt_proto.specs.declared.message.Body.TheVariants.{DataS, DataX, Inv}
use Rattle.wt_proto.specs.declared.message.Msg.{Msg}
use Rattle.wt_proto.specs.declared.message.Stamped.{Stamped}
use Rattle.wt_proto.specs.Messages.{data_of}
use Rattle.wt_proto.specs.declared.mode.Mode.{Mode}
use Rattle.wt_proto.specs.declared.mode.Mode.TheVariants.{Running, Waiting}
use Rattle.wt_trace.specs.declared.record.Deed.{Deed}
use Rattle.wt_trace.specs.declared.record.Deed.TheVariants.{Stored}
use Rattle.dir1sw.specs.Table.{grant_body}
use Rattle.discrete_events.specs.Simulation.{Step as StepEvent, Arrival}
use Rattle.target_cache.specs.declared.line.Line.{Line}
use Rattle.target_cache.specs.Cached.{Cached, line_of}
use Rattle.node.specs.declared.state.NodeState.{NodeState}
use Rattle.node.specs.React.{react_to_step, react_to_message, record_of}
use Rattle.node.specs.Sound.{IsNode}
use Rattle.coherence.specs.Block.{Copy, Cell, View}
use Rattle.coherence.specs.Pipes.{not_to_home_of, not_from_home_of}
use Rattle.coherence.specs.Steps.{Step, asked, upgraded, given, written, filled, dropped, with_cell}
use Rattle.coherence.specs.Steps.Step.{Ask, Upgrade, Give, Write, Fill, Drop}
use Rattle.coherence.specs.Laws.{AreEnabled, steps_of}

-- ---- a node's part in a block

-- the kind of copy of the block that a processor in this mode waits for
abbrev pub wanted_in : ℕ → Mode → Option Bool
wanted_in block (Waiting wanted exclusive) = if wanted == block then Some exclusive else None
wanted_in block _ = None

abbrev pub copy_by : Option Line → Option Copy
copy_by line = option_map (λ (held : Line). record { writable = held.writable; bytes = held.bytes }) line

abbrev pub copy_of : Cached → ℕ → Option Copy
copy_of cache block = copy_by (line_of cache block)

-- with the messages that are under way to the home and back
abbrev pub cell_of : ℕ → List Body → List Body → NodeState → Cell
cell_of block to_home from_home node = record {
  wants = wanted_in block node.mode;
  copy = copy_of node.cache block;
  to_home = to_home;
  from_home = from_home;
}

-- ---- messages about a block

abbrev pub is_for_home : ℕ → Msg → Bool
is_for_home block msg = (msg.block == block) && (not_to_home_of msg.body == 0)

abbrev pub is_from_home : ℕ → Msg → Bool
is_from_home block msg = (msg.block == block) && (not_from_home_of msg.body == 0)

abbrev pub body_if : Bool → Msg → List Body
body_if test msg = if test then msg.body ∷ [] else []

-- those of some messages that go to the home
abbrev pub sent_home : ℕ → List Msg → List Body
sent_home block [] = []
sent_home block (first ∷ rest) = body_if (is_for_home block first) first ++ sent_home block rest

abbrev pub said : List Stamped → List Msg
said sends = map (λ (send : Stamped). send.msg) sends

-- ---- deals

pub data Deal : Type 0 where
  Asks : (exclusive : Bool) → Deal
  Upgrades : (bytes : List ℕ) → Deal
  Gives : (copy : Copy) → Deal
  Writes : (old new : List ℕ) → Deal
  Fills : (exclusive : Bool) (bytes : List ℕ) (rest : List Body) → Deal
  Drops : (rest : List Body) → Deal

-- Each is a step of the block at a node,
abbrev pub as_step : ℕ → Deal → Step
as_step node (Asks exclusive) = Ask node exclusive
as_step node (Upgrades bytes) = Upgrade node bytes
as_step node (Gives copy) = Give node copy
as_step node (Writes old new) = Write node old new
as_step node (Fills exclusive bytes rest) = Fill node exclusive bytes rest
as_step node (Drops rest) = Drop node rest

-- which leaves the node's part so,
abbrev pub dealt : Deal → Cell → Cell
dealt (Asks exclusive) cell = asked exclusive cell
dealt (Upgrades bytes) cell = upgraded cell
dealt (Gives copy) cell = given copy cell
dealt (Writes old new) cell = written new cell
dealt (Fills exclusive bytes rest) cell = filled exclusive bytes rest cell
dealt (Drops rest) cell = dropped rest cell

-- and may be done then.
abbrev pub MayDeal : Cell → Deal → Type 0
MayDeal cell (Asks exclusive) = (cell.wants ≡ None) × (cell.copy ≡ None)
MayDeal cell (Upgrades bytes) = (cell.wants ≡ None) × (cell.copy ≡ Some (record { writable = false; bytes = bytes }))
MayDeal cell (Gives copy) = cell.copy ≡ Some copy
MayDeal cell (Writes old new) = cell.copy ≡ Some (record { writable = true; bytes = old })
MayDeal cell (Fills exclusive bytes rest) =
    (cell.wants ≡ Some exclusive) × (cell.from_home ≡ grant_body exclusive bytes ∷ rest)
MayDeal cell (Drops rest) = cell.from_home ≡ Inv ∷ rest

abbrev pub all_dealt : List Deal → Cell → Cell
all_dealt [] cell = cell
all_dealt (deal ∷ deals) cell = all_dealt deals (dealt deal cell)

abbrev pub MayDealAll : Cell → List Deal → Type 0
MayDealAll cell [] = ⊤
MayDealAll cell (deal ∷ deals) = MayDeal cell deal × MayDealAll (dealt deal cell) deals

-- the value of the block after them: what the last store left
abbrev pub left_by : List Deal → List ℕ → List ℕ
left_by [] value = value
left_by (Writes old new ∷ deals) value = left_by deals new
left_by (deal ∷ deals) value = left_by deals value

-- From one part to the other by some deals, none of which changes the value but where there is a store.
pub record DealsWith (stores : Bool) (before after : Cell) : Type 0 where
  pub deals : List Deal
  pub may : MayDealAll before deals
  pub is : after ≡ all_dealt deals before
  pub keeps : stores ≡ false → (value : List ℕ) → left_by deals value ≡ value

-- whether a deed is a store to a block
abbrev pub stores_to : MachineParts → Deed → ℕ → Bool
stores_to machine (Stored address width value) block = is_at (shared_block machine address)
  where
    is_at : Option ℕ → Bool
    is_at None = false
    is_at (Some other) = other == block
stores_to machine deed block = false

-- ---- the laws

-- the block after some steps at a node, which leave the node's part so, and all else
pub record AreStepsAt (view : View) (node : ℕ) (steps : List Step) (after : Cell) : Type 0 where
  pub enabled : AreEnabled view steps
  pub home : (steps_of steps view).home ≡ view.home
  pub wakes : (steps_of steps view).wakes ≡ view.wakes
  pub cells : (other : ℕ) → (steps_of steps view).cell other ≡ with_cell node after view.cell other

-- Deals of a node are steps of the block.
abbrev pub DealsAreSteps : Type 0
DealsAreSteps =
    (view : View) (node : ℕ) (deals : List Deal) → MayDealAll (view.cell node) deals →
    AreStepsAt view node (map (as_step node) deals) (all_dealt deals (view.cell node))

-- A step of a processor deals with each block: what it sends about the block joins what is under way to the home.
abbrev pub StepsDeal : Type 0
StepsDeal =
    (machine : MachineParts) (node : NodeState) (block : ℕ) (to_home from_home : List Body) → IsNode machine node →
    node.mode ≡ Running →
    DealsWith (stores_to machine (record_of machine node StepEvent).deed block) (cell_of block to_home from_home node)
    (cell_of block (to_home ++ sent_home block (said (react_to_step machine node).1)) from_home
    (react_to_step machine node).0)

-- Data comes to a processor that waits for it.
abbrev pub IsWantedIn : Mode → Msg → Type 0
IsWantedIn mode msg = by msg.body
  where
    by : Body → Type 0
    by (DataS bytes) = wanted_in msg.block mode ≡ Some false
    by (DataX bytes) = wanted_in msg.block mode ≡ Some true
    by body = ⊤

-- A message deals with each block: where it comes from the block's home, it is the first of those that do.
abbrev pub MessagesDeal : Type 0
MessagesDeal =
    (machine : MachineParts) (node : NodeState) (key : Key) (msg : Msg) (block : ℕ) (to_home rest : List Body) →
    IsNode machine node → IsWantedIn node.mode msg →
    IfSome (data_of msg.body) (λ bytes. length bytes ≡ machine.block_bytes) →
    DealsWith (stores_to machine (record_of machine node (Arrival (key, msg))).deed block)
    (cell_of block to_home (body_if (is_from_home block msg) msg ++ rest) node)
    (cell_of block (to_home ++ sent_home block (said (react_to_message machine node key msg).1)) rest
    (react_to_message machine node key msg).0)
