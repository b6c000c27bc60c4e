-- What every event keeps of a node, so that nothing wraps and a waiting instruction can be done when its block comes. Own.
use Rattle.std.specs.Prelude.{◌≡◌, ⊤, ℕ, ◌+◌, ◌*◌, ◌%◌, ◌^◌, ◌<◌, ◌≤◌, Bool, true, false, List, length, All, Option, Some}
use Rattle.wt_params.specs.declared.parts.MachineParts.{MachineParts}
use Rattle.wt_params.specs.Machine.{IsMachine, shared_block}
use Rattle.dir_list.specs.Lists.{AreRising}
use Rattle.rv_decode.specs.declared.instr.CicoOp.{CicoOp}
use Rattle.rv_decode.specs.declared.instr.CicoOp.TheVariants.{CheckOutS, CheckOutX, CheckIn}
use Rattle.rv_exec.specs.declared.effect.Effect.{Effect}
use Rattle.rv_exec.specs.declared.effect.Effect.TheVariants.{Load, Store, Cico}
use Rattle.rv_exec.specs.Widths.{load_width_of, store_width_of}
use Rattle.wt_proto.specs.declared.mode.Mode.{Mode}
use Rattle.wt_proto.specs.declared.mode.Mode.TheVariants.{Waiting, InBarrier}
use Rattle.wt_proto.specs.Messages.{MsgFits}
use Rattle.wt_stats.specs.declared.counters.Counters.{Counters}
use Rattle.wt_trace.specs.EventLine.{RecordFits}
use Rattle.block_tags.specs.declared.tag.Tag.TheVariants.{Invalid}
use Rattle.target_cache.specs.Cached.{Cached, IsCached, tag_of}
use Rattle.dir1sw.specs.declared.home.HomeBlock.{HomeBlock}
use Rattle.dir1sw.specs.Table.{copies_of}
use Rattle.dir1sw.specs.Fits.{HomeFits}
use Rattle.dir1sw.specs.Homes.{Homes, count_of}
use Rattle.target_barrier.specs.declared.barrier.Release.{Release}
use Rattle.target_barrier.specs.declared.barrier.Release.TheVariants.{Go}
use Rattle.target_barrier.specs.Barrier.{Barrier}
use Rattle.node.specs.declared.state.NodeState.{NodeState}
use Rattle.node.specs.declared.state.Send.{Send}
use Rattle.node.specs.State.{events_of}
use Rattle.node.specs.DataMessage.{effect_at}

-- a node's cache is one of the machine
pub record CacheFits (machine : MachineParts) (cache : Cached) : Type 0 where
  pub machine_is : cache.machine ≡ machine
  pub sound : IsCached cache

-- no more copies of a block are counted than messages were handled, and what is kept of it fits the machine
pub record BlockFits (machine : MachineParts) (messages : ℕ) (home : HomeBlock) : Type 0 where
  pub copies : copies_of home.entry.state ≤ messages
  pub home_fits : HomeFits machine home

pub record DirectoryFits (machine : MachineParts) (number messages : ℕ) (directory : Homes) : Type 0 where
  pub machine_is : directory.machine ≡ machine
  pub node : directory.node ≡ number
  pub count : length directory.blocks ≡ count_of machine number
  pub blocks : All (BlockFits machine messages) directory.blocks

-- the barrier unit is that of the machine, with nodes of the machine
pub record BarrierFits (machine : MachineParts) (barrier : Barrier) : Type 0 where
  pub nodes : barrier.nodes ≡ machine.nodes
  pub arrived : AreRising machine.nodes 0 barrier.arrived

-- The barrier opens for no more nodes than a machine may have.
abbrev pub IsFew : Release → Type 0
IsFew (Go nodes) = length nodes ≤ 256
IsFew _ = ⊤

-- No event counts more than one of anything but sends and the cycles of traps.
pub record CountsFit (machine : MachineParts) (counters : Counters) : Type 0 where
  pub events : counters.steps + counters.messages ≤ machine.event_limit
  pub done : counters.done ≤ counters.steps + counters.messages
  pub hits : counters.hits ≤ counters.steps + counters.messages
  pub misses : counters.misses ≤ counters.steps + counters.messages
  pub upgrades : counters.upgrades ≤ counters.steps + counters.messages
  pub replaced : counters.replaced ≤ counters.steps + counters.messages
  pub checkins : counters.checkins ≤ counters.steps + counters.messages
  pub invs : counters.invs ≤ counters.steps + counters.messages
  pub traps : counters.traps ≤ counters.steps + counters.messages
  pub trap_cycles : counters.trap_cycles ≤ 2 ^ 21 * (counters.steps + counters.messages)
  pub barriers : counters.barriers ≤ counters.steps + counters.messages
  pub stray : counters.stray ≤ counters.steps + counters.messages
  pub sent : counters.sent ≤ (machine.nodes + 1) * (counters.steps + counters.messages)

-- an access of so many bytes to a block that exists
pub record AccessFits (machine : MachineParts) (block address width : ℕ) : Type 0 where
  pub aligned : address % width ≡ 0
  pub here : shared_block machine address ≡ Some block

-- a check-out asks for a copy of one kind
abbrev pub ChecksOut : CicoOp → Bool → Type 0
ChecksOut CheckOutS exclusive = exclusive ≡ false
ChecksOut CheckOutX exclusive = exclusive ≡ true
ChecksOut CheckIn exclusive = ⊥

-- a message that may be stamped
pub record IsSendable (machine : MachineParts) (send : Send) : Type 0 where
  pub to : send.to < machine.nodes
  pub early : send.at < 2 ^ 62

abbrev pub AreSendable : MachineParts → List Send → Type 0
AreSendable machine sends = All (IsSendable machine) sends

-- the messages of an event of a node may be stamped and numbered
pub record MayStamp (machine : MachineParts) (node : NodeState) (sends : List Send) : Type 0 where
  pub number : node.number < machine.nodes
  pub fit : AreSendable machine sends
  pub room : node.counters.sent + length sends < 2 ^ 63

-- a message of an event at a time leaves no earlier than the event, and is one that the machine can have
pub record SendFits (machine : MachineParts) (time : ℕ) (send : Send) : Type 0 where
  pub sendable : IsSendable machine send
  pub from_now : time ≤ send.at
  pub msg : MsgFits machine send.msg

-- where a load or a store waits for a block, it is an access to it
abbrev pub IsAskedFor : MachineParts → ℕ → Option Effect → Type 0
IsAskedFor machine block (Some (Load op rd address)) = AccessFits machine block address (load_width_of op)
IsAskedFor machine block (Some (Store op address value)) = AccessFits machine block address (store_width_of op)
IsAskedFor machine block _ = ⊤

-- an instruction that asks for a copy of a block, of one kind
abbrev pub Asks : MachineParts → ℕ → Bool → Option Effect → Type 0
Asks machine block exclusive (Some (Load op rd address)) =
    (exclusive ≡ false) × AccessFits machine block address (load_width_of op)
Asks machine block exclusive (Some (Store op address value)) =
    (exclusive ≡ true) × AccessFits machine block address (store_width_of op)
Asks machine block exclusive (Some (Cico op address)) =
    ChecksOut op exclusive × (shared_block machine address ≡ Some block)
Asks machine block exclusive _ = ⊥

-- a processor that waits has no copy of its block, and the word at its pc asks for it
pub record WaitsFor (machine : MachineParts) (node : NodeState) (block : ℕ) (exclusive : Bool) : Type 0 where
  pub exists : block < machine.blocks
  pub fetched : node.pc < machine.private_bytes
  pub absent : tag_of node.cache block ≡ Invalid
  pub asks : Asks machine block exclusive (effect_at machine node)

abbrev pub ModeFits : MachineParts → NodeState → Mode → Type 0
ModeFits machine node (Waiting block exclusive) = WaitsFor machine node block exclusive
ModeFits machine node InBarrier = node.pc < machine.private_bytes
ModeFits machine node _ = ⊤

pub record IsNode (machine : MachineParts) (node : NodeState) : Type 0 where
  pub numbers : IsMachine machine
  pub number : node.number < machine.nodes
  pub aligned : node.pc % 4 ≡ 0
  pub private : length node.private ≡ machine.private_bytes
  pub ready : node.ready < 2 ^ 41
  pub busy : node.busy ≤ 2 ^ 40 + 2 ^ 21 * events_of node
  pub counts : CountsFit machine node.counters
  pub cache : CacheFits machine node.cache
  pub directory : DirectoryFits machine node.number node.counters.messages node.directory
  pub barrier : BarrierFits machine node.barrier
  pub mode : ModeFits machine node node.mode
  -- The messages of what was recorded are ones that the machine can have.
  pub logged : All (RecordFits machine) node.log

-- a block that a processor waits for exists
abbrev pub WaitsForABlock : MachineParts → Mode → Type 0
WaitsForABlock machine (Waiting block exclusive) = block < machine.blocks
WaitsForABlock machine _ = ⊤
