-- What fits a machine stays so: the laws of the directory's tables. Own.
use Rattle.std.specs.Prelude.{◌≡◌, ℕ, ◌+◌, ◌<◌, ◌≤◌, length, All, IfSome}
use Rattle.dir_list.specs.Known.{AreBelow}
use Rattle.wt_params.specs.declared.parts.MachineParts.{MachineParts}
use Rattle.wt_proto.specs.declared.directory.DirState.{DirState}
use Rattle.wt_proto.specs.declared.directory.DirState.TheVariants.{Shared, Exclusive, Busy}
use Rattle.wt_proto.specs.declared.directory.Request.{Request}
use Rattle.wt_proto.specs.declared.directory.Targets.{Targets}
use Rattle.wt_proto.specs.declared.directory.Targets.TheVariants.{AllBut, One}
use Rattle.wt_proto.specs.declared.message.Body.{Body}
use Rattle.wt_proto.specs.declared.message.Outgoing.{Outgoing}
use Rattle.wt_proto.specs.Messages.{MsgFits, data_of}
use Rattle.dir1sw.specs.declared.home.DirAct.{DirAct}
use Rattle.dir1sw.specs.declared.home.DirAct.TheVariants.{Trap}
use Rattle.dir1sw.specs.declared.home.HomeBlock.{HomeBlock}
use Rattle.dir1sw.specs.declared.home.Place.{Place}
use Rattle.dir1sw.specs.Table.{Row, copies_of, arrive_of}

-- the nodes that a state names are nodes of the machine
abbrev pub StateFits : MachineParts → DirState → Type 0
StateFits machine (Shared readers) = AreBelow machine.nodes readers
StateFits machine (Exclusive owner) = owner < machine.nodes
StateFits machine (Busy from exclusive left) = from < machine.nodes
StateFits machine _ = Unit {0}

pub record HomeFits (machine : MachineParts) (home : HomeBlock) : Type 0 where
  pub state : StateFits machine home.entry.state
  pub waiting : All (λ (request : Request). request.node < machine.nodes) home.entry.waiting
  pub memory : length home.memory ≡ machine.block_bytes

-- a message to a node of the machine that the machine can have
pub record SendFits (machine : MachineParts) (send : Outgoing) : Type 0 where
  pub to : send.to < machine.nodes
  pub msg : MsgFits machine send.msg

-- a trap that calls back from nodes of the machine
abbrev pub ActFits : MachineParts → DirAct → Type 0
ActFits machine (Trap plan) = TargetsFit plan.targets
  where
    TargetsFit : Targets → Type 0
    TargetsFit (AllBut node) = node < machine.nodes
    TargetsFit (One node) = node < machine.nodes
ActFits machine _ = Unit {0}

-- a message has come from a node of the machine to a block that exists, with the bytes of a block
pub record PlaceFits (machine : MachineParts) (place : Place) : Type 0 where
  pub some : 1 ≤ machine.nodes
  pub nodes : place.nodes ≡ machine.nodes
  pub from : place.from < machine.nodes
  pub block : place.block < machine.blocks

abbrev pub BytesFit : MachineParts → Body → Type 0
BytesFit machine body = IfSome (data_of body) (λ bytes. length bytes ≡ machine.block_bytes)

-- What a row leaves and sends fits, no more than so many messages are sent, and at most one copy more is counted.
pub record RowFits (machine : MachineParts) (before : HomeBlock) (most : ℕ) (row : Row) : Type 0 where
  pub home : HomeFits machine row.home
  pub sends : All (SendFits machine) row.sends
  pub few : length row.sends ≤ most
  pub act : ActFits machine row.act
  pub copies : copies_of row.home.entry.state ≤ copies_of before.entry.state + 1

-- Each row of the tables leaves and sends what fits, and at most a message to each node and one more, where what has come
-- fits.
abbrev pub RowsFit : Type 0
RowsFit =
    (machine : MachineParts) (place : Place) (body : Body) (home : HomeBlock) → PlaceFits machine place
    → BytesFit machine body → HomeFits machine home → RowFits machine home (machine.nodes + 1) (arrive_of place body home)
