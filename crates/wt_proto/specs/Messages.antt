-- Messages, their keys, and which of them a machine can have. Own.
use Rattle.std.specs.Prelude.{◌≡◌, ℕ, ◌<◌, List, length, Option, Some, None, IfSome}
use Rattle.wt_params.specs.declared.parts.MachineParts.{MachineParts}
use Rattle.wt_proto.specs.declared.key.Key.{Key}
use Rattle.wt_proto.specs.declared.message.Body.{Body}
use Rattle.wt_proto.specs.declared.message.Body.TheVariants.{PutX, DataS, DataX, InvAck, Arrive, Leave, Go}
use Rattle.wt_proto.specs.declared.message.Msg.{Msg}
use Rattle.wt_proto.specs.declared.message.Stamped.{Stamped}

-- A message is ordered by its time, its destination, its source and its sequence.
abbrev pub key_of : Stamped → Key
key_of message = record {
  time = message.time;
  to = message.to;
  from = message.from;
  sequence = message.sequence;
}

-- the bytes that a message carries
abbrev pub data_of : Body → Option (List ℕ)
data_of (PutX bytes) = Some bytes
data_of (DataS bytes) = Some bytes
data_of (DataX bytes) = Some bytes
data_of (InvAck bytes) = bytes
data_of _ = None

-- The messages of the barrier name block 0, all others a block that exists.
abbrev pub BlockFits : MachineParts → ℕ → Body → Type 0
BlockFits machine block Arrive = block ≡ 0
BlockFits machine block Leave = block ≡ 0
BlockFits machine block Go = block ≡ 0
BlockFits machine block _ = block < machine.blocks

-- a message whose block exists and whose data has the length of a block
pub record MsgFits (machine : MachineParts) (msg : Msg) : Type 0 where
  pub block : BlockFits machine msg.block msg.body
  pub «data» : IfSome (data_of msg.body) (λ bytes. length bytes ≡ machine.block_bytes)

-- A message fits a machine where it is also from a node of the machine to a node of the machine.
pub record StampedFits (machine : MachineParts) (message : Stamped) : Type 0 where
  pub to : message.to < machine.nodes
  pub from : message.from < machine.nodes
  pub msg : MsgFits machine message.msg
