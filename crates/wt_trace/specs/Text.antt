-- What stands in the lines of a trace and of a report: causes, blocks, messages. Own.
use Rattle.std.specs.Prelude.{ℕ, true, false, Option, Some, None, List, [], ◌++◌, codes, decimal}
use Rattle.wt_params.specs.declared.parts.MachineParts.{MachineParts}
use Rattle.wt_params.specs.Machine.{block_address}
use Rattle.wt_proto.specs.declared.message.Body.{Body}
use Rattle.wt_proto.specs.declared.message.Body.TheVariants.{GetS, GetX, PutS, PutX, DataS, DataX, Inv, InvAck, Wake, Arrive, Leave, Go}
use Rattle.wt_proto.specs.declared.message.Msg.{Msg}
use Rattle.wt_proto.specs.declared.mode.Cause.{Cause}
use Rattle.wt_proto.specs.declared.mode.Cause.TheVariants.{Exit, Illegal, Fetch, Target, Address, Misaligned, Call, Break}
use Rattle.wt_proto.specs.Messages.{data_of}
use Rattle.wt_text.specs.Text.{hex_of, hex_pairs_of}

-- why a processor has stopped
abbrev pub cause_text : Cause → List ℕ
cause_text (Exit code) = codes "exit " ++ decimal code
cause_text (Illegal word) = codes "illegal " ++ hex_of word
cause_text (Fetch address) = codes "fetch " ++ hex_of address
cause_text (Target address) = codes "target " ++ hex_of address
cause_text (Address address) = codes "address " ++ hex_of address
cause_text (Misaligned address) = codes "misaligned " ++ hex_of address
cause_text (Call number) = codes "call " ++ decimal number
cause_text Break = codes "break"

-- A block is shown by the address where it begins.
abbrev pub block_text : MachineParts → ℕ → List ℕ
block_text machine block = hex_of (block_address machine block)

-- the kind of a message; one that asks for a block alone says whether a copy to read was dropped for it
abbrev pub kind_text : Body → List ℕ
kind_text GetS = codes "GetS"
kind_text (GetX false) = codes "GetX"
kind_text (GetX true) = codes "GetX+"
kind_text PutS = codes "PutS"
kind_text (PutX bytes) = codes "PutX"
kind_text (DataS bytes) = codes "DataS"
kind_text (DataX bytes) = codes "DataX"
kind_text Inv = codes "Inv"
kind_text (InvAck bytes) = codes "InvAck"
kind_text Wake = codes "Wake"
kind_text Arrive = codes "Arrive"
kind_text Leave = codes "Leave"
kind_text Go = codes "Go"

-- the block that a message speaks of; those of the barrier speak of none
abbrev pub place_text : MachineParts → ℕ → Body → List ℕ
place_text machine block Arrive = []
place_text machine block Leave = []
place_text machine block Go = []
place_text machine block _ = codes " " ++ block_text machine block

-- the bytes that a message carries, where it does
abbrev pub data_text : Option (List ℕ) → List ℕ
data_text None = []
data_text (Some bytes) = codes " " ++ hex_pairs_of bytes

abbrev pub message_text : MachineParts → Msg → List ℕ
message_text machine msg =
    kind_text msg.body ++ place_text machine msg.block msg.body ++ data_text (data_of msg.body)
