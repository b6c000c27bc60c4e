-- The line of an event. Own.
use Rattle.std.specs.Prelude.{ℕ, Option, Some, None, List, [], ◌++◌, ⊤, flat_map, codes, decimal, All}
use Rattle.wt_params.specs.declared.parts.MachineParts.{MachineParts}
use Rattle.wt_proto.specs.declared.key.Key.{Key}
use Rattle.wt_proto.specs.declared.message.Stamped.{Stamped}
use Rattle.wt_proto.specs.Messages.{MsgFits, StampedFits}
use Rattle.wt_text.specs.Text.{line_end, hex_of}
use Rattle.wt_trace.specs.declared.record.What.{What}
use Rattle.wt_trace.specs.declared.record.What.TheVariants.{Step, Message}
use Rattle.wt_trace.specs.declared.record.Deed.{Deed}
use Rattle.wt_trace.specs.declared.record.Deed.TheVariants.{Plain, Loaded, Stored, Stopped}
use Rattle.wt_trace.specs.declared.record.Record.{Record}
use Rattle.wt_trace.specs.Text.{cause_text, message_text}

-- an event whose message, if it is one, a machine can have
abbrev pub WhatFits : MachineParts → What → Type 0
WhatFits machine (Step pc word) = ⊤
WhatFits machine (Message msg) = MsgFits machine msg

-- a record every message of which fits a machine, what was sent too
pub record RecordFits (machine : MachineParts) (item : Record) : Type 0 where
  pub what : WhatFits machine item.what
  pub sends : All (StampedFits machine) item.sends

-- what the event was: a step with its place and word, or a message with its source and the number it has there
abbrev pub what_text : MachineParts → Key → What → List ℕ
what_text machine key (Step pc None) = codes " step " ++ hex_of pc
what_text machine key (Step pc (Some word)) = codes " step " ++ hex_of pc ++ codes " " ++ hex_of word
what_text machine key (Message msg) =
    codes " from " ++ decimal key.from ++ codes " #" ++ decimal key.sequence ++ codes " " ++ message_text machine msg

-- what it did to memory, or why the processor has stopped
abbrev pub deed_text : Deed → List ℕ
deed_text Plain = []
deed_text (Loaded address value) = codes " load " ++ hex_of address ++ codes " " ++ hex_of value
deed_text (Stored address width value) =
    codes " store " ++ hex_of address ++ codes " " ++ decimal width ++ codes " " ++ hex_of value
deed_text (Stopped cause) = codes " stop " ++ cause_text cause

-- the cycles of its directory trap, where it had one
abbrev pub trap_text : Option ℕ → List ℕ
trap_text None = []
trap_text (Some cycles) = codes " trap " ++ decimal cycles

-- a message that it sent: to whom, what, when it arrives, and its number
abbrev pub send_text : MachineParts → Stamped → List ℕ
send_text machine send =
    codes " > " ++ decimal send.to ++ codes " " ++ message_text machine send.msg
    ++ codes " at " ++ decimal send.time ++ codes " #" ++ decimal send.sequence

-- the line of an event, its messages in the order in which it sent them
abbrev pub line_of : MachineParts → Record → List ℕ
line_of machine item =
    codes "event " ++ decimal item.key.time ++ codes " " ++ decimal item.key.to
    ++ what_text machine item.key item.what ++ deed_text item.deed ++ trap_text item.trap
    ++ flat_map (send_text machine) item.sends ++ line_end
