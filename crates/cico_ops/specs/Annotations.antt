-- What an annotation does with a block, by the node's tag for it. After the check-out and check-in of cooperative
-- shared memory; the table is own.
use Rattle.std.specs.Prelude.{true, false}
use Rattle.rv_decode.specs.declared.instr.CicoOp.{CicoOp}
use Rattle.rv_decode.specs.declared.instr.CicoOp.TheVariants.{CheckOutS, CheckOutX, CheckIn}
use Rattle.block_tags.specs.declared.tag.Tag.{Tag}
use Rattle.block_tags.specs.declared.tag.Tag.TheVariants.{Invalid, ReadOnly, Writable}
use Rattle.cico_ops.specs.declared.annotation.CicoAction.{CicoAction}
use Rattle.cico_ops.specs.declared.annotation.CicoAction.TheVariants.{Nothing, GetS, GetX, PutS, PutX}

-- the table, a row a line
abbrev pub action_of : CicoOp → Tag → CicoAction
action_of CheckOutS Invalid = GetS
action_of CheckOutS ReadOnly = Nothing
action_of CheckOutS Writable = Nothing
action_of CheckOutX Invalid = GetX false
action_of CheckOutX ReadOnly = GetX true
action_of CheckOutX Writable = Nothing
action_of CheckIn Invalid = Nothing
action_of CheckIn ReadOnly = PutS
action_of CheckIn Writable = PutX
