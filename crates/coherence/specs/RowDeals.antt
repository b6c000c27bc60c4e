-- What a message does at the home of its block: what the row of the directory's tables says. Own.
use Rattle.std.specs.Prelude.{◌≡◌, ◌≢◌, ℕ, ◌+◌, ◌<◌, Bool, true, false, List, map}
use Rattle.std.specs.List.{AllByRecursion}
use Rattle.wt_params.specs.declared.parts.MachineParts.{MachineParts}
use Rattle.wt_params.specs.Machine.{home_of}
use Rattle.wt_proto.specs.declared.key.Key.{Key}
use Rattle.wt_proto.specs.declared.message.Body.{Body}
use Rattle.wt_proto.specs.declared.message.Body.TheVariants.{GetS, GetX, PutS, PutX, InvAck, Wake}
use Rattle.wt_proto.specs.declared.message.Msg.{Msg}
use Rattle.wt_proto.specs.declared.message.Outgoing.{Outgoing}
use Rattle.wt_proto.specs.declared.message.Stamped.{Stamped}
use Rattle.dir1sw.specs.Homes.{row_of, place_of, block_of}
use Rattle.node.specs.declared.state.NodeState.{NodeState}
use Rattle.node.specs.React.{react_to_message}
use Rattle.node.specs.Sound.{IsNode}
use Rattle.coherence.specs.Entries.{all_sends, is_stray}
use Rattle.coherence.specs.Meetings.{once}
use Rattle.coherence.specs.Pipes.{not_to_home_of}

-- the messages of a directory
abbrev pub is_for_directory : Body → Bool
is_for_directory GetS = true
is_for_directory (GetX had) = true
is_for_directory PutS = true
is_for_directory (PutX bytes) = true
is_for_directory (InvAck bytes) = true
is_for_directory Wake = true
is_for_directory body = false

-- messages without their stamps
abbrev pub outgoing : List Stamped → List Outgoing
outgoing sends = map (λ (send : Stamped). record { to = send.to; msg = send.msg }) sends

-- A row was carried out at a node for a message about a block: what is kept of the block, of the others whose home the
-- node is, what was sent, and what was counted as stray. The node's processor and its copies stay. What was sent is about
-- the block, and is no request, no copy that goes back and no answer.
pub record IsRowDone (machine : MachineParts) (node : NodeState) (from : ℕ) (msg : Msg) (after : NodeState) (sends : List Stamped) : Type 0 where
  pub home : block_of after.directory msg.block ≡ (row_of node.directory from msg).home
  pub others : (other : ℕ) → home_of machine other ≡ node.number → (other ≢ msg.block) →
      block_of after.directory other ≡ block_of node.directory other
  pub sent : outgoing sends ≡ all_sends (place_of node.directory msg.block from) (row_of node.directory from msg)
  pub about : AllByRecursion (λ (send : Stamped). (send.msg.block ≡ msg.block) × (not_to_home_of send.msg.body ≡ 1)) sends
  pub stray : after.counters.stray ≡ node.counters.stray + once (is_stray (row_of node.directory from msg).act)
  pub mode : after.mode ≡ node.mode
  pub cache : after.cache ≡ node.cache

abbrev pub RowsDeal : Type 0
RowsDeal =
    (machine : MachineParts) (node : NodeState) (key : Key) (msg : Msg) → IsNode machine node →
    is_for_directory msg.body ≡ true → msg.block < machine.blocks → home_of machine msg.block ≡ node.number →
    IsRowDone machine node key.from msg (react_to_message machine node key msg).0 (react_to_message machine node key msg).1
