-- Where each message goes, and when it leaves. Own.
use Rattle.std.specs.Prelude.{◌≡◌, ⊤, ℕ, ◌==◌, ◌≤◌, Bool, true, false, List}
use Rattle.std.specs.List.{AllByRecursion}
use Rattle.wt_params.specs.declared.parts.MachineParts.{MachineParts}
use Rattle.wt_params.specs.Machine.{home_of}
use Rattle.wt_network.specs.Stamps.{stamp_of}
use Rattle.wt_proto.specs.declared.key.Key.{Key}
use Rattle.wt_proto.specs.declared.message.Body.{Body}
use Rattle.wt_proto.specs.declared.message.Body.TheVariants.{GetS, GetX, PutS, PutX, DataS, DataX, Inv, InvAck, Wake, Arrive, Leave, Go}
use Rattle.wt_proto.specs.declared.message.Msg.{Msg}
use Rattle.wt_proto.specs.declared.message.Stamped.{Stamped}
use Rattle.node.specs.declared.state.NodeState.{NodeState}
use Rattle.node.specs.State.{step_time}
use Rattle.node.specs.React.{react_to_step, react_to_message}
use Rattle.node.specs.Sound.{IsNode}
use Rattle.coherence.specs.RowDeals.{is_for_directory}

-- Requests, copies that are given back and answers go to the home of their block, copies and calls come from it, and a
-- Wake does both. The barrier unit is at node 0 of a machine of several nodes.
abbrev pub GoesRight : MachineParts → ℕ → ℕ → ℕ → Body → Type 0
GoesRight machine from to block GetS = to ≡ home_of machine block
GoesRight machine from to block (GetX had) = to ≡ home_of machine block
GoesRight machine from to block PutS = to ≡ home_of machine block
GoesRight machine from to block (PutX bytes) = to ≡ home_of machine block
GoesRight machine from to block (InvAck bytes) = to ≡ home_of machine block
GoesRight machine from to block (DataS bytes) = from ≡ home_of machine block
GoesRight machine from to block (DataX bytes) = from ≡ home_of machine block
GoesRight machine from to block Inv = from ≡ home_of machine block
GoesRight machine from to block Wake = (from ≡ home_of machine block) × (to ≡ home_of machine block)
GoesRight machine from to block Arrive = (to ≡ 0) × ((machine.nodes == 1) ≡ false)
GoesRight machine from to block Leave = (to ≡ 0) × ((machine.nodes == 1) ≡ false)
GoesRight machine from to block Go = (from ≡ 0) × ((machine.nodes == 1) ≡ false)

-- All but Inv, which a trap may send later, leave at the time of their event.
abbrev pub LeavesAt : ℕ → ℕ → Body → Type 0
LeavesAt time at Inv = ⊤
LeavesAt time at body = at ≡ time

-- A message leaves so at this time of an event.
pub record IsRightSend (machine : MachineParts) (time at : ℕ) (send : Stamped) : Type 0 where
  pub stamp : send.time ≡ stamp_of machine send.from send.to at
  pub leaves : LeavesAt time at send.msg.body
  pub goes : GoesRight machine send.from send.to send.msg.block send.msg.body

-- All messages of one event leave at one time: at the time of the event, or later where they are the calls of a trap.
pub record AreRightSends (machine : MachineParts) (time : ℕ) (sends : List Stamped) : Type 0 where
  pub at : ℕ
  pub not_before : time ≤ at
  pub all : AllByRecursion (IsRightSend machine time at) sends

-- what only the home of a block sends
abbrev pub is_of_home : Body → Bool
is_of_home (DataS bytes) = true
is_of_home (DataX bytes) = true
is_of_home Inv = true
is_of_home Wake = true
is_of_home body = false

abbrev pub IsNotOfHome : Stamped → Type 0
IsNotOfHome = λ send. is_of_home send.msg.body ≡ false

-- The messages of each event are right, and only those of a row of the directory are a home's.
pub record SendsAreRight : Type 0 where
  pub step : (machine : MachineParts) (node : NodeState) → IsNode machine node →
      AreRightSends machine (step_time node) (react_to_step machine node).1
  pub message : (machine : MachineParts) (node : NodeState) (key : Key) (msg : Msg) → IsNode machine node →
      AreRightSends machine key.time (react_to_message machine node key msg).1
  pub step_out : (machine : MachineParts) (node : NodeState) → AllByRecursion IsNotOfHome (react_to_step machine node).1
  pub message_out : (machine : MachineParts) (node : NodeState) (key : Key) (msg : Msg) → is_for_directory msg.body ≡ false →
      AllByRecursion IsNotOfHome (react_to_message machine node key msg).1
