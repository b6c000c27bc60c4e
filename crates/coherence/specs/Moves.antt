-- What an event of a node does to the barrier: where its processor stands after it, and the messages about the barrier
-- that it sends. Own.
use Rattle.std.specs.Prelude.{◌≡◌, ℕ, ◌+◌, ◌<◌, ◌==◌, Bool, true, false, List, [], ◌∷◌}
use Rattle.wt_params.specs.declared.parts.MachineParts.{MachineParts}
use Rattle.wt_proto.specs.declared.key.Key.{Key}
use Rattle.wt_proto.specs.declared.message.Body.{Body}
use Rattle.wt_proto.specs.declared.message.Body.TheVariants.{DataS, DataX, Inv, Arrive, Leave, Go}
use Rattle.wt_proto.specs.declared.message.Msg.{Msg}
use Rattle.wt_proto.specs.declared.message.Stamped.{Stamped}
use Rattle.wt_proto.specs.declared.mode.Cause.TheVariants.{Exit}
use Rattle.wt_proto.specs.declared.mode.Mode.{Mode}
use Rattle.wt_proto.specs.declared.mode.Mode.TheVariants.{Running, InBarrier, Stopped}
use Rattle.wt_proto.specs.NodeSets.{has_node}
use Rattle.target_barrier.specs.declared.barrier.Release.{Release}
use Rattle.target_barrier.specs.declared.barrier.Release.TheVariants.{Stray}
use Rattle.target_barrier.specs.Barrier.{Barrier, arrive_of, leave_of}
use Rattle.node.specs.declared.state.NodeState.{NodeState}
use Rattle.node.specs.BarrierMessage.{has_unit}
use Rattle.node.specs.React.{react_to_step, react_to_message}
use Rattle.node.specs.Sound.{IsNode}
use Rattle.coherence.specs.Deals.{IsWantedIn}
use Rattle.coherence.specs.RowDeals.{is_for_directory}
use Rattle.coherence.specs.Meetings.{Stand, once, waits_once, gone_once, told_of}
use Rattle.coherence.specs.Meetings.Stand.{Away, Waits, Gone}

-- where a processor in this mode stands
abbrev pub stand_in : Mode → Stand
stand_in InBarrier = Waits
stand_in (Stopped (Exit code)) = Gone
stand_in mode = Away

-- ---- messages about the barrier

abbrev pub arrive_in : Body → ℕ
arrive_in Arrive = 1
arrive_in body = 0

abbrev pub leave_in : Body → ℕ
leave_in Leave = 1
leave_in body = 0

-- a Go to this node
abbrev pub go_in : ℕ → ℕ → Body → ℕ
go_in node to Go = once (to == node)
go_in node to body = 0

abbrev pub arrives_in : List Stamped → ℕ
arrives_in [] = 0
arrives_in (first ∷ rest) = arrive_in first.msg.body + arrives_in rest

abbrev pub leaves_in : List Stamped → ℕ
leaves_in [] = 0
leaves_in (first ∷ rest) = leave_in first.msg.body + leaves_in rest

abbrev pub gos_in : ℕ → List Stamped → ℕ
gos_in node [] = 0
gos_in node (first ∷ rest) = go_in node first.to first.msg.body + gos_in node rest

-- ---- moves

-- Some messages have so many Arrive and Leave, and a Go to each of these nodes.
pub record Tells (arrives leaves : ℕ) (gos : List ℕ) (sends : List Stamped) : Type 0 where
  pub arrives_is : arrives_in sends ≡ arrives
  pub leaves_is : leaves_in sends ≡ leaves
  pub gos_are : (node : ℕ) → gos_in node sends ≡ once (has_node gos node)

-- A node's directory, its barrier unit and its count of stray messages stay.
pub record IsLeft (before after : NodeState) : Type 0 where
  pub directory : after.directory ≡ before.directory
  pub unit : after.barrier ≡ before.barrier
  pub stray : after.counters.stray ≡ before.counters.stray

-- A step: who comes to the barrier sends one Arrive, and who leaves for good one Leave.
pub record IsStepMove (before after : NodeState) (sends : List Stamped) : Type 0 where
  pub tells : Tells (waits_once (stand_in after.mode)) (gone_once (stand_in after.mode)) [] sends

-- A message that isn't about the barrier moves nobody there.
pub record IsNoMove (before after : NodeState) (sends : List Stamped) : Type 0 where
  pub stand : stand_in after.mode ≡ stand_in before.mode
  pub unit : after.barrier ≡ before.barrier
  pub tells : Tells 0 0 [] sends

abbrev pub is_stray_release : Release → Bool
is_stray_release Stray = true
is_stray_release release = false

-- The unit answers.
pub record IsUnitMove (answer : Barrier × Release) (before after : NodeState) (sends : List Stamped) : Type 0 where
  pub stand : stand_in after.mode ≡ stand_in before.mode
  pub directory : after.directory ≡ before.directory
  pub unit : after.barrier ≡ answer.0
  pub tells : Tells 0 0 (told_of answer.1) sends
  pub stray : after.counters.stray ≡ before.counters.stray + once (is_stray_release answer.1)

-- Go comes to who waits.
pub record IsGoMove (before after : NodeState) (sends : List Stamped) : Type 0 where
  pub left : IsLeft before after
  pub stand : stand_in after.mode ≡ Away
  pub tells : Tells 0 0 [] sends

-- ---- the law

-- the unit's answer to Arrive or Leave from a node
abbrev pub answer_to : Body → ℕ → Barrier → Barrier × Release
answer_to Leave from unit = leave_of unit from
answer_to body from unit = arrive_of unit from

abbrev pub is_for_unit : Body → Bool
is_for_unit Arrive = true
is_for_unit Leave = true
is_for_unit body = false

-- Data and Inv
abbrev pub comes_from_home : Body → Bool
comes_from_home (DataS bytes) = true
comes_from_home (DataX bytes) = true
comes_from_home Inv = true
comes_from_home body = false

abbrev pub after_message : MachineParts → NodeState → Key → Msg → NodeState
after_message machine node key msg = (react_to_message machine node key msg).0

abbrev pub sent_at_message : MachineParts → NodeState → Key → Msg → List Stamped
sent_at_message machine node key msg = (react_to_message machine node key msg).1

-- In a machine of several nodes each event of a node moves it so at the barrier. What is left is so in any machine.
pub record EventsMove : Type 0 where
  pub step : (machine : MachineParts) (node : NodeState) → (machine.nodes == 1) ≡ false → node.mode ≡ Running →
      IsStepMove node (react_to_step machine node).0 (react_to_step machine node).1
  pub step_left : (machine : MachineParts) (node : NodeState) → node.mode ≡ Running → IsLeft node (react_to_step machine node).0
  -- Data that is asked for, or Inv
  pub copy : (machine : MachineParts) (node : NodeState) (key : Key) (msg : Msg) → comes_from_home msg.body ≡ true →
      IsWantedIn node.mode msg → IsNoMove node (after_message machine node key msg) (sent_at_message machine node key msg)
  pub copy_left : (machine : MachineParts) (node : NodeState) (key : Key) (msg : Msg) → comes_from_home msg.body ≡ true →
      IsWantedIn node.mode msg → IsLeft node (after_message machine node key msg)
  pub row : (machine : MachineParts) (node : NodeState) (key : Key) (msg : Msg) → is_for_directory msg.body ≡ true →
      IsNoMove node (after_message machine node key msg) (sent_at_message machine node key msg)
  pub answer : (machine : MachineParts) (node : NodeState) (key : Key) (msg : Msg) → IsNode machine node →
      is_for_unit msg.body ≡ true → has_unit machine node ≡ true → key.from < machine.nodes →
      IsUnitMove (answer_to msg.body key.from node.barrier) node (after_message machine node key msg) (sent_at_message machine node key msg)
  pub go : (machine : MachineParts) (node : NodeState) (key : Key) (block : ℕ) → node.mode ≡ InBarrier →
      IsGoMove node (after_message machine node key (record { block = block; body = Go })) (sent_at_message machine node key (record { block = block; body = Go }))
