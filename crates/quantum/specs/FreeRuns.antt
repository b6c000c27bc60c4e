-- A node that runs on its own up to a time. Own.
use Rattle.std.specs.Prelude.{◌≡◌, ℕ, ◌+◌, ◌-◌, ◌*◌, ◌<◌, ◌≤◌, ⊤, List, [], ◌∷◌, ◌++◌, length, map}
use Rattle.wt_proto.specs.declared.message.Msg.{Msg}
use Rattle.wt_proto.specs.declared.message.Stamped.{Stamped}
use Rattle.discrete_events.specs.Core.{Station, run_to as run_of}
use Rattle.discrete_events.specs.Simulation.{Message}
use Rattle.node.specs.declared.state.NodeState.{NodeState}
use Rattle.node.specs.React.{message_under_key, wind_tunnel}
use Rattle.quantum.specs.Stations.{StationModel, station_of, machine_of}

-- a station that has run up to a time, and the messages to other nodes
abbrev pub run_to_of : ℕ → StationModel → Station NodeState Msg × List (Message Msg)
run_to_of until station = run_of (wind_tunnel (machine_of station)) until (station_of station)

-- the messages that a node has handled and those that it has sent, before a run and after it
abbrev pub handled_between : NodeState → NodeState → ℕ
handled_between before after = after.counters.messages - before.counters.messages

abbrev pub sent_between : NodeState → NodeState → ℕ
sent_between before after = after.counters.sent - before.counters.sent

-- The sequences of messages rise, from one on and up to another.
abbrev pub RiseWithin : ℕ → ℕ → List Stamped → Type 0
RiseWithin least end [] = ⊤
RiseWithin least end (message ∷ messages) =
    (least ≤ message.sequence) × (message.sequence < end) × RiseWithin (message.sequence + 1) end messages

-- What a run hands out: exactly the messages to other nodes in order of sending, numbered from what the node had sent
-- before.
pub record IsHandedOut (until : ℕ) (before after : StationModel) (outs : List Stamped) : Type 0 where
  pub exactly : map message_under_key outs ≡ (run_to_of until before).1
  pub numbered : RiseWithin before.node.state.counters.sent after.node.state.counters.sent outs
  pub grown : before.node.state.counters.sent ≤ after.node.state.counters.sent
  pub counted : length outs ≤ sent_between before.node.state after.node.state

-- The bound of a free run: with m messages handled, and k messages sent to the node itself, the queue is asked at most
-- 3 * m + 2 * k + 2 times. The number of instructions isn't in it.
abbrev pub IsFree : ℕ → ℕ → NodeState → NodeState → List Stamped → Type 0
IsFree steps_before steps_after before after outs =
    steps_after ≤ steps_before + 3 * handled_between before after + 2 * (sent_between before after - length outs) + 2

-- What a run adds to a list of messages: exactly what it hands out, within its bound.
pub record AddsOuts (until : ℕ) (before after : StationModel) (list_before list_after : List Stamped) (steps_before steps_after : ℕ) : Type 0 where
  pub outs : List Stamped
  pub added : list_after ≡ list_before ++ outs
  pub handed : IsHandedOut until before after outs
  pub free : IsFree steps_before steps_after before.node.state after.node.state outs
