-- One event of a node: its next step, or a message that comes to it. Own.
use Rattle.std.specs.Prelude.{ℕ, ◌+◌, true, false, Bool, List, [], ◌∷◌, ◌++◌, length, map, Some}
use Rattle.wt_params.specs.declared.parts.MachineParts.{MachineParts}
use Rattle.wt_proto.specs.declared.key.Key.{Key}
use Rattle.wt_proto.specs.declared.message.Body.{Body}
use Rattle.wt_proto.specs.declared.message.Body.TheVariants.{DataS, DataX, Inv, Arrive, Leave, Go}
use Rattle.wt_proto.specs.declared.message.Msg.{Msg}
use Rattle.wt_proto.specs.declared.message.Stamped.{Stamped}
use Rattle.wt_proto.specs.Messages.{key_of}
use Rattle.wt_params.specs.Mesh.{lookahead_of}
use Rattle.wt_network.specs.Stamps.{stamp_of}
use Rattle.wt_trace.specs.declared.record.Record.{Record}
use Rattle.wt_trace.specs.declared.record.What.{What}
use Rattle.wt_trace.specs.declared.record.What.TheVariants as whats
use Rattle.discrete_events.specs.Simulation.{Simulation, Event, Step, Arrival, Message}
use Rattle.node.specs.declared.state.NodeState.{NodeState}
use Rattle.node.specs.declared.state.Send.{Send}
use Rattle.node.specs.State.{events_of, step_time, next_step_of, next_key}
use Rattle.node.specs.Handled.{Handled}
use Rattle.node.specs.Processor.{fetch_of, step_of}
use Rattle.node.specs.DirectoryMessage.{directory_message_of}
use Rattle.node.specs.DataMessage.{data_message_of}
use Rattle.node.specs.InvMessage.{inv_message_of}
use Rattle.node.specs.BarrierMessage.{arrive_message_of, leave_message_of, go_message_of}

-- ---- the stamp: each send of a node has the next number among all that the node sends

abbrev pub stamped : MachineParts → ℕ → ℕ → Send → Stamped
stamped machine from sequence send = record {
  time = stamp_of machine from send.to send.at;
  to = send.to;
  from = from;
  sequence = sequence;
  msg = send.msg;
}

abbrev pub stamped_from : MachineParts → ℕ → ℕ → List Send → List Stamped
stamped_from machine from sequence [] = []
stamped_from machine from sequence (send ∷ sends) =
    stamped machine from sequence send ∷ stamped_from machine from (sequence + 1) sends

-- ---- the event

-- one more step is handled, the last event so far
abbrev pub counted_step : Key → NodeState → NodeState
counted_step key node = record node {
  counters = record (node.counters) { steps = node.counters.steps + 1 };
  last = Some key;
}

-- one more message
abbrev pub counted_message : Key → NodeState → NodeState
counted_message key node = record node {
  counters = record (node.counters) { messages = node.counters.messages + 1 };
  last = Some key;
}

-- a message that comes at a time from a node
abbrev pub message_by : MachineParts → ℕ → ℕ → ℕ → Body → NodeState → Handled
message_by machine time from block (DataS bytes) node =
    data_message_of machine time (record { block = block; writable = false; bytes = bytes }) node
message_by machine time from block (DataX bytes) node =
    data_message_of machine time (record { block = block; writable = true; bytes = bytes }) node
message_by machine time from block Inv node = inv_message_of machine time block node
message_by machine time from block Arrive node = arrive_message_of machine time from node
message_by machine time from block Leave node = leave_message_of machine time from node
message_by machine time from block Go node = go_message_of machine time node
message_by machine time from block body node =
    directory_message_of machine time from (record { block = block; body = body }) node

unfoldable pub message_of : MachineParts → ℕ → ℕ → Msg → NodeState → Handled
message_of machine time from msg node = message_by machine time from msg.block msg.body node

-- A record is added where the node is traced.
abbrev pub logged : Bool → Record → List Record → List Record
logged true event log = log ++ event ∷ []
logged false event log = log

-- what is recorded of an event
abbrev pub recorded : Key → What → List Stamped → Handled → Record
recorded key what sends handled = record { key = key; what = what; deed = handled.deed; trap = handled.trap; sends = sends }

-- The sends are stamped and counted, and the event is recorded.
abbrev pub ended : Key → What → List Stamped → Handled → NodeState
ended key what sends handled = record (handled.node) {
  counters = record (handled.node.counters) { sent = handled.node.counters.sent + length handled.sends };
  log = logged handled.node.traced (recorded key what sends handled) handled.node.log;
}

abbrev pub sends_of : MachineParts → Handled → List Stamped
sends_of machine handled = stamped_from machine handled.node.number handled.node.counters.sent handled.sends

abbrev pub react_with : MachineParts → Key → What → Handled → NodeState × List Stamped
react_with machine key what handled =
    (ended key what (sends_of machine handled) handled, sends_of machine handled)

-- the step that a node does next
abbrev pub next_handled : MachineParts → NodeState → Handled
next_handled machine node = step_of machine (step_time node) (counted_step (next_key machine node) node)

abbrev pub next_what : MachineParts → NodeState → What
next_what machine node = whats.Step node.pc (fetch_of machine node)

-- the node after its next step, and the messages that it sends
unfoldable pub react_to_step : MachineParts → NodeState → NodeState × List Stamped
react_to_step machine node =
    react_with machine (next_key machine node) (next_what machine node) (next_handled machine node)

-- a message that a node handles
abbrev pub message_handled : MachineParts → NodeState → Key → Msg → Handled
message_handled machine node key msg = message_of machine key.time key.from msg (counted_message key node)

-- the node after a message, and the messages that it sends
unfoldable pub react_to_message : MachineParts → NodeState → Key → Msg → NodeState × List Stamped
react_to_message machine node key msg =
    react_with machine key (whats.Message msg) (message_handled machine node key msg)

abbrev pub react : MachineParts → NodeState → Event Msg → NodeState × List Stamped
react machine node Step = react_to_step machine node
react machine node (Arrival message) = react_to_message machine node message.0 message.1

-- the record of an event
abbrev pub record_with : MachineParts → Key → What → Handled → Record
record_with machine key what handled = recorded key what (sends_of machine handled) handled

unfoldable pub record_of : MachineParts → NodeState → Event Msg → Record
record_of machine node Step =
    record_with machine (next_key machine node) (next_what machine node) (next_handled machine node)
record_of machine node (Arrival message) =
    record_with machine message.0 (whats.Message message.1) (message_handled machine node message.0 message.1)

-- ---- the machine, as a simulation of its nodes

abbrev pub message_under_key : Stamped → Message Msg
message_under_key message = (key_of message, message.msg)

abbrev pub wind_tunnel : MachineParts → Simulation NodeState Msg
wind_tunnel machine = record {
  nodes = machine.nodes;
  event_limit = machine.event_limit;
  budget = machine.budget;
  quantum = machine.quantum;
  lookahead = lookahead_of machine;
  number = λ node. node.number;
  handled = events_of;
  last = λ node. node.last;
  sent = λ node. node.counters.sent;
  next = next_step_of;
  react = λ node event. ((react machine node event).0, map message_under_key (react machine node event).1);
}
