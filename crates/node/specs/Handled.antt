-- What an event does: the node after it, the messages that it sends, and what else is recorded of it. Own.
use Rattle.std.specs.Prelude.{◌≡◌, ℕ, List, [], ◌∷◌, ◌++◌, Option, Some, None, if◌then◌else◌}
use Rattle.wt_params.specs.declared.parts.MachineParts.{MachineParts}
use Rattle.wt_params.specs.Machine.{home_of}
use Rattle.rv_exec.specs.Meaning.{address_after}
use Rattle.wt_proto.specs.declared.message.Body.{Body}
use Rattle.wt_proto.specs.declared.message.Body.TheVariants.{PutS, PutX}
use Rattle.wt_proto.specs.declared.message.Outgoing.{Outgoing}
use Rattle.wt_proto.specs.declared.mode.Cause.{Cause}
use Rattle.wt_proto.specs.declared.mode.Mode.TheVariants.{Stopped as IsStopped}
use Rattle.target_cache.specs.declared.line.Line.{Line}
use Rattle.wt_trace.specs.declared.record.Deed.{Deed}
use Rattle.wt_trace.specs.declared.record.Deed.TheVariants.{Plain, Loaded, Stored, Stopped}
use Rattle.node.specs.declared.state.NodeState.{NodeState}
use Rattle.node.specs.declared.state.Send.{Send}
use Rattle.node.specs.declared.state.Course.{Course}
use Rattle.node.specs.State.{in_mode, one_done, with_register}

pub record Handled : Type 0 where
  pub node : NodeState
  -- in the order of sending
  pub sends : List Send
  pub deed : Deed
  -- the cycles of a directory trap
  pub trap : Option ℕ

-- nothing is sent, and nothing else recorded
abbrev pub quiet : NodeState → Handled
quiet node = record { node = node; sends = []; deed = Plain; trap = None }

abbrev pub sending : List Send → Handled → Handled
sending sends handled = record handled { sends = sends }

-- A stop leaves the pc and the time as they are.
abbrev pub stopped : Cause → NodeState → Handled
stopped cause node = record (quiet (in_mode (IsStopped cause) node)) { deed = Stopped cause }

-- An instruction that is finished goes on to the next one, which may begin when this one's cost is paid.
abbrev pub moved_on : ℕ → ℕ → NodeState → NodeState
moved_on next ready node = record (one_done node) { pc = next; ready = ready }

-- a load that puts a value into its register
abbrev pub loaded_into : ℕ → ℕ → ℕ → ℕ → NodeState → Handled
loaded_into rd value address ready node =
    record (quiet (moved_on (address_after node.pc) ready (with_register node rd value))) { deed = Loaded address value }

-- a store that is done
abbrev pub stored_at : ℕ → ℕ → ℕ → ℕ → NodeState → Handled
stored_at address width value ready node =
    record (quiet (moved_on (address_after node.pc) ready node)) { deed = Stored address width value }

-- ---- messages

-- a message at a time to a node, about a block
abbrev pub message_to : ℕ → ℕ → ℕ → Body → Send
message_to time to block body = record { at = time; to = to; msg = record { block = block; body = body } }

-- a message at a time to the home of a block
abbrev pub to_home : MachineParts → ℕ → ℕ → Body → Send
to_home machine time block body = message_to time (home_of machine block) block body

-- a message that leaves at a time
abbrev pub sent_at : ℕ → Outgoing → Send
sent_at time outgoing = record { at = time; to = outgoing.to; msg = outgoing.msg }

-- A line goes back to its home by PutS where it was read-only, and by PutX with its bytes where it was writable.
abbrev pub give_back_of : MachineParts → ℕ → Line → Send
give_back_of machine time line = to_home machine time line.block (if line.writable then PutX line.bytes else PutS)

abbrev pub gives_back : MachineParts → ℕ → Option Line → List Send
gives_back machine time None = []
gives_back machine time (Some line) = give_back_of machine time line ∷ []

-- ---- an event was handled

-- an event that left a node, with these messages and this course
abbrev pub handled_with : NodeState → List Send → Course → Handled
handled_with node sends course = record { node = node; sends = sends; deed = course.deed; trap = course.trap }

-- a step, which never traps
abbrev pub stepped_with : NodeState → List Send → Deed → Handled
stepped_with node sends deed = record { node = node; sends = sends; deed = deed; trap = None }

-- this is the node, these messages were added, and this was recorded
pub record IsHandled (handled : Handled) (now : NodeState) (before after : List Send) (course : Course) : Type 0 where
  pub node : now ≡ handled.node
  pub sends : after ≡ before ++ handled.sends
  pub deed : course.deed ≡ handled.deed
  pub trap : course.trap ≡ handled.trap

-- the same of a step, which never traps
pub record IsStepped (handled : Handled) (now : NodeState) (before after : List Send) (done : Deed) : Type 0 where
  pub node : now ≡ handled.node
  pub sends : after ≡ before ++ handled.sends
  pub deed : done ≡ handled.deed
  pub trap : handled.trap ≡ None
