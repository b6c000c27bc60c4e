-- A node with its queue, while it runs on its own. Own.
use Rattle.std.specs.Prelude.{◌≡◌, ℕ, ◌+◌, ◌<◌, ◌==◌, not, nat_lt, Bool, true, false, List, [], ◌∷◌, ◌++◌, length, map, Option, Some, None, option_map, if◌then◌else◌}
use Rattle.std.specs.List.{filter, AllByRecursion}
use Rattle.std.specs.FinMap.{get}
use Rattle.wt_proto.specs.declared.key.Key.{Key}
use Rattle.wt_proto.specs.declared.message.Msg.{Msg}
use Rattle.wt_proto.specs.declared.message.Stamped.{Stamped}
use Rattle.wt_proto.specs.Messages.{key_of}
use Rattle.event_queue.specs.Rising.{IsRising, peek_of}
use Rattle.discrete_events.specs.Simulation.{Event, Step, Arrival, Message}
use Rattle.discrete_events.specs.World.{events_below, is_spent, least}
use Rattle.discrete_events.specs.Serial.{placed, taken}
use Rattle.node.specs.Laws.{arrivals_of, AreNumbered}
use Rattle.node.specs.React.{react, message_under_key, wind_tunnel}
use Rattle.node.specs.State.{next_key}
use Rattle.quantum.specs.declared.site.Site.{Site}
use Rattle.quantum.specs.declared.site.Turn.{Turn}
use Rattle.quantum.specs.declared.site.Turn.TheVariants as turns
use Rattle.quantum.specs.Stations.{StationModel, IsLive, pending_of, least_time_of}

-- a station that has run up to a time
abbrev pub run_up_to : ℕ → Site → StationModel
run_up_to until site = record { node = site.node; pending = pending_of site.queue; until = until; broken = false }

abbrev pub IsSite : ℕ → Site → Type 0
IsSite until site = IsLive (run_up_to until site)

abbrev pub first_time_of : List Stamped → Option ℕ
first_time_of queue = option_map (λ (key : Key). key.time) (peek_of queue)

abbrev pub least_time_at : Site → Option ℕ
least_time_at site = least_time_of (run_up_to 0 site)

-- whether a time that there may be is before another
abbrev pub comes_before_of : Option ℕ → ℕ → Bool
comes_before_of None until = false
comes_before_of (Some time) until = nat_lt time until

-- the earlier of a time that there may be and another
abbrev pub earlier_of : Option ℕ → ℕ → ℕ
earlier_of None time = time
earlier_of (Some due) time = if nat_lt time due then time else due

-- the time of the least event with one more message, by that without it
abbrev pub least_with_of : Site → Option ℕ → ℕ → Option ℕ
least_with_of site due time =
    if is_spent (wind_tunnel site.node.machine) site.node.state then due
    else if nat_lt time site.node.machine.budget then Some (earlier_of due time) else due

-- the least of the node's own events below a time
abbrev pub least_below : ℕ → Site → Option (Key × Event Msg)
least_below until site =
    least (events_below (wind_tunnel site.node.machine) until (site.node.state ∷ []) (pending_of site.queue))

abbrev pub is_message_of : Turn → Bool
is_message_of turns.Step = false
is_message_of turns.Message = true

-- a turn at a time, where that is before another
abbrev pub before_of : Turn → ℕ → ℕ → Option Turn
before_of turn time until = if nat_lt time until then Some turn else None

abbrev pub IsFirst : List Stamped → Option (Key × Event Msg) → Type 0
IsFirst [] event = ⊥
IsFirst (message ∷ messages) event = event ≡ Some (key_of message, Arrival (message_under_key message))

-- what the node does next, by its least event
abbrev pub IsTurn : ℕ → Site → Option Turn → Type 0
IsTurn until site None = least_below until site ≡ None
IsTurn until site (Some turns.Step) = least_below until site ≡ Some (next_key site.node.machine site.node.state, Step)
IsTurn until site (Some turns.Message) = IsFirst site.queue (least_below until site)

-- the node after its least event, and what it sends
pub record Handles (until : ℕ) (before after : Site) (turn : Turn) (sends_before sends_after : List Stamped) (steps_before steps_after : ℕ) : Type 0 where
  pub key : Key
  pub event : Event Msg
  pub least : least_below until before ≡ Some (key, event)
  pub node : after.node ≡ record (before.node) { state = (react before.node.machine before.node.state event).0 }
  pub pending : pending_of after.queue ≡ taken event (pending_of before.queue)
  pub rising : IsRising after.queue
  pub sends : sends_after ≡ sends_before ++ (react before.node.machine before.node.state event).1
  pub steps : steps_after ≡ steps_before + arrivals_of event
  pub stays : turn ≡ turns.Step → after.queue ≡ before.queue
  pub arrives : turn ≡ turns.Message → arrivals_of event ≡ 1

-- messages of a node that are numbered from one on, which is above the numbers of those that wait
pub record MayHandOut (site : Site) (sends : List Stamped) : Type 0 where
  pub sequence : ℕ
  pub numbered : AreNumbered sequence sends
  pub source : AllByRecursion (λ message. message.from ≡ site.node.state.number) sends
  pub below : (key : Key) (msg : Msg) → get (pending_of site.queue) key ≡ Some msg → key.from ≡ site.node.state.number → key.sequence < sequence
  pub rising : IsRising site.queue

abbrev pub own_of : ℕ → List Stamped → List (Message Msg)
own_of number sends = filter (λ message. message.0.to == number) (map message_under_key sends)

abbrev pub others_of : ℕ → List Stamped → List Stamped
others_of number sends = filter (λ message. not (message.to == number)) sends

-- What a node has sent is put among the messages that wait for it, or handed out. Each message is one step or one that
-- is handed out.
pub record HandsOut (before after : Site) (sends outs_before outs_after : List Stamped) (steps_before steps_after : ℕ) : Type 0 where
  pub node : after.node ≡ before.node
  pub pending : pending_of after.queue ≡ placed (pending_of before.queue) (own_of before.node.state.number sends)
  pub rising : IsRising after.queue
  pub outs : outs_after ≡ outs_before ++ others_of before.node.state.number sends
  pub steps : steps_after + length outs_after ≡ steps_before + length outs_before + length sends

-- whether the first of the messages may be another
abbrev pub IsLookedAt : Bool → Site → Site → ℕ → ℕ → Type 0
IsLookedAt true before after steps_before steps_after = steps_before < steps_after
IsLookedAt false before after steps_before steps_after = after.queue ≡ before.queue
