-- All nodes at a moment, the messages under way between them, and the events that are due. Own.
use Rattle.std.specs.Prelude.{ℕ, ◌==◌, ◌&&◌, not, nat_lt, Bool, List, [], ◌∷◌, ◌++◌, if◌then◌else◌, flat_map, map, Option, Some, None}
use Rattle.std.specs.List.{list_any}
use Rattle.std.specs.Ordering.{is_lt}
use Rattle.std.specs.FinMap.{FinMap, entries, retain_keys}
use Rattle.wt_proto.specs.declared.key.Key.{Key}
use Rattle.wt_proto.specs.KeyOrder.{key_cmp}
use Rattle.discrete_events.specs.Simulation.{Simulation, Event, Step, Arrival, Message, step_key}

-- The nodes, the pending messages in rising order of their keys, the end of the last quantum that
-- was begun, and the number of quanta.
pub record World (S X : Type 0) : Type 0 where
  pub nodes : List S
  pub pending : FinMap key_cmp X
  pub kept_end : ℕ
  pub quanta : ℕ

-- A spent node handles no more events.
abbrev pub is_spent : {S X : Type 0} → Simulation S X → S → Bool
is_spent sim node = sim.handled node == sim.event_limit

-- An event below a time counts where its node isn't spent.
abbrev pub counts_below : {S X : Type 0} → Simulation S X → ℕ → S → ℕ → Bool
counts_below sim until node time = not (is_spent sim node) && nat_lt time until

-- a step of a node at a time, where it has one and the step counts
abbrev pub step_at : {S X : Type 0} → Simulation S X → ℕ → S → Option ℕ → List (Key × Event X)
step_at sim until node None = []
step_at sim until node (Some time) =
    if counts_below sim until node time then (step_key sim node time, Step) ∷ [] else []

-- the next step of a node's processor, where it runs and the step counts
abbrev pub steps_below : {S X : Type 0} → Simulation S X → ℕ → S → List (Key × Event X)
steps_below sim until node = step_at sim until node (sim.next node)

-- whether a message with this key is one that counts for one of the nodes
abbrev pub reaches_below : {S X : Type 0} → Simulation S X → ℕ → List S → Key → Bool
reaches_below sim until nodes key =
    list_any (λ node. sim.number node == key.to && counts_below sim until node key.time) nodes

abbrev pub arrival : {X : Type 0} → Message X → Key × Event X
arrival message = (message.0, Arrival message)

-- The events below a time of some nodes, each under its key.
abbrev pub events_below : {S X : Type 0} → Simulation S X → ℕ → List S → FinMap key_cmp X → List (Key × Event X)
events_below sim until nodes pending =
    flat_map (steps_below sim until) nodes
    ++ map arrival (entries (retain_keys pending (reaches_below sim until nodes)))

-- the event of lesser key
abbrev pub lesser : {X : Type 0} → Key × Event X → Option (Key × Event X) → Key × Event X
lesser event None = event
lesser event (Some other) = if is_lt (key_cmp other.0 event.0) then other else event

-- the event of least key
abbrev pub least : {X : Type 0} → List (Key × Event X) → Option (Key × Event X)
least [] = None
least (event ∷ events) = Some (lesser event (least events))

-- the events of a world
abbrev pub events_in : {S X : Type 0} → Simulation S X → World S X → List (Key × Event X)
events_in sim world = events_below sim sim.budget world.nodes world.pending
