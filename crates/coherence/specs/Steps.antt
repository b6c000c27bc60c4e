-- The steps of one block: what an event of the machine does to it. Own.
use Rattle.std.specs.Prelude.{◌≡◌, ℕ, ◌+◌, ◌-◌, ◌≤◌, ◌==◌, Bool, true, false, List, [], ◌∷◌, ◌++◌, Option, Some, None, if◌then◌else◌}
use Rattle.wt_proto.specs.declared.message.Body.{Body}
use Rattle.wt_proto.specs.declared.message.Body.TheVariants.{GetS, GetX, PutS, PutX, Inv, InvAck}
use Rattle.dir1sw.specs.Table.{grant_body}
use Rattle.coherence.specs.Block.{Copy, Cell, View}
use Rattle.coherence.specs.Rows.{Row, arrive_of, wake_of, AreCalled, AreCalledForFirst}

pub data Step : Type 0 where
  -- a processor without a copy asks for one
  Ask : (node : ℕ) (exclusive : Bool) → Step
  -- a processor gives its copy to read up, and asks for the block alone
  Upgrade : (node : ℕ) (bytes : List ℕ) → Step
  -- a copy is checked in, or replaced
  Give : (node : ℕ) (copy : Copy) → Step
  -- a store to a writable copy
  Write : (node : ℕ) (old new : List ℕ) → Step
  -- Data comes that is asked for
  Fill : (node : ℕ) (exclusive : Bool) (bytes : List ℕ) (rest : List Body) → Step
  -- Inv comes
  Drop : (node : ℕ) (rest : List Body) → Step
  -- a message comes to the home, where such nodes are to be called back if any are
  Arrive : (node : ℕ) (body : Body) (rest : List Body) (called : List ℕ) → Step
  -- a Wake comes
  Wake : (called : List ℕ) → Step

-- ---- a node's part after a step

-- GetS or GetX
abbrev pub get_body : Bool → Body
get_body false = GetS
get_body true = GetX false

abbrev pub put_body : Copy → Body
put_body copy = if copy.writable then PutX copy.bytes else PutS

-- InvAck, with the bytes that the home doesn't have
abbrev pub ack_body : Option Copy → Body
ack_body None = InvAck None
ack_body (Some copy) = InvAck (if copy.writable then Some copy.bytes else None)

abbrev pub sending : Body → Cell → Cell
sending body cell = record cell { to_home = cell.to_home ++ body ∷ [] }

abbrev pub without_copy : Cell → Cell
without_copy cell = record cell { copy = None }

abbrev pub asked : Bool → Cell → Cell
asked exclusive cell = sending (get_body exclusive) (record cell { wants = Some exclusive })

abbrev pub upgraded : Cell → Cell
upgraded cell = sending (GetX true) (without_copy (record cell { wants = Some true }))

abbrev pub given : Copy → Cell → Cell
given copy cell = sending (put_body copy) (without_copy cell)

abbrev pub written : List ℕ → Cell → Cell
written bytes cell = record cell { copy = Some (record { writable = true; bytes = bytes }) }

abbrev pub filled : Bool → List ℕ → List Body → Cell → Cell
filled exclusive bytes rest cell = record cell {
  wants = None;
  copy = Some (record { writable = exclusive; bytes = bytes });
  from_home = rest;
}

abbrev pub dropped : List Body → Cell → Cell
dropped rest cell = sending (ack_body cell.copy) (without_copy (record cell { from_home = rest }))

-- ---- the block after a step

-- a node's part is this
abbrev pub with_cell : ℕ → Cell → (ℕ → Cell) → ℕ → Cell
with_cell node now cell other = if other == node then now else cell other

-- messages are sent to each node
abbrev pub with_sent : (ℕ → List Body) → (ℕ → Cell) → ℕ → Cell
with_sent sent cell node = record (cell node) { from_home = (cell node).from_home ++ sent node }

abbrev pub at_node : ℕ → Cell → View → View
at_node node now view = record view { cell = with_cell node now view.cell }

-- a row is carried out
abbrev pub by_row : Row → View → View
by_row row view = record {
  home = row.home;
  wakes = view.wakes + row.wakes;
  cell = with_sent row.sent view.cell;
}

-- the front of what a node has sent to the home is taken
abbrev pub taken : ℕ → List Body → View → View
taken node rest view = at_node node (record (view.cell node) { to_home = rest }) view

abbrev pub step_of : Step → View → View
step_of (Ask node exclusive) view = at_node node (asked exclusive (view.cell node)) view
step_of (Upgrade node bytes) view = at_node node (upgraded (view.cell node)) view
step_of (Give node copy) view = at_node node (given copy (view.cell node)) view
step_of (Write node old new) view = at_node node (written new (view.cell node)) view
step_of (Fill node exclusive bytes rest) view = at_node node (filled exclusive bytes rest (view.cell node)) view
step_of (Drop node rest) view = at_node node (dropped rest (view.cell node)) view
step_of (Arrive node body rest called) view =
    by_row (arrive_of node called body view.home) (taken node rest view)
step_of (Wake called) view = by_row (wake_of called view.home) (record view { wakes = view.wakes - 1 })

-- when a step may be done
abbrev pub IsEnabled : View → Step → Type 0
IsEnabled view (Ask node exclusive) = ((view.cell node).wants ≡ None) × ((view.cell node).copy ≡ None)
IsEnabled view (Upgrade node bytes) =
    ((view.cell node).wants ≡ None) × ((view.cell node).copy ≡ Some (record { writable = false; bytes = bytes }))
IsEnabled view (Give node copy) = (view.cell node).copy ≡ Some copy
IsEnabled view (Write node old new) = (view.cell node).copy ≡ Some (record { writable = true; bytes = old })
IsEnabled view (Fill node exclusive bytes rest) =
    ((view.cell node).wants ≡ Some exclusive) × ((view.cell node).from_home ≡ grant_body exclusive bytes ∷ rest)
IsEnabled view (Drop node rest) = (view.cell node).from_home ≡ Inv ∷ rest
IsEnabled view (Arrive node body rest called) =
    ((view.cell node).to_home ≡ body ∷ rest) × AreCalled node called view.home.roll
IsEnabled view (Wake called) = (1 ≤ view.wakes) × AreCalledForFirst called view.home
