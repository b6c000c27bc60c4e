-- The barrier of the machine by itself: its unit, where each processor stands, and the messages about it. Own.
use Rattle.std.specs.Prelude.{◌≡◌, ℕ, ◌+◌, ◌-◌, ◌≤◌, ◌==◌, Bool, false, List, [], if◌then◌else◌}
use Rattle.wt_proto.specs.NodeSets.{has_node}
use Rattle.target_barrier.specs.declared.barrier.Release.{Release}
use Rattle.target_barrier.specs.declared.barrier.Release.TheVariants.{Go}
use Rattle.target_barrier.specs.Barrier.{Barrier, is_known, arrive_of, leave_of}

-- a processor isn't at the barrier, waits at it, or has left for good
pub data Stand : Type 0 where
  Away : Stand
  Waits : Stand
  Gone : Stand

-- a node's part: where its processor stands, how many Arrive and Leave are under way from it, and how many Go to it
pub record Part : Type 0 where
  pub stand : Stand
  pub arrives : ℕ
  pub leaves : ℕ
  pub gos : ℕ

pub record Meeting : Type 0 where
  pub unit : Barrier
  pub part : ℕ → Part

pub data Move : Type 0 where
  -- a processor comes to the barrier
  Come : (node : ℕ) → Move
  -- or leaves for good
  Quit : (node : ℕ) → Move
  -- Arrive, Leave or Go comes
  ArriveComes : (node : ℕ) → Move
  LeaveComes : (node : ℕ) → Move
  GoComes : (node : ℕ) → Move

-- ---- what a move does

abbrev pub with_part : ℕ → Part → (ℕ → Part) → ℕ → Part
with_part node now part other = if other == node then now else part other

abbrev pub once : Bool → ℕ
once test = if test then 1 else 0

-- Go to each of a set
abbrev pub with_gos : List ℕ → (ℕ → Part) → ℕ → Part
with_gos nodes part node = record (part node) { gos = (part node).gos + once (has_node nodes node) }

abbrev pub told_of : Release → List ℕ
told_of (Go nodes) = nodes
told_of _ = []

-- the unit has answered
abbrev pub by_unit : Barrier × Release → (ℕ → Part) → Meeting
by_unit after part = record { unit = after.0; part = with_gos (told_of after.1) part }

abbrev pub move_of : Move → Meeting → Meeting
move_of (Come node) now =
    record now { part = with_part node (record (now.part node) { stand = Waits; arrives = (now.part node).arrives + 1 }) now.part }
move_of (Quit node) now =
    record now { part = with_part node (record (now.part node) { stand = Gone; leaves = (now.part node).leaves + 1 }) now.part }
move_of (ArriveComes node) now =
    by_unit (arrive_of now.unit node)
    (with_part node (record (now.part node) { arrives = (now.part node).arrives - 1 }) now.part)
move_of (LeaveComes node) now =
    by_unit (leave_of now.unit node)
    (with_part node (record (now.part node) { leaves = (now.part node).leaves - 1 }) now.part)
move_of (GoComes node) now =
    record now { part = with_part node (record (now.part node) { stand = Away; gos = (now.part node).gos - 1 }) now.part }

-- when a move may be made
abbrev pub MayMove : Meeting → Move → Type 0
MayMove now (Come node) = (now.part node).stand ≡ Away
MayMove now (Quit node) = (now.part node).stand ≡ Away
MayMove now (ArriveComes node) = 1 ≤ (now.part node).arrives
MayMove now (LeaveComes node) = 1 ≤ (now.part node).leaves
MayMove now (GoComes node) = 1 ≤ (now.part node).gos

-- ---- what holds at all times

abbrev pub waits_once : Stand → ℕ
waits_once Waits = 1
waits_once _ = 0

abbrev pub gone_once : Stand → ℕ
gone_once Gone = 1
gone_once _ = 0

-- One who waits is in exactly one place: on the way there, at the unit, or on the way back. So is one who has left.
pub record HasPlace (unit : Barrier) (node : ℕ) (part : Part) : Type 0 where
  pub waits : part.arrives + once (has_node unit.arrived node) + part.gos ≡ waits_once part.stand
  pub gone : part.leaves + once (has_node unit.left node) ≡ gone_once part.stand

abbrev pub HavePlaces : Meeting → Type 0
HavePlaces now = (node : ℕ) → HasPlace now.unit node (now.part node)

-- at the start
pub record IsFirst (now : Meeting) : Type 0 where
  pub arrived : now.unit.arrived ≡ []
  pub left : now.unit.left ≡ []
  pub parts : (node : ℕ) → now.part node ≡ record { stand = Away; arrives = 0; leaves = 0; gos = 0 }

-- a message about the barrier that isn't stray
abbrev pub IsExpected : Meeting → Move → Type 0
IsExpected now (ArriveComes node) = is_known now.unit node ≡ false
IsExpected now (LeaveComes node) = is_known now.unit node ≡ false
IsExpected now (GoComes node) = (now.part node).stand ≡ Waits
IsExpected now move = Unit {0}

-- The places are kept, and no message about the barrier is stray.
pub record MeetingsAreOrderly : Type 0 where
  pub start : (now : Meeting) → IsFirst now → HavePlaces now
  pub move : (now : Meeting) (move : Move) → HavePlaces now → MayMove now move → HavePlaces (move_of move now)
  pub expected : (now : Meeting) (move : Move) → HavePlaces now → MayMove now move → IsExpected now move
