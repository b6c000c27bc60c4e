-- One block of the machine by itself: what its home keeps of it, the copy of each node, and the messages about it. Own.
use Rattle.std.specs.Prelude.{ℕ, ◌+◌, ◌==◌, Bool, List, [], ◌∷◌, ◌++◌, Option, Some, None, if◌then◌else◌}
use Rattle.wt_proto.specs.declared.directory.Request.{Request}
use Rattle.wt_proto.specs.declared.message.Body.{Body}
use Rattle.dir1sw.specs.Table.{grant_body}

-- ---- a node

pub record Copy : Type 0 where
  pub writable : Bool
  pub bytes : List ℕ

-- what a node has to do with the block: the kind of copy that its processor waits for, its copy, and the messages
-- from it to the home and back, the one that arrives first in front
pub record Cell : Type 0 where
  pub wants : Option Bool
  pub copy : Option Copy
  pub to_home : List Body
  pub from_home : List Body

-- a node that has nothing to do with it
abbrev pub no_part : Cell
no_part = record { wants = None; copy = None; to_home = []; from_home = [] }

-- A copy that is held counts as the message that brought it.
abbrev pub held : Option Copy → List Body
held None = []
held (Some copy) = grant_body copy.writable copy.bytes ∷ []

abbrev pub wanted : Option Bool → List Bool
wanted None = []
wanted (Some exclusive) = exclusive ∷ []

-- All of a node in one list, which moves to its front and leaves it at the home.
abbrev pub pipe : Cell → List Body
pipe cell = cell.to_home ++ held cell.copy ++ cell.from_home

-- ---- the home

-- The entry of the directory, with the names of all that it stands for, also where it has but their number: the
-- readers, and those who have still to answer.
pub data Roll : Type 0 where
  Idle : Roll
  Shared : (readers : List ℕ) → Roll
  Exclusive : (owner : ℕ) → Roll
  Busy : (from : ℕ) (exclusive : Bool) (called : List ℕ) → Roll

pub record Home : Type 0 where
  pub roll : Roll
  pub waiting : List Request
  pub memory : List ℕ

-- the block as a whole, with the number of Wakes that are under way
pub record View : Type 0 where
  pub home : Home
  pub wakes : ℕ
  pub cell : ℕ → Cell

-- ---- lists of nodes

-- how often a node stands in a list
abbrev pub count_of : ℕ → List ℕ → ℕ
count_of node [] = 0
count_of node (first ∷ rest) = (if node == first then 1 else 0) + count_of node rest

-- a list without the first that is this node
abbrev pub without : ℕ → List ℕ → List ℕ
without node [] = []
without node (first ∷ rest) = if node == first then rest else first ∷ without node rest
