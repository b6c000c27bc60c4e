-- What holds of each block at all times. Own.
use Rattle.std.specs.Prelude.{◌≡◌, ◌≢◌, ℕ, ◌≤◌, ◌==◌, ◌⊎◌, Bool, List, [], ◌∷◌, ◌++◌, if◌then◌else◌}
use Rattle.wt_proto.specs.declared.directory.Request.{Request}
use Rattle.wt_proto.specs.declared.message.Body.{Body}
use Rattle.coherence.specs.Pipes.{not_to_home_of, not_from_home_of, total, tokens, writers, marks, asks, IsLed}
use Rattle.coherence.specs.Block.{Cell, wanted, pipe, Roll, Home, View, count_of}
use Rattle.coherence.specs.Block.Roll.{Idle, Shared, Exclusive, Busy}

-- The roll accounts for what a node has: each reader has one right to a copy, an owner the right to write, and of those
-- who are called each has a mark for its answer. A right to write is left only with one who is called alone.
abbrev pub Counts : Roll → ℕ → List Body → Type 0
Counts Idle node bodies = (tokens bodies ≡ 0) × (writers bodies ≡ 0) × (marks bodies ≡ 0)
Counts (Shared readers) node bodies = (tokens bodies ≡ count_of node readers) × (writers bodies ≡ 0) × (marks bodies ≡ 0)
Counts (Exclusive owner) node bodies =
    (tokens bodies ≡ (if node == owner then 1 else 0)) × (writers bodies ≡ tokens bodies) × (marks bodies ≡ 0)
Counts (Busy from exclusive called) node bodies =
    (tokens bodies ≤ marks bodies) × ((writers bodies ≡ 0) ⊎ (called ≡ node ∷ [])) × (marks bodies ≡ count_of node called)

-- ---- the requests of a node that are at the home

abbrev pub asks_waiting : ℕ → List Request → List Bool
asks_waiting node [] = []
asks_waiting node (first ∷ rest) = (if node == first.node then first.exclusive ∷ [] else []) ++ asks_waiting node rest

-- the one for which copies are called back
abbrev pub asks_of_roll : ℕ → Roll → List Bool
asks_of_roll node (Busy from exclusive called) = if node == from then exclusive ∷ [] else []
asks_of_roll node _ = []

abbrev pub asks_at_home : ℕ → Roll → List Request → List Bool
asks_at_home node roll waiting = asks_waiting node waiting ++ asks_of_roll node roll

-- ---- the facts

-- of a node that has these requests at the home
pub record NodeFacts (roll : Roll) (node : ℕ) (at_home : List Bool) (cell : Cell) : Type 0 where
  -- Only the first in a pipe may be a token.
  pub led : IsLed (pipe cell)
  -- What its processor waits for is asked for in exactly one place: on the way there, at the home, or on the way back.
  pub one_place : asks cell.to_home ++ at_home ++ asks cell.from_home ≡ wanted cell.wants
  -- Who has a request at the home has no copy, and none is under way.
  pub no_token : (at_home ≢ []) → tokens (pipe cell) ≡ 0
  pub counts : Counts roll node (pipe cell)
  -- Nothing but what goes to a home is on the way there, and nothing but what comes from one on the way back.
  pub goes : total not_to_home_of cell.to_home ≡ 0
  pub comes : total not_from_home_of cell.from_home ≡ 0

-- of all nodes
abbrev pub NodesFacts : Roll → List Request → (ℕ → Cell) → Type 0
NodesFacts roll waiting cell = (node : ℕ) → NodeFacts roll node (asks_at_home node roll waiting) (cell node)

-- one Wake where somebody waits for an entry that isn't Busy, and else none
abbrev pub wakes_due : Home → ℕ
wakes_due home = due home.roll home.waiting
  where
    due : Roll → List Request → ℕ
    due (Busy from exclusive called) waiting = 0
    due roll [] = 0
    due roll (first ∷ rest) = 1

pub record IsCoherent (view : View) : Type 0 where
  pub nodes : NodesFacts view.home.roll view.home.waiting view.cell
  pub wakes : view.wakes ≡ wakes_due view.home
