-- The rows of the directory as it is built, laid beside the rows over the full roll. An entry keeps less than the roll: of
-- readers perhaps only how many they are, and of those who are called back never more than that. Own.
use Rattle.std.specs.Prelude.{◌≡◌, ⊤, ℕ, ◌+◌, ◌<◌, ◌≤◌, ◌==◌, not, Bool, true, false, List, [], ◌∷◌, ◌++◌, length, map, All, if◌then◌else◌}
use Rattle.std.specs.List.{filter}
use Rattle.dir_list.specs.declared.readers.Readers.TheVariants.{Listed, Counted}
use Rattle.dir_list.specs.Lists.{in_order}
use Rattle.wt_proto.specs.declared.directory.DirState.{DirState}
use Rattle.wt_proto.specs.declared.directory.DirState.TheVariants as entries
use Rattle.wt_proto.specs.declared.directory.Request.{Request}
use Rattle.wt_proto.specs.declared.directory.Targets.TheVariants.{AllBut}
use Rattle.wt_proto.specs.declared.message.Body.{Body}
use Rattle.wt_proto.specs.declared.message.Body.TheVariants.{GetX, PutS, InvAck, Wake}
use Rattle.wt_proto.specs.declared.message.Outgoing.{Outgoing}
use Rattle.trap_handler.specs.Trap.{targets_of, invalidation}
use Rattle.dir1sw.specs.declared.home.DirAct.{DirAct}
use Rattle.dir1sw.specs.declared.home.DirAct.TheVariants.{Trap, Stray}
use Rattle.dir1sw.specs.declared.home.HomeBlock.{HomeBlock}
use Rattle.dir1sw.specs.declared.home.Place.{Place}
use Rattle.dir1sw.specs.Table as table
use Rattle.coherence.specs.Block.{Roll, Home, View, count_of, no_part}
use Rattle.coherence.specs.Block.Roll.{Idle, Shared, Exclusive, Busy}
use Rattle.coherence.specs.Facts.{IsCoherent}
use Rattle.coherence.specs.Rows.{Row, put_s_of, arrive_of, wake_of}
use Rattle.coherence.specs.Steps.{Step, IsEnabled}
use Rattle.coherence.specs.Steps.Step.{Arrive, Wake as WakeComes}

-- the entry that keeps of a roll what the directory keeps, its readers listed or only counted
abbrev pub entry_of : Bool → Roll → DirState
entry_of listed Idle = entries.Idle
entry_of true (Shared readers) = entries.Shared (Listed readers)
entry_of false (Shared readers) = entries.Shared (Counted (length readers))
entry_of listed (Exclusive owner) = entries.Exclusive owner
entry_of listed (Busy from exclusive called) = entries.Busy from exclusive (length called)

abbrev pub kept_of : Bool → Home → HomeBlock
kept_of listed home = record {
  entry = record { state = entry_of listed home.roll; waiting = home.waiting };
  memory = home.memory;
}

-- ---- what a row of the directory sends about the block

abbrev pub called_by : ℕ → ℕ → DirAct → List Outgoing
called_by nodes block (Trap plan) = map (invalidation block) (targets_of nodes plan.targets)
called_by nodes block _ = []

-- the messages of the row itself and of its trap
abbrev pub all_sends : Place → table.Row → List Outgoing
all_sends place row = row.sends ++ called_by place.nodes place.block row.act

-- A Wake is told apart.
abbrev pub news_of : Body → List Body
news_of Wake = []
news_of body = body ∷ []

abbrev pub news_to : ℕ → List Outgoing → List Body
news_to node [] = []
news_to node (first ∷ rest) = (if node == first.to then news_of first.msg.body else []) ++ news_to node rest

abbrev pub wake_in : Body → ℕ
wake_in Wake = 1
wake_in body = 0

abbrev pub wakes_in : List Outgoing → ℕ
wakes_in [] = 0
wakes_in (first ∷ rest) = wake_in first.msg.body + wakes_in rest

abbrev pub is_stray : DirAct → Bool
is_stray Stray = true
is_stray act = false

-- A row of the directory does what a row over the full roll does.
pub record DoesAs (place : Place) (row : Row) (built : table.Row) : Type 0 where
  pub listed : Bool
  pub home : built.home ≡ kept_of listed row.home
  pub sent : (node : ℕ) → news_to node (all_sends place built) ≡ row.sent node
  pub wakes : wakes_in built.sends ≡ row.wakes
  pub stray : is_stray built.act ≡ row.stray

-- ---- who is called back for a node: the others that are listed, and all others where they are counted

abbrev pub called_for : ℕ → ℕ → DirState → List ℕ
called_for nodes node (entries.Shared (Listed readers)) = in_order (filter (λ listed. not (listed == node)) readers)
called_for nodes node (entries.Shared (Counted count)) = targets_of nodes (AllBut node)
called_for nodes node _ = []

-- the entry at which a message is served: that of GetX with a copy had after its PutS
abbrev pub served_at : ℕ → Body → HomeBlock → DirState
served_at from (GetX true) kept = (table.put_s_of from kept).home.entry.state
served_at from body kept = kept.entry.state

abbrev pub called_at : Place → Body → HomeBlock → List ℕ
called_at place body kept = called_for place.nodes place.from (served_at place.from body kept)

abbrev pub called_first : Place → HomeBlock → List ℕ
called_first place kept = by kept.entry.waiting
  where
    by : List Request → List ℕ
    by [] = []
    by (first ∷ rest) = called_for place.nodes first.node kept.entry.state

-- ---- the law

-- an answer of one who was called
abbrev pub Answers : ℕ → Roll → Type 0
Answers from (Busy node exclusive called) = 1 ≤ count_of from called
Answers from _ = ⊤

-- A message is one that was asked for: of Wakes another law speaks.
abbrev pub IsAwaited : ℕ → Body → Home → Type 0
IsAwaited from PutS home = (put_s_of from home).stray ≡ false
IsAwaited from (GetX true) home = (put_s_of from home).stray ≡ false
IsAwaited from (InvAck bytes) home = Answers from home.roll
IsAwaited from Wake home = ⊥
IsAwaited from body home = ⊤

-- Each row of the directory does to what it keeps, sends and tells what the row over the full roll does.
pub record RowsAreBuilt : Type 0 where
  pub arrive : (place : Place) (listed : Bool) (body : Body) (home : Home) → place.from < place.nodes → IsAwaited place.from body home →
      DoesAs place (arrive_of place.from (called_at place body (kept_of listed home)) body home)
      (table.arrive_of place body (kept_of listed home))
  pub wake : (place : Place) (listed : Bool) (home : Home) →
      All (λ (request : Request). request.node < place.nodes) home.waiting →
      DoesAs place (wake_of (called_first place (kept_of listed home)) home) (table.wake_of place (kept_of listed home))

-- nodes past the last one have no part in the block
abbrev pub IsOfNodes : ℕ → View → Type 0
IsOfNodes nodes view = (node : ℕ) → nodes ≤ node → view.cell node ≡ no_part

-- A row of the directory is a step of the block that may be done, and its message isn't stray.
pub record IsStep (place : Place) (view : View) (step : Step) (row : Row) (built : table.Row) : Type 0 where
  pub enabled : IsEnabled view step
  pub does : DoesAs place row built
  pub asked : is_stray built.act ≡ false

-- What comes to the home of a coherent block is such a step.
pub record RowsAreSteps : Type 0 where
  pub arrive : (place : Place) (listed : Bool) (view : View) (body : Body) (rest : List Body) → IsCoherent view →
      IsOfNodes place.nodes view → place.from < place.nodes → (view.cell place.from).to_home ≡ body ∷ rest →
      IsStep place view (Arrive place.from body rest (called_at place body (kept_of listed view.home)))
      (arrive_of place.from (called_at place body (kept_of listed view.home)) body view.home)
      (table.arrive_of place body (kept_of listed view.home))
  pub wake : (place : Place) (listed : Bool) (view : View) → IsCoherent view → IsOfNodes place.nodes view → 1 ≤ view.wakes →
      IsStep place view (WakeComes (called_first place (kept_of listed view.home)))
      (wake_of (called_first place (kept_of listed view.home)) view.home) (table.wake_of place (kept_of listed view.home))
