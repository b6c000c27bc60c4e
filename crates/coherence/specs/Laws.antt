-- What is proved of one block, whatever happens to it. Own.
use Rattle.std.specs.Prelude.{◌≡◌, ◌≢◌, ℕ, ◌≤◌, Bool, true, false, List, [], ◌∷◌, Some, None}
use Rattle.wt_proto.specs.declared.message.Body.{Body}
use Rattle.wt_proto.specs.declared.message.Body.TheVariants.{GetX}
use Rattle.dir1sw.specs.Table.{grant_body}
use Rattle.coherence.specs.Block.{View, no_part}
use Rattle.coherence.specs.Block.Roll.{Idle}
use Rattle.coherence.specs.Facts.{IsCoherent}
use Rattle.coherence.specs.Rows.{arrive_of, put_s_of, wake_of}
use Rattle.coherence.specs.Steps.{Step, step_of, IsEnabled}

-- at the start: nobody holds, awaits or asks for anything, and nothing is under way
pub record IsStart (view : View) : Type 0 where
  pub roll : view.home.roll ≡ Idle
  pub waiting : view.home.waiting ≡ []
  pub wakes : view.wakes ≡ 0
  pub cells : (node : ℕ) → view.cell node ≡ no_part

abbrev pub StartIsCoherent : Type 0
StartIsCoherent = (view : View) → IsStart view → IsCoherent view

-- Every step keeps the facts.
abbrev pub StepsKeepFacts : Type 0
StepsKeepFacts = (view : View) (step : Step) → IsCoherent view → IsEnabled view step → IsCoherent (step_of step view)

-- each step may be done when its turn comes
abbrev pub AreEnabled : View → List Step → Type 0
AreEnabled view [] = Unit {0}
AreEnabled view (step ∷ steps) = IsEnabled view step × AreEnabled (step_of step view) steps

abbrev pub steps_of : List Step → View → View
steps_of [] view = view
steps_of (step ∷ steps) view = steps_of steps (step_of step view)

-- From a start the facts hold for ever.
abbrev pub RunsAreCoherent : Type 0
RunsAreCoherent =
    (view : View) (steps : List Step) → IsStart view → AreEnabled view steps → IsCoherent (steps_of steps view)

-- No message is one that nobody asked for: what comes to the home has its row there, and Data comes to who waits for it.
pub record NothingIsStray : Type 0 where
  pub arrive : (view : View) (node : ℕ) (body : Body) (rest : List Body) (called : List ℕ) → IsCoherent view →
      (view.cell node).to_home ≡ body ∷ rest → (arrive_of node called body view.home).stray ≡ false
  -- the PutS that a GetX with a copy had begins with
  pub had : (view : View) (node : ℕ) (rest : List Body) → IsCoherent view →
      (view.cell node).to_home ≡ GetX true ∷ rest → (put_s_of node view.home).stray ≡ false
  pub wake : (view : View) (called : List ℕ) → IsCoherent view → 1 ≤ view.wakes → (wake_of called view.home).stray ≡ false
  pub filled : (view : View) (node : ℕ) (exclusive : Bool) (bytes : List ℕ) (rest : List Body) → IsCoherent view →
      (view.cell node).from_home ≡ grant_body exclusive bytes ∷ rest → (view.cell node).wants ≡ Some exclusive

-- A writable copy is the only copy.
abbrev pub OneWriter : Type 0
OneWriter =
    (view : View) (node other : ℕ) (bytes : List ℕ) → IsCoherent view → (other ≢ node) →
    (view.cell node).copy ≡ Some (record { writable = true; bytes = bytes }) → (view.cell other).copy ≡ None
