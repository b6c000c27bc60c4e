-- The value of a block: what the last store to it left. Own.
use Rattle.std.specs.Prelude.{◌≡◌, ⊤, ℕ, List, [], ◌∷◌, Some}
use Rattle.wt_proto.specs.declared.message.Body.{Body}
use Rattle.wt_proto.specs.declared.message.Body.TheVariants.{PutX, DataS, DataX, InvAck}
use Rattle.coherence.specs.Pipes.{writers}
use Rattle.coherence.specs.Block.{Copy, View, pipe}
use Rattle.coherence.specs.Facts.{IsCoherent}
use Rattle.coherence.specs.Steps.{Step, step_of, IsEnabled}
use Rattle.coherence.specs.Steps.Step.{Write}
use Rattle.coherence.specs.Laws.{IsStart}

-- If a message carries bytes, they are these.
abbrev pub Carries : List ℕ → Body → Type 0
Carries value (PutX bytes) = bytes ≡ value
Carries value (DataS bytes) = bytes ≡ value
Carries value (DataX bytes) = bytes ≡ value
Carries value (InvAck (Some bytes)) = bytes ≡ value
Carries value _ = ⊤

abbrev pub AllCarry : List ℕ → List Body → Type 0
AllCarry value [] = ⊤
AllCarry value (body ∷ bodies) = Carries value body × AllCarry value bodies

-- Every copy, here or under way, has the value, and so has the home's memory where nobody may write.
pub record HasValue (value : List ℕ) (view : View) : Type 0 where
  pub copies : (node : ℕ) → AllCarry value (pipe (view.cell node))
  pub memory : ((node : ℕ) → writers (pipe (view.cell node)) ≡ 0) → view.home.memory ≡ value

-- A store changes it, and nothing else does.
abbrev pub value_after : Step → List ℕ → List ℕ
value_after (Write node old new) value = new
value_after step value = value

pub record ValuesAreKept : Type 0 where
  pub start : (view : View) → IsStart view → HasValue view.home.memory view
  pub step : (view : View) (step : Step) (value : List ℕ) → IsCoherent view → IsEnabled view step → HasValue value view →
      HasValue (value_after step value) (step_of step view)
  -- so whatever a node reads in its copy is what the last store left
  pub read : (view : View) (value : List ℕ) (node : ℕ) (copy : Copy) → HasValue value view →
      (view.cell node).copy ≡ Some copy → copy.bytes ≡ value
