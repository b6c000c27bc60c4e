-- Faults of steps, one after the other.
use Rattle.std.proofs.Common.{◌≡◌, ◌∙◌, None, Option, Result, Ok, sym, ap, inl, inr}
use Rattle.std.specs.Option.{option_or}
use Rattle.machine_json.specs.declared.fault.MachineFault.{MachineFault}
use Rattle.machine_json.specs.Answers.{IsFaultOf, IsRefusalOf, ◌>>◌, ◌>>=◌}

pub fault_of_first : (first rest : Option MachineFault) (fault : MachineFault) → IsFaultOf first fault → IsFaultOf (option_or first rest) fault
fault_of_first first rest fault (inl memory) = inl memory
fault_of_first first rest fault (inr is) = inr (ap (λ f. option_or f rest) is)

pub fault_of_rest : (first rest : Option MachineFault) (fault : MachineFault) → first ≡ None → IsFaultOf rest fault → IsFaultOf (option_or first rest) fault
fault_of_rest first rest fault none (inl memory) = inl memory
fault_of_rest first rest fault none (inr is) = inr (ap (λ f. option_or f rest) none ∙ is)

module _ {A : Type 0} where
  pub refusal_of_fault : (first : Option MachineFault) (rest : Result A MachineFault) (fault : MachineFault) → IsFaultOf first fault → IsRefusalOf (first >> rest) fault
  refusal_of_fault first rest fault (inl memory) = inl memory
  refusal_of_fault first rest fault (inr is) = inr (ap (λ f. f >> rest) is)

  pub refusal_of_rest : (first : Option MachineFault) (rest : Result A MachineFault) (fault : MachineFault) → first ≡ None → IsRefusalOf rest fault → IsRefusalOf (first >> rest) fault
  refusal_of_rest first rest fault none (inl memory) = inl memory
  refusal_of_rest first rest fault none (inr is) = inr (ap (λ f. f >> rest) none ∙ is)

  pub value_of_rest : (first : Option MachineFault) (rest answer : Result A MachineFault) → first ≡ None → rest ≡ answer → first >> rest ≡ answer
  value_of_rest first rest answer none is = ap (λ f. f >> rest) none ∙ is

module _ {A B : Type 0} where
  pub refusal_of_step : (first : Result A MachineFault) (next : A → Result B MachineFault) (fault : MachineFault) → IsRefusalOf first fault → IsRefusalOf (first >>= next) fault
  refusal_of_step first next fault (inl memory) = inl memory
  refusal_of_step first next fault (inr is) = inr (ap (λ r. r >>= next) is)

  pub refusal_of_next : (first : Result A MachineFault) (next : A → Result B MachineFault) (value : A) (fault : MachineFault) → first ≡ Ok value → IsRefusalOf (next value) fault → IsRefusalOf (first >>= next) fault
  refusal_of_next first next value fault ok (inl memory) = inl memory
  refusal_of_next first next value fault ok (inr is) = inr (ap (λ r. r >>= next) ok ∙ is)

  -- a step's value goes into the next one
  pub value_of_next : (first : Result A MachineFault) (next : A → Result B MachineFault) (value : A) (answer : Result B MachineFault) → first ≡ Ok value → next value ≡ answer → first >>= next ≡ answer
  value_of_next first next value answer ok is = ap (λ r. r >>= next) ok ∙ is

-- the same for what is wanted by another name
pub same_fault : (first second : Option MachineFault) (fault : MachineFault) → first ≡ second → IsFaultOf first fault → IsFaultOf second fault
same_fault first second fault same (inl memory) = inl memory
same_fault first second fault same (inr is) = inr (sym same ∙ is)

module _ {A : Type 0} where
  pub same_refusal : (first second : Result A MachineFault) (fault : MachineFault) → first ≡ second → IsRefusalOf first fault → IsRefusalOf second fault
  same_refusal first second fault same (inl memory) = inl memory
  same_refusal first second fault same (inr is) = inr (sym same ∙ is)
