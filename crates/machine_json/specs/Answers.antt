-- How an answer goes with what is wanted: want of memory may come in its place. Own.
use Rattle.std.specs.Prelude.{◌≡◌, ◌⊎◌, Option, Some, None, Result, Ok, Err}
use Rattle.machine_json.specs.declared.fault.MachineFault.{MachineFault}
use Rattle.machine_json.specs.declared.fault.MachineFault.TheVariants.{NoMemory}

-- a refusal tells the wanted fault, or want of memory
abbrev pub IsFaultOf : Option MachineFault → MachineFault → Type 0
IsFaultOf wanted fault = (fault ≡ NoMemory) ⊎ (wanted ≡ Some fault)

-- the same, where what is wanted may be a value
abbrev pub IsRefusalOf : {A : Type 0} → Result A MachineFault → MachineFault → Type 0
IsRefusalOf wanted fault = (fault ≡ NoMemory) ⊎ (wanted ≡ Err fault)

-- a fault, or else the rest
infixl 10 ◌>>◌
abbrev pub ◌>>◌ : {A : Type 0} → Option MachineFault → Result A MachineFault → Result A MachineFault
None >> rest = rest
Some fault >> rest = Err fault

-- one step, and then another one with its value
infixl 10 ◌>>=◌
abbrev pub ◌>>=◌ : {A B : Type 0} → Result A MachineFault → (A → Result B MachineFault) → Result B MachineFault
Ok value >>= next = next value
Err fault >>= next = Err fault
