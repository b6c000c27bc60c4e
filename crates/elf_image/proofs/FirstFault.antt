-- The first of a list of tests that holds, where the list comes in two parts.
use Rattle.std.proofs.Common.{◌≡◌, ℕ, List, [], ◌∷◌, ◌++◌, Bool, true, false, Some, None, Option, refl, cond}
use Rattle.elf_image.specs.declared.fault.ImageFault.{ImageFault}
use Rattle.elf_image.specs.Elf.{Test, first_fault}

front_step : (b : Bool) (found rest more : Option ImageFault) (fault : ImageFault) →
    (rest ≡ Some fault → more ≡ Some fault) → cond b found rest ≡ Some fault → cond b found more ≡ Some fault
front_step true found rest more fault later is = is
front_step false found rest more fault later is = later is

pub fault_in_front : (tests more : List Test) (bytes : List ℕ) (fault : ImageFault) →
    first_fault tests bytes ≡ Some fault → first_fault (tests ++ more) bytes ≡ Some fault
fault_in_front [] more bytes fault is = cc
fault_in_front ((found, holds) ∷ tests) more bytes fault is =
    front_step (holds bytes) _ _ _ fault (fault_in_front tests more bytes fault) is

rest_step : (b : Bool) (found : ImageFault) (rest more all : Option ImageFault) →
    (rest ≡ None → all ≡ more) → cond b (Some found) rest ≡ None → cond b (Some found) all ≡ more
rest_step true found rest more all later is = cc
rest_step false found rest more all later is = later is

pub fault_in_rest : (tests more : List Test) (bytes : List ℕ) →
    first_fault tests bytes ≡ None → first_fault (tests ++ more) bytes ≡ first_fault more bytes
fault_in_rest [] more bytes is = refl
fault_in_rest ((found, holds) ∷ tests) more bytes is =
    rest_step (holds bytes) found _ _ _ (fault_in_rest tests more bytes) is
