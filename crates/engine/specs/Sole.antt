-- A machine of one node that has run to its end. Own.
use Rattle.std.specs.Prelude.{◌≡◌, List, [], ◌∷◌}
use Rattle.quantum.specs.declared.quanta.Quanta.{Quanta}
use Rattle.quantum.specs.Sole.{HasEnded, IsSole}
use Rattle.quantum.specs.Stations.{StationModel, machine_of}
use Rattle.engine.specs.Quantum.{IsGood}

-- the only station of a machine
abbrev pub AreSole : List StationModel → Quanta → Type 0
AreSole (station ∷ []) quanta = IsSole station quanta
AreSole stations quanta = ⊥

pub record RanToTheEnd (before after : StationModel) (old new : Quanta) : Type 0 where
  pub ended : HasEnded before after old new
  pub good : IsGood after
  pub machine_is : machine_of after ≡ machine_of before

abbrev pub HaveEnded : List StationModel → List StationModel → Quanta → Quanta → Type 0
HaveEnded (before ∷ []) (after ∷ []) old new = RanToTheEnd before after old new
HaveEnded befores afters old new = ⊥
