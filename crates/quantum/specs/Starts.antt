-- The start of a machine is a world of its simulation, so what is proved of such worlds holds of its run. Own.
use Rattle.std.specs.Prelude.{Bool}
use Rattle.wt_params.specs.declared.parts.MachineParts.{MachineParts}
use Rattle.wt_params.specs.Machine.{IsMachine}
use Rattle.image_loader.specs.Images.{LoadedImages, IsFor}
use Rattle.image_loader.specs.Loading.{AreLoaded}
use Rattle.discrete_events.specs.Laws.{IsWorld, IsBetweenQuanta}
use Rattle.discrete_events.specs.Theorems.{IsFinal}
use Rattle.node.specs.Laws.{Fits}
use Rattle.node.specs.React.{wind_tunnel}
use Rattle.node.specs.Sound.{IsNode}
use Rattle.quantum.specs.World.{World, start_of}

-- a world that the simulation of a machine may come to
abbrev pub IsWorldOf : MachineParts → World → Type 0
IsWorldOf machine world = IsWorld (wind_tunnel machine) (IsNode machine) (Fits machine) world

-- A world of the machine between two quanta. The serial run from it comes to a world that has no events.
pub record IsBegin (machine : MachineParts) (world : World) : Type 0 where
  pub world_of : IsWorldOf machine world
  pub between : IsBetweenQuanta (wind_tunnel machine) world
  pub ends : IsFinal (wind_tunnel machine) world

-- The start of every machine, with images that were loaded for it, is such a world.
abbrev pub StartsAreWorlds : Type 0
StartsAreWorlds =
    (machine : MachineParts) (loaded : LoadedImages) (traced : Bool) →
    IsMachine machine → IsFor machine loaded → AreLoaded loaded → IsBegin machine (start_of machine loaded traced)
