use Rattle.std.proofs.Common.{◌≡◌, List, refl, sym, subst}
use Rattle.std.specs.Prelude.{All}
use Rattle.wt_params.specs.declared.parts.MachineParts.{MachineParts}
use Rattle.quantum.specs.Stations.{StationModel}
use Rattle.wt_report.specs.Stations.{AreStationsOf}
use Rattle.engine.specs.Engine.{EngineModel, IsRunning, IsStationOf}
use Rattle.wwt_run.proofs.RunLemmas.{are_stations}
use Rattle.runs_tests.proofs.copies.held.Goals as goal

-- the stations that an engine shows
shown : (engine : EngineModel) (stations : List StationModel) → stations ≡ engine.stations → All (IsStationOf engine.machine engine.kept_end) stations → IsRunning engine → AreStationsOf engine.machine stations
shown engine stations same live running =
    subst (AreStationsOf engine.machine) (sym same)
    (are_stations engine.machine engine refl (subst (λ (s : List StationModel). All (IsStationOf engine.machine engine.kept_end) s) same live) running)

pub copies-writers-requires : goal.copies-writers-requires
copies-writers-requires c = record {
  machine = c.args.engine.now.machine;
  are = shown c.args.engine.now c.stations-stations.result.now c.stations-stations.ensures.value (c.stations-stations.ensures.live c.requires.unbroken) (c.stations-stations.ensures.world c.requires.unbroken);
  exists = c.requires.exists;
}

pub check_copies-breach-requires : goal.check_copies-breach-requires
check_copies-breach-requires c =
    subst (λ (m : MachineParts). AreStationsOf m c.stations-stations.result.now) (sym c.machine.ensures)
    (shown c.args.engine.now c.stations-stations.result.now c.stations-stations.ensures.value (c.stations-stations.ensures.live c.requires.unbroken) (c.stations-stations.ensures.world c.requires.unbroken))
