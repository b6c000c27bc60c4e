-- What a job writes, and how it ends. Own.
use Rattle.std.specs.Prelude.{◌≡◌, ℕ, Bool, true, false, List, [], Option, Some, None, Result, Ok, Err}
use Rattle.wt_params.specs.declared.parts.MachineParts.{MachineParts}
use Rattle.wt_params.specs.Machine.{flat_machine}
use Rattle.image_loader.specs.Images.{LoadedImages}
use Rattle.wt_listing.specs.Listing.{machine_text, words_text}
use Rattle.discrete_events.specs.Serial.{final}
use Rattle.node.specs.React.{wind_tunnel}
use Rattle.wwt_case.specs.declared.job.Job.{Job}
use Rattle.wwt_case.specs.declared.job.Job.TheVariants.{Check, Dis, Flat, Run, Load}
use Rattle.wwt_case.specs.declared.refusal.Refusal.{Refusal}
use Rattle.wt_outside.specs.declared.fault.WriteFault.{WriteFault}
use Rattle.wt_outside.specs.declared.fault.WriteFault.TheVariants as faults
use Rattle.wwt_case.specs.declared.refusal.Refusal.TheVariants as refusals
use Rattle.wwt_run.specs.declared.status.Status.{Status}
use Rattle.wwt_run.specs.declared.status.Status.TheVariants.{Done}
use Rattle.quantum.specs.World.{World, start_of}
use Rattle.engine.specs.Engine.{EngineModel, IsUnbroken, world_of}
use Rattle.quantum.specs.Outcome.{head_of}
use Rattle.wt_report.specs.declared.options.Options.{Options}
use Rattle.wt_report.specs.Report.{logs_of, report}
use Rattle.wt_report.specs.Trace.{whole_history}
use Rattle.wt_trace.specs.Merged.{merge_of}
use Rattle.wwt_run.specs.Status.{status_of_world, status_of_refusal}

-- the world in which a run ends
abbrev pub final_of : MachineParts → LoadedImages → Bool → World
final_of machine loaded traced = final (wind_tunnel machine) (start_of machine loaded traced)

-- what is written for a world
abbrev pub out_of : MachineParts → World → Options → List ℕ
out_of machine world options = report machine (head_of machine world) world.nodes options

-- The events of a traced run, merged, are in the order in which the serial simulation handles them.
abbrev pub AreInSerialOrder : MachineParts → LoadedImages → Bool → World → Type 0
AreInSerialOrder machine loaded traced world =
    traced ≡ true → merge_of (logs_of world.nodes) ≡ whole_history machine loaded

-- an engine whose run has come to its end
pub record IsAtEnd (machine : MachineParts) (loaded : LoadedImages) (traced : Bool) (engine : EngineModel) : Type 0 where
  pub world : world_of engine ≡ final_of machine loaded traced
  pub machine_is : engine.machine ≡ machine
  pub unbroken : IsUnbroken engine
  pub order : AreInSerialOrder machine loaded traced (world_of engine)

-- and threads did each of its quanta
pub record IsAtEndByThreads (machine : MachineParts) (loaded : LoadedImages) (traced : Bool) (engine : EngineModel) : Type 0 where
  pub at_end : IsAtEnd machine loaded traced engine
  pub threaded : engine.threaded ≡ engine.quanta

-- threads have run a machine to its end, and the engine is there
abbrev pub HaveRun : MachineParts → LoadedImages → Bool → Option EngineModel → Type 0
HaveRun machine loaded traced None = ⊥
HaveRun machine loaded traced (Some engine) = IsAtEndByThreads machine loaded traced engine

-- the same of a job that runs a machine by workers; no other job has an engine
abbrev pub HaveRunJob : Job → Option EngineModel → Type 0
HaveRunJob (Run machine loaded workers trace memory) ran = HaveRun machine loaded trace ran
HaveRunJob (Load machine loaded workers) ran = HaveRun machine loaded false ran
HaveRunJob job ran = ran ≡ None

-- the status of a run
unfoldable pub status_of_run : MachineParts → LoadedImages → Options → Status
status_of_run machine loaded options = status_of_world machine (final_of machine loaded options.trace)

-- what a run writes: the report of the world in which it ends
unfoldable pub output_of_run : MachineParts → LoadedImages → Options → List ℕ
output_of_run machine loaded options = out_of machine (final_of machine loaded options.trace) options

-- a report that tells the events and the memories where they are asked for
abbrev pub asked_of : Bool → Bool → Options
asked_of trace memory = record { trace = trace; memory = memory; summary = false }

-- the outcome and the sums alone
abbrev pub summary_of : Options
summary_of = record { trace = false; memory = false; summary = true }

abbrev pub output_of_job : Job → List ℕ
output_of_job (Check version machine loaded) = machine_text version machine loaded
output_of_job (Dis image) = words_text image
output_of_job (Flat loaded) = output_of_run flat_machine loaded (asked_of false false)
output_of_job (Run machine loaded workers trace memory) = output_of_run machine loaded (asked_of trace memory)
output_of_job (Load machine loaded workers) = output_of_run machine loaded summary_of

abbrev pub status_of_job : Job → Status
status_of_job (Check version machine loaded) = Done
status_of_job (Dis image) = Done
status_of_job (Flat loaded) = status_of_run flat_machine loaded (asked_of false false)
status_of_job (Run machine loaded workers trace memory) = status_of_run machine loaded (asked_of trace memory)
status_of_job (Load machine loaded workers) = status_of_run machine loaded summary_of

-- the status and the output of a case
abbrev pub status_of : Result Job Refusal → Status
status_of (Ok job) = status_of_job job
status_of (Err refusal) = status_of_refusal refusal

abbrev pub output_of : Result Job Refusal → List ℕ
output_of (Ok job) = output_of_job job
output_of (Err refusal) = []

-- how writing a text ends a job that has no other status
abbrev pub done_of : Result (Unit {0}) WriteFault → Result Status WriteFault
done_of (Ok _) = Ok Done
done_of (Err fault) = Err fault

-- the refusal of an output that wasn't written whole
abbrev pub refusal_of : WriteFault → Refusal
refusal_of faults.Failed = refusals.Write
refusal_of faults.NoMemory = refusals.NoMemory
