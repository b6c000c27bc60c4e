-- What words and files call for: a job, or why there is none. The words are tested first, then the read of the
-- description, then its reading, then for each image its read and its reading, and then loading. Own.
use Rattle.std.specs.Prelude.{◌≡◌, ⊤, ℕ, ◌^◌, ◌≤◌, ◌==◌, if◌then◌else◌, IfSome, Bool, List, [], ◌∷◌, codes, Option, Some, None, Result, Ok, Err}
use Rattle.wt_params.specs.declared.parts.MachineParts.{MachineParts}
use Rattle.wt_params.specs.Machine.{InRange, flat_machine}
use Rattle.elf_image.specs.declared.image.Image.{Image}
use Rattle.image_loader.specs.Images.{LoadedImages, loaded_with, IsFor}
use Rattle.machine_json.specs.declared.description.Description.{Description}
use Rattle.machine_json.specs.declared.fault.MachineFault.{MachineFault}
use Rattle.machine_json.specs.Description.{description_of}
use Rattle.wt_outside.specs.Files.{Files}
use Rattle.wwt_words.specs.declared.command.Command.{Command}
use Rattle.wwt_words.specs.declared.command.Command.TheVariants as commands
use Rattle.wwt_words.specs.Words.{Words, texts_of, command_of}
use Rattle.wwt_words.specs.Workers.{workers_in}
use Rattle.wwt_case.specs.declared.job.Job.{Job}
use Rattle.wwt_case.specs.declared.job.Job.TheVariants.{Check, Dis, Flat, Run, Load}
use Rattle.wwt_case.specs.declared.job.Described.{Described}
use Rattle.gen_load.specs.Generated.{generated}
use Rattle.wwt_case.specs.declared.refusal.Refusal.{Refusal}
use Rattle.wwt_case.specs.declared.refusal.Refusal.TheVariants.{Usage, Machine}
use Rattle.wwt_case.specs.declared.refusal.FileKind.TheVariants as kinds
use Rattle.elf_image.specs.Flat.{flat_image}
use Rattle.wwt_case.specs.Files.{and_then}
use Rattle.wwt_case.specs.Plan.{Plan, ◌>>=◌, answer_of, file, names_read}
use Rattle.wwt_case.specs.Plan.Plan.{Give}
use Rattle.wwt_case.specs.Programs.{program_of, images_plan, load_case, has_magic}

-- standard input
abbrev pub input_name : List ℕ
input_name = codes "-"

-- a description, or why it is refused
abbrev pub description_or : Result Description MachineFault → Result Description Refusal
description_or (Ok description) = Ok description
description_or (Err fault) = Err (Machine fault)

-- the description of a name
abbrev pub description_plan : List ℕ → Plan Description
description_plan name = do
  bytes ← file name kinds.Description
  Give (description_or (description_of bytes))

-- the machine of a description with these images loaded, and the description's version
abbrev pub loaded_machine : Description → List Image → Result Described Refusal
loaded_machine description images =
    and_then (load_case description.machine images)
    (λ loaded. Ok (record { version = description.version; machine = description.machine; loaded = loaded }))

-- the machine of a description with its images read and loaded
abbrev pub machine_plan : Description → Plan Described
machine_plan description = do
  images ← images_plan [] 0 description.images
  Give (loaded_machine description images)

abbrev pub described_plan : List ℕ → Plan Described
described_plan name = do
  description ← description_plan name
  machine_plan description

-- a described machine is printed, with the version
abbrev pub check_of : Described → Result Job Refusal
check_of described = Ok (Check described.version described.machine described.loaded)

abbrev pub check_plan : List ℕ → Plan Job
check_plan name = do
  described ← described_plan name
  Give (check_of described)

-- or it is run by so many workers, up to a budget that takes the place of its own where one is given
abbrev pub with_budget_of : Option ℕ → MachineParts → MachineParts
with_budget_of None machine = machine
with_budget_of (Some budget) machine = record machine { budget = budget }

abbrev pub run_of : ℕ → Option ℕ → Bool → Bool → Described → Result Job Refusal
run_of workers budget trace memory described =
    Ok (Run (with_budget_of budget described.machine) described.loaded workers trace memory)

abbrev pub run_plan : List ℕ → ℕ → Option ℕ → Bool → Bool → Plan Job
run_plan name workers budget trace memory = do
  described ← described_plan name
  Give (run_of workers budget trace memory described)

-- a generated machine is run; its image is part of its description
abbrev pub load_of : ℕ → Described → Result Job Refusal
load_of workers described = Ok (Load described.machine described.loaded workers)

abbrev pub generated_plan : ℕ → ℕ → Plan Job
generated_plan number workers = do
  described ← machine_plan (generated number)
  Give (load_of workers described)

-- a file that begins as an executable does is one, any other is flat
abbrev pub dis_of : List ℕ → Result Job Refusal
dis_of bytes = and_then (program_of 0 (has_magic bytes) 0 bytes) (λ image. Ok (Dis image))

abbrev pub dis_plan : List ℕ → Plan Job
dis_plan name = do
  bytes ← file name (kinds.Image 0)
  Give (dis_of bytes)

-- flat bytes, loaded into the flat machine
abbrev pub flat_of : List ℕ → Result Job Refusal
flat_of bytes = and_then (load_case flat_machine (flat_image bytes 0 ∷ [])) (λ loaded. Ok (Flat loaded))

-- flat bytes from standard input
abbrev pub flat_plan : List ℕ → Plan Job
flat_plan name = do
  bytes ← file name (kinds.Image 0)
  Give (flat_of bytes)

-- the plan of a command
abbrev pub command_plan : Option Command → Plan Job
command_plan (Some (commands.Check machine)) = check_plan machine
command_plan (Some (commands.Dis image)) = dis_plan image
command_plan (Some commands.Flat) = flat_plan input_name
command_plan (Some (commands.Run workers trace memory budget machine)) = run_plan machine workers budget trace memory
command_plan (Some (commands.Load number workers)) = generated_plan number workers
command_plan None = Give (Err Usage)

-- the plan of the words of the command line
abbrev pub plan_of : Words → Plan Job
plan_of words = command_plan (command_of (texts_of words))

-- what the words and the files call for
abbrev pub case_of : Words → Files → Result Job Refusal
case_of words = answer_of (plan_of words)

-- the names that are read for it, in order
abbrev pub names_of : Words → Files → List (List ℕ)
names_of words = names_read (plan_of words)

-- a budget that a machine may have
abbrev pub IsBudget : ℕ → Type 0
IsBudget budget = InRange 1 (2 ^ 40) budget

-- how many workers do a job, and how many the words call for: one, but for a run or a load that asks for more
abbrev pub workers_of_job : Job → ℕ
workers_of_job (Check version machine loaded) = 1
workers_of_job (Dis image) = 1
workers_of_job (Flat loaded) = 1
workers_of_job (Run machine loaded workers trace memory) = workers
workers_of_job (Load machine loaded workers) = workers

abbrev pub workers_of_command : Option Command → ℕ
workers_of_command None = 1
workers_of_command (Some command) = workers_in command

abbrev pub workers_called : Words → ℕ
workers_called words = workers_of_command (command_of (texts_of words))

-- a number of workers that a run may have
abbrev pub AreWorkers : ℕ → Type 0
AreWorkers workers = InRange 1 16 workers

-- the numbers of a command are in their ranges
abbrev pub HasRanges : Command → Type 0
HasRanges (commands.Run workers trace memory budget machine) = AreWorkers workers × IfSome budget IsBudget
HasRanges (commands.Load number workers) = (number ≤ 9999) × AreWorkers workers
HasRanges _ = ⊤

-- images that are loaded for the flat machine, flat bytes alone
pub record IsFlat (loaded : LoadedImages) : Type 0 where
  pub bytes : List ℕ
  pub loaded_is : loaded ≡ loaded_with flat_machine (flat_image bytes 0 ∷ [])

-- images that are loaded for their machine
abbrev pub IsLoaded : Described → Type 0
IsLoaded described = IsFor described.machine described.loaded

-- what a job rests on
abbrev pub IsReady : Job → Type 0
IsReady (Check version machine loaded) = IsFor machine loaded
IsReady (Dis image) = ⊤
IsReady (Flat loaded) = IsFlat loaded
IsReady (Run machine loaded workers trace memory) = IsFor machine loaded × AreWorkers workers
IsReady (Load machine loaded workers) = IsFor machine loaded × AreWorkers workers
