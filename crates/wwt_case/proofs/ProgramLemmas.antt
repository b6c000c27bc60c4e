-- The steps that read nothing are never refused by a read.
use Rattle.std.proofs.Common.{◌≡◌, ◌≢◌, ℕ, Bool, true, false, List, [], ◌∷◌, ap, Option, Some, None, Result, Ok, Err}
use Rattle.wt_params.specs.declared.parts.MachineParts.{MachineParts}
use Rattle.elf_image.specs.declared.image.Image.{Image}
use Rattle.elf_image.specs.declared.fault.ImageFault.{ImageFault}
use Rattle.elf_image.specs.Elf.{elf_of}
use Rattle.image_loader.specs.declared.fault.LoadFault.{LoadFault}
use Rattle.image_loader.specs.declared.fault.LoadFault.TheVariants as faults
use Rattle.image_loader.specs.Faults.{load_fault}
use Rattle.image_loader.specs.Images.{LoadedImages, loaded_with}
use Rattle.machine_json.specs.declared.description.Description.{Description}
use Rattle.machine_json.specs.declared.fault.MachineFault.{MachineFault}
use Rattle.wwt_case.specs.declared.refusal.Refusal.{Refusal}
use Rattle.wwt_case.specs.declared.refusal.Refusal.TheVariants.{Read}
use Rattle.wwt_case.specs.Programs.{executable, program_of, has_magic, load_case, loaded_or, refused_load}
use Rattle.wt_params.specs.Machine.{flat_machine}
use Rattle.elf_image.specs.Flat.{flat_image}
use Rattle.wwt_case.specs.declared.job.Described.{Described}
use Rattle.wwt_case.specs.declared.job.Job.TheVariants.{Dis, Flat}
use Rattle.wwt_case.specs.Files.{and_then}
use Rattle.wwt_case.specs.Case.{description_or, dis_of, flat_of, loaded_machine}

executable_reads_nothing : (number : ℕ) (r : Result Image ImageFault) (name : List ℕ) → executable number r ≢ Err (Read name)
executable_reads_nothing number (Ok image) name e = cc
executable_reads_nothing number (Err fault) name e = cc

pub program_reads_nothing : (number : ℕ) (elf : Bool) (at : ℕ) (bytes : List ℕ) (name : List ℕ) → program_of number elf at bytes ≢ Err (Read name)
program_reads_nothing number true at bytes name e = executable_reads_nothing number (elf_of bytes) name e
program_reads_nothing number false at bytes name e = cc

refused_reads_nothing : (fault : LoadFault) (name : List ℕ) → refused_load fault ≢ Read name
refused_reads_nothing (faults.Outside number address) name e = cc
refused_reads_nothing (faults.BadEntry number entry) name e = cc
refused_reads_nothing faults.NoMemory name e = cc

loaded_reads_nothing : (loaded : LoadedImages) (fault : Option LoadFault) (name : List ℕ) → loaded_or loaded fault ≢ Err (Read name)
loaded_reads_nothing loaded None name e = cc
loaded_reads_nothing loaded (Some fault) name e =
    let is : refused_load fault ≡ Read name = cc in refused_reads_nothing fault name is

pub load_reads_nothing : (machine : MachineParts) (images : List Image) (name : List ℕ) → load_case machine images ≢ Err (Read name)
load_reads_nothing machine images name e =
    loaded_reads_nothing (loaded_with machine images) (load_fault machine 0 images) name e

pub description_reads_nothing : (r : Result Description MachineFault) (name : List ℕ) → description_or r ≢ Err (Read name)
description_reads_nothing (Ok description) name e = cc
description_reads_nothing (Err fault) name e = cc

after_program : (r : Result Image Refusal) (name : List ℕ) → ((other : List ℕ) → r ≢ Err (Read other)) → and_then r (λ image. Ok (Dis image)) ≢ Err (Read name)
after_program (Ok image) name none e = cc
after_program (Err refusal) name none e = let is : refusal ≡ Read name = cc in none name (ap (λ (r : Refusal). Err r) is)

pub dis_reads_nothing : (bytes : List ℕ) (name : List ℕ) → dis_of bytes ≢ Err (Read name)
dis_reads_nothing bytes name e =
    after_program (program_of 0 (has_magic bytes) 0 bytes) name (program_reads_nothing 0 (has_magic bytes) 0 bytes) e

after_load : {B : Type 0} (made : LoadedImages → B) (r : Result LoadedImages Refusal) (name : List ℕ) → ((other : List ℕ) → r ≢ Err (Read other)) → and_then r (λ loaded. Ok (made loaded)) ≢ Err (Read name)
after_load made (Ok loaded) name none e = cc
after_load made (Err refusal) name none e = let is : refusal ≡ Read name = cc in none name (ap (λ (r : Refusal). Err r) is)

pub flat_reads_nothing : (bytes : List ℕ) (name : List ℕ) → flat_of bytes ≢ Err (Read name)
flat_reads_nothing bytes name e =
    after_load Flat (load_case flat_machine (flat_image bytes 0 ∷ [])) name (load_reads_nothing flat_machine (flat_image bytes 0 ∷ [])) e

pub machine_reads_nothing : (description : Description) (images : List Image) (name : List ℕ) → loaded_machine description images ≢ Err (Read name)
machine_reads_nothing description images name e =
    after_load {B = Described} (λ loaded. record { version = description.version; machine = description.machine; loaded = loaded })
    (load_case description.machine images) name (load_reads_nothing description.machine images) e
