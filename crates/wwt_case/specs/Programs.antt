-- The images of a machine, from the description's list and from files. Own.
use Rattle.std.specs.Prelude.{ℕ, ◌+◌, nat_eq, Bool, true, false, List, [], ◌∷◌, ◌++◌, Option, Some, None, Result, Ok, Err}
use Rattle.std.specs.List.{starts_with}
use Rattle.wt_params.specs.declared.parts.MachineParts.{MachineParts}
use Rattle.elf_image.specs.declared.image.Image.{Image}
use Rattle.elf_image.specs.declared.fault.ImageFault.{ImageFault}
use Rattle.elf_image.specs.Elf.{elf_of, magic}
use Rattle.elf_image.specs.Flat.{flat_image}
use Rattle.image_loader.specs.declared.fault.LoadFault.{LoadFault}
use Rattle.image_loader.specs.declared.fault.LoadFault.TheVariants as faults
use Rattle.image_loader.specs.Faults.{load_fault}
use Rattle.image_loader.specs.Images.{LoadedImages, loaded_with}
use Rattle.machine_json.specs.declared.description.ImageSpec.{ImageSpec}
use Rattle.machine_json.specs.declared.description.ImageSpec.TheVariants.{Bytes, File}
use Rattle.wwt_case.specs.declared.refusal.Refusal.{Refusal}
use Rattle.wwt_case.specs.declared.refusal.Refusal.TheVariants.{Image as RefusedImage, NoMemory}
use Rattle.wwt_case.specs.declared.refusal.ImageRefusal.TheVariants.{Elf, Outside, Entry}
use Rattle.wwt_case.specs.declared.refusal.FileKind.TheVariants as kinds
use Rattle.wwt_case.specs.Plan.{Plan, ◌>>=◌, file}
use Rattle.wwt_case.specs.Plan.Plan.{Give}

-- an executable, or why the image with this number is none
abbrev pub executable : ℕ → Result Image ImageFault → Result Image Refusal
executable number (Ok image) = Ok image
executable number (Err fault) = Err (RefusedImage number (Elf fault))

-- the image of the bytes of a file, that is executable or flat
abbrev pub program_of : ℕ → Bool → ℕ → List ℕ → Result Image Refusal
program_of number true at bytes = executable number (elf_of bytes)
program_of number false at bytes = Ok (flat_image bytes at)

-- the image of a file
abbrev pub file_plan : ℕ → List ℕ → Bool → ℕ → Plan Image
file_plan number name elf at = do
  bytes ← file name (kinds.Image number)
  Give (program_of number elf at bytes)

-- the image with a number, by its entry in the description
abbrev pub image_plan : ℕ → ImageSpec → Plan Image
image_plan number (Bytes at bytes) = Give (Ok (flat_image bytes at))
image_plan number (File name elf at) = file_plan number name elf at

-- the images after those that were found, which are counted on from a number
abbrev pub images_plan : List Image → ℕ → List ImageSpec → Plan (List Image)
images_plan found number [] = Give (Ok found)
images_plan found number (entry ∷ entries) = do
  image ← image_plan number entry
  images_plan (found ++ image ∷ []) (number + 1) entries

-- a fault of loading, as the refusal of the image
abbrev pub refused_load : LoadFault → Refusal
refused_load (faults.Outside number address) = RefusedImage number (Outside address)
refused_load (faults.BadEntry number entry) = RefusedImage number (Entry entry)
refused_load faults.NoMemory = NoMemory

abbrev pub loaded_or : LoadedImages → Option LoadFault → Result LoadedImages Refusal
loaded_or loaded None = Ok loaded
loaded_or loaded (Some fault) = Err (refused_load fault)

-- images laid into the memories of a machine
abbrev pub load_case : MachineParts → List Image → Result LoadedImages Refusal
load_case machine images = loaded_or (loaded_with machine images) (load_fault machine 0 images)

-- the bytes begin as an executable does
abbrev pub has_magic : List ℕ → Bool
has_magic bytes = starts_with nat_eq bytes magic
