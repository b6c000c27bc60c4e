-- The one line that tells of a refusal, part by part. Own.
use Rattle.std.specs.Prelude.{ℕ, List, [], ◌∷◌, ◌++◌, flat_map, codes, decimal, Result, Ok, Err}
use Rattle.elf_image.specs.declared.fault.ImageFault.{ImageFault}
use Rattle.elf_image.specs.declared.fault.ImageFault.TheVariants as files
use Rattle.machine_json.specs.declared.fault.MachineFault.{MachineFault}
use Rattle.machine_json.specs.declared.fault.MachineFault.TheVariants as machines
use Rattle.wt_text.specs.Text.{line_end, eight_digits}
use Rattle.wwt_case.specs.declared.refusal.ImageRefusal.{ImageRefusal}
use Rattle.wwt_case.specs.declared.refusal.ImageRefusal.TheVariants.{TooLong, Elf, Outside, Entry}
use Rattle.wwt_case.specs.declared.refusal.Refusal.{Refusal}
use Rattle.wwt_case.specs.declared.refusal.Refusal.TheVariants.{Usage, Read, Machine, Image, Write, NoMemory}
use Rattle.wwt_run.specs.declared.status.Status.{Status}

-- the parts of a line, one after another
abbrev pub joined : List (List ℕ) → List ℕ
joined parts = flat_map (λ part. part) parts

abbrev pub usage_text : List ℕ
usage_text = codes "wwt: usage: run [--workers W] [--trace] [--memory] [--budget B] MACHINE, check MACHINE, load NUMBER [--workers W], dis IMAGE, flat"

abbrev pub file_text_of : ImageFault → List ℕ
file_text_of files.Short = codes "short"
file_text_of files.Magic = codes "magic"
file_text_of files.Class = codes "class"
file_text_of files.Order = codes "order"
file_text_of files.NotExec = codes "type"
file_text_of files.Machine = codes "machine"
file_text_of files.Entries = codes "entries"
file_text_of files.TableOutside = codes "table"
file_text_of files.Dynamic = codes "dynamic"
file_text_of files.SegmentOutside = codes "segment"
file_text_of files.SizeLess = codes "size"
file_text_of files.NoLoad = codes "noload"
file_text_of files.NoMemory = codes "out of memory"

abbrev pub image_parts : ImageRefusal → List (List ℕ)
image_parts TooLong = codes "too long" ∷ []
image_parts (Elf fault) = file_text_of fault ∷ []
image_parts (Outside address) = codes "outside 0x" ∷ eight_digits address ∷ []
image_parts (Entry entry) = codes "entry 0x" ∷ eight_digits entry ∷ []

abbrev pub machine_parts : MachineFault → List (List ℕ)
machine_parts machines.TooLong = codes "too long" ∷ []
machine_parts machines.Syntax = codes "syntax" ∷ []
machine_parts machines.NotObject = codes "not an object" ∷ []
machine_parts (machines.Unknown key) = codes "unknown " ∷ key ∷ []
machine_parts (machines.Missing key) = codes "missing " ∷ key ∷ []
machine_parts (machines.Kind key) = codes "kind " ∷ key ∷ []
machine_parts (machines.Range key value) = codes "range " ∷ key ∷ codes " " ∷ decimal value ∷ []
machine_parts (machines.Hex image) = codes "hex images." ∷ decimal image ∷ []
machine_parts machines.NoMemory = codes "out of memory" ∷ []

abbrev pub error_parts : Refusal → List (List ℕ)
error_parts Usage = usage_text ∷ line_end ∷ []
error_parts (Read name) = codes "wwt: cannot read " ∷ name ∷ line_end ∷ []
error_parts (Machine fault) = codes "wwt: machine: " ∷ machine_parts fault ++ line_end ∷ []
error_parts (Image number refusal) =
    codes "wwt: image " ∷ decimal number ∷ codes ": " ∷ image_parts refusal ++ line_end ∷ []
error_parts Write = codes "wwt: write failed" ∷ line_end ∷ []
error_parts NoMemory = codes "wwt: out of memory" ∷ line_end ∷ []

-- the line of a refusal
unfoldable pub error_line : Refusal → List ℕ
error_line refusal = joined (error_parts refusal)

-- a job that was done says nothing
abbrev pub line_of_end : Result Status Refusal → List ℕ
line_of_end (Ok status) = []
line_of_end (Err refusal) = error_line refusal
