-- What a store's files give to a read, and steps that may be refused. Own.
use Rattle.std.specs.Prelude.{ℕ, List, [], length, nat_lt, Option, Some, None, Result, Ok, Err, if◌then◌else◌}
use Rattle.std.specs.FinMap.{get}
use Rattle.wt_outside.specs.Files.{Files}
use Rattle.wwt_case.specs.declared.refusal.Refusal.{Refusal}
use Rattle.machine_json.specs.declared.fault.MachineFault.TheVariants as faults
use Rattle.wwt_case.specs.declared.refusal.Refusal.TheVariants.{Read, Machine, Image as RefusedImage}
use Rattle.wwt_case.specs.declared.refusal.ImageRefusal.TheVariants.{TooLong}
use Rattle.wwt_case.specs.declared.refusal.FileKind.{FileKind}
use Rattle.wwt_case.specs.declared.refusal.FileKind.TheVariants.{Description, Image}

-- no more bytes of a file than these are read
abbrev pub read_limit : ℕ
read_limit = 16777216

-- the refusal of a file that is too long
abbrev pub too_long_of : FileKind → Refusal
too_long_of Description = Machine faults.TooLong
too_long_of (Image number) = RefusedImage number TooLong

-- the bytes of a file, unless it is missing or too long
abbrev pub bytes_of : List ℕ → FileKind → Option (List ℕ) → Result (List ℕ) Refusal
bytes_of name kind None = Err (Read name)
bytes_of name kind (Some bytes) = if nat_lt read_limit (length bytes) then Err (too_long_of kind) else Ok bytes

abbrev pub file_of : List ℕ → FileKind → Files → Result (List ℕ) Refusal
file_of name kind files = bytes_of name kind (get files name)

-- one step, and then another one with its value
abbrev pub and_then : {A B : Type 0} → Result A Refusal → (A → Result B Refusal) → Result B Refusal
and_then (Ok value) next = next value
and_then (Err refusal) next = Err refusal

-- the names that are read in a second step, with the value of the first
abbrev pub names_then : {A : Type 0} → Result A Refusal → (A → List (List ℕ)) → List (List ℕ)
names_then (Ok value) next = next value
names_then (Err refusal) next = []
