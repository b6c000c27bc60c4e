-- What a call that reads from a store answers, next to what the files call for. Own.
use Rattle.std.specs.Prelude.{◌≡◌, ◌≢◌, ⊤, ℕ, ◌≤◌, ◌⊎◌, List, ◌++◌, true, false, Contains, Some, Result, Ok, Err, IfOk, IfErr}
use Rattle.wt_outside.specs.Faults.{Rose, Stood}
use Rattle.wt_outside.specs.Asked.{AreAsked}
use Rattle.wt_outside.specs.Files.{Files, IsMissing}
use Rattle.wt_outside.specs.Views.{StoreView}
use Rattle.elf_image.specs.declared.fault.ImageFault.TheVariants as files
use Rattle.machine_json.specs.declared.fault.MachineFault.TheVariants as machines
use Rattle.wwt_case.specs.Files.{read_limit}
use Rattle.wwt_case.specs.Plan.{Plan, answer_of, is_usage, names_read}
use Rattle.wwt_case.specs.declared.refusal.ImageRefusal.TheVariants.{Elf}
use Rattle.wwt_case.specs.declared.refusal.Refusal.{Refusal}
use Rattle.wwt_case.specs.declared.refusal.Refusal.TheVariants.{Usage, Read, Machine, Image, Write, NoMemory}

-- What is answered is what is called for, or want of memory.
abbrev pub Answers : {A : Type 0} → Result A Refusal → Result A Refusal → Type 0
Answers wanted (Ok value) = wanted ≡ Ok value
Answers wanted (Err refusal) = (refusal ≡ NoMemory) ⊎ (wanted ≡ Err refusal)

-- no fault of the store rose in a call
abbrev pub IsSound : {S : Type 0} → StoreView S → S → S → Type 0
IsSound view old new = Stood (view.faults old) (view.faults new)

-- The names that the store was asked for, in their order, each up to the limit, and nothing else: of told files a first
-- part of these names, and where so said, all of them.
pub record Asks {S : Type 0} (names : Files → List (List ℕ)) (view : StoreView S) (old new : S) (all : Type 0) : Type 0 where
  pub asked : List (List ℕ)
  pub are_asked : AreAsked view read_limit old asked new
  pub part : (files : Files) → view.files old ≡ Some files → (rest : List (List ℕ)) × (names files ≡ asked ++ rest)
  pub whole : (files : Files) → view.files old ≡ Some files → all → asked ≡ names files

-- a call came to its end: to a value, or where no fault rose to a refusal other than want of memory
abbrev pub IsThrough : {S A : Type 0} → StoreView S → S → S → Result A Refusal → Type 0
IsThrough view old new (Ok value) = ⊤
IsThrough view old new (Err refusal) = IsSound view old new × (refusal ≢ NoMemory)

-- What is answered is what the told files call for, or want of memory. A file can't be read only where the told files
-- lack its name, or where a fault rose. Each name that is listed is read once, in order, and none after a refusal.
pub record ReadsAs {S A : Type 0} (wanted : Files → Result A Refusal) (names : Files → List (List ℕ)) (view : StoreView S) (old new : S) (result : Result A Refusal) : Type 0 where
  pub found : (files : Files) → view.files old ≡ Some files → IfOk result (λ value. wanted files ≡ Ok value)
  pub refused : (files : Files) → view.files old ≡ Some files → IsSound view old new → IfErr result (λ refusal. (refusal ≡ NoMemory) ⊎ (wanted files ≡ Err refusal))
  pub named : (files : Files) (name : List ℕ) → view.files old ≡ Some files → result ≡ Err (Read name) → Contains (names files) name
  pub once : Asks names view old new (IsThrough view old new result)
  pub unread : (name : List ℕ) → result ≡ Err (Read name) → Rose (view.faults old) (view.faults new) ⊎ IsMissing (view.files old) name
  pub steady : ((name : List ℕ) → result ≢ Err (Read name)) → view.faults new ≡ view.faults old
  pub later : view.faults old ≤ view.faults new
  pub kept : view.files new ≡ view.files old

-- the same of a plan
abbrev pub Reads : {S A : Type 0} → Plan A → StoreView S → S → S → Result A Refusal → Type 0
Reads plan view old new result = ReadsAs (answer_of plan) (names_read plan) view old new result

-- Usage is answered only where the plan refuses the words by themselves, and there always, memory allowing. Nothing is
-- read there.
pub record AnswersUsage {S A : Type 0} (plan : Plan A) (old new : S) (result : Result A Refusal) : Type 0 where
  pub accepted : IfOk result (λ _. is_usage plan ≡ false)
  pub usage : result ≡ Err Usage → is_usage plan ≡ true
  pub refused : is_usage plan ≡ true → (result ≡ Err Usage) ⊎ (result ≡ Err NoMemory)
  pub unread : is_usage plan ≡ true → new ≡ old

-- Want of memory has a name of its own, and is never told as a fault of a file.
abbrev pub IsByItsName : Refusal → Type 0
IsByItsName (Machine machines.NoMemory) = ⊥
IsByItsName (Image number (Elf files.NoMemory)) = ⊥
IsByItsName _ = ⊤

-- neither the words are refused nor the output
abbrev pub IsOtherRefusal : Refusal → Type 0
IsOtherRefusal Usage = ⊥
IsOtherRefusal Write = ⊥
IsOtherRefusal refusal = IsByItsName refusal

abbrev pub IsOther : {A : Type 0} → Result A Refusal → Type 0
IsOther (Ok value) = ⊤
IsOther (Err refusal) = IsOtherRefusal refusal
