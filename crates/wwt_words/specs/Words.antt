-- What the words of the command line call for: the first is the command's name, and the others are read by the
-- command's declaration. Own, over the definition of a simple command of `clap`.
use Rattle.std.specs.Prelude.{ℕ, ◌≡◌, ◌^◌, ⊤, List, [], ◌∷◌, Bool, false, Option, Some, None, Result, Ok, Err, String, map, string_bytes, codes, bytes_eq, unwrap_or, option_and_then, option_map, if◌then◌else◌}
use Rattle.std.specs.Option.{option_map_or}
use Rattle.std.specs.declared.alloc.Global.{Global}
use Rattle.clap.specs.Walk.{Row, first_of}
use Rattle.clap.specs.Simple.{App}
use Rattle.wwt_words.specs.declared.command.Command.{Command}
use Rattle.wwt_words.specs.declared.command.Command.TheVariants.{Run, Check, Load, Dis, Flat}
use Rattle.wwt_words.specs.declared.command.WordFault.{WordFault}
use Rattle.wwt_words.specs.declared.command.WordFault.TheVariants.{Usage, NoMemory}
use Rattle.wwt_words.specs.Numbers.{number_of, option_number_of}
use Rattle.wwt_words.specs.Declarations.{run_command, check_command, load_command, dis_command, flat_command, is_read, rows_read}

-- the words of the command line, and their texts
abbrev pub Words : Type 0
Words = List (String Global)

abbrev pub texts_of : Words → List (List ℕ)
texts_of words = map string_bytes words

-- the ? of the logic: a second step with the value of the first, if there is one
infixl 10 ◌>>=◌
abbrev pub ◌>>=◌ : {A B : Type 0} → Option A → (A → Option B) → Option B
found >>= next = option_and_then next found

-- a flag stands there
abbrev pub is_set : List ℕ → List Row → Bool
is_set name rows = option_map_or (bytes_eq (codes "true")) (first_of name rows) false

-- how many workers: 1 to 16, and 1 where nothing is said
abbrev pub workers_of : List Row → Option ℕ
workers_of rows = option_map (λ number. unwrap_or number 1) (option_number_of 1 16 (first_of (codes "workers") rows))

-- the budget, where one is given
abbrev pub budget_of : List Row → Option (Option ℕ)
budget_of rows = option_number_of 1 (2 ^ 40) (first_of (codes "budget") rows)

abbrev pub run_of : List Row → Option Command
run_of rows = do
  workers ← workers_of rows
  budget ← budget_of rows
  machine ← first_of (codes "machine") rows
  Some (Run workers (is_set (codes "trace") rows) (is_set (codes "memory") rows) budget machine)

abbrev pub check_of : List Row → Option Command
check_of rows = option_map Check (first_of (codes "machine") rows)

abbrev pub load_of : List Row → Option Command
load_of rows = do
  text ← first_of (codes "number") rows
  number ← number_of 0 9999 text
  workers ← workers_of rows
  Some (Load number workers)

abbrev pub dis_of : List Row → Option Command
dis_of rows = option_map Dis (first_of (codes "image") rows)

abbrev pub flat_of : List Row → Option Command
flat_of rows = Some Flat

-- the command that `clap` finds in the words by a declaration
abbrev pub read_by : App → (List Row → Option Command) → List (List ℕ) → Option Command
read_by command made words = if is_read command words then made (rows_read command words) else None

-- the command of a name, with the words after it
abbrev pub command_named : List ℕ → List (List ℕ) → Option Command
command_named name words =
    if bytes_eq name (codes "run") then read_by run_command run_of words
    else if bytes_eq name (codes "check") then read_by check_command check_of words
    else if bytes_eq name (codes "load") then read_by load_command load_of words
    else if bytes_eq name (codes "dis") then read_by dis_command dis_of words
    else if bytes_eq name (codes "flat") then read_by flat_command flat_of words
    else None

-- the command that the words call for, if they call for one
unfoldable pub command_of : List (List ℕ) → Option Command
command_of [] = None
command_of (name ∷ words) = command_named name words

-- What is answered is what is wanted, or Usage where nothing is, or want of memory.
abbrev pub Reads : {T : Type 0} → Option T → Result T WordFault → Type 0
Reads wanted (Ok answer) = wanted ≡ Some answer
Reads wanted (Err Usage) = wanted ≡ None
Reads wanted (Err NoMemory) = ⊤
