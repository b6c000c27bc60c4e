-- The declaration of each command to `clap`, as that crate's definition of a simple command sees it. Own.
use Rattle.std.specs.Prelude.{ℕ, Bool, true, false, List, [], ◌∷◌, Some, codes}
use Rattle.clap.specs.Simple.{App, new_app, new_rule, with_rule, on_top, matches_of}
use Rattle.clap.specs.Walk.{Rule, Row}
use Rattle.clap.specs.Faults.{fault_of}
use Rattle.clap.specs.Kinds.{Kinds}
use Rattle.clap.specs.declared.builder.action.ArgAction.TheVariants.{Set, SetTrue}

-- a command that reads the words after its name, without help or version words
abbrev pub plain : List ℕ → App
plain name =
    on_top
    (λ shape. record shape { no_binary_name = true; disable_help_flag = true; disable_version_flag = true })
    (new_app name)

-- an option with one value, that is kept as text
abbrev pub value_option : List ℕ → Rule
value_option name = record (new_rule name) { long = Some name; action = Some Set }

-- an option without a value
abbrev pub flag : List ℕ → Rule
flag name = record (new_rule name) { long = Some name; action = Some SetTrue }

-- a required operand, that is kept as text
abbrev pub operand : List ℕ → Rule
operand name = record (new_rule name) { required = true; action = Some Set }

-- run [--workers W] [--trace] [--memory] [--budget B] MACHINE
unfoldable pub run_command : App
run_command =
    with_rule
    (with_rule
    (with_rule
    (with_rule (with_rule (plain (codes "run")) (value_option (codes "workers"))) (flag (codes "trace")))
    (flag (codes "memory")))
    (value_option (codes "budget")))
    (operand (codes "machine"))

-- check MACHINE
unfoldable pub check_command : App
check_command = with_rule (plain (codes "check")) (operand (codes "machine"))

-- load NUMBER [--workers W]
unfoldable pub load_command : App
load_command =
    with_rule (with_rule (plain (codes "load")) (value_option (codes "workers"))) (operand (codes "number"))

-- dis IMAGE
unfoldable pub dis_command : App
dis_command = with_rule (plain (codes "dis")) (operand (codes "image"))

-- flat
unfoldable pub flat_command : App
flat_command = plain (codes "flat")

-- no error may come
abbrev pub is_faultless : Kinds → Bool
is_faultless [] = true
is_faultless (kind ∷ kinds) = false

-- `clap` reads these words by the declaration
unfoldable pub is_read : App → List (List ℕ) → Bool
is_read command words = is_faultless (fault_of command words)

-- what `clap` finds in them
unfoldable pub rows_read : App → List (List ℕ) → List Row
rows_read command words = matches_of command words
