-- The names of files. Own.
use Rattle.std.specs.Prelude.{◌≢◌, ℕ, List, All, Vec, String}
use Rattle.std.specs.declared.alloc.Global.{Global}
use Rattle.std.specs.String.{string_bytes}

-- none of the files has the name
abbrev pub IsNew : List ℕ → List (String Global × Vec ℕ Global) → Type 0
IsNew name files = All (λ file. string_bytes file.0 ≢ name) files
