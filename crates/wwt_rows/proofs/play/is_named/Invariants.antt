use Rattle.std.proofs.Common.{◌≢◌}
use Rattle.std.specs.List.{AllWithin}
use Rattle.std.specs.String.{string_bytes}
use Rattle.wwt_rows.proofs.play.is_named.Given as goal

-- no file so far has the name
abbrev pub invariant-loop-other : goal.invariant-loop-other
invariant-loop-other l = AllWithin (λ file. string_bytes file.0 ≢ l.name) l.files 0 l.other-index
