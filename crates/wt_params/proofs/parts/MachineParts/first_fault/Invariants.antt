use Rattle.std.proofs.Common.{◌≡◌, drop, not}
use Rattle.std.specs.Prelude.{find}
use Rattle.wt_params.specs.Fields.{is_in_range}
use Rattle.wt_params.proofs.parts.MachineParts.first_fault.Given as goal

-- what is left has the first fault of all
abbrev pub invariant-loop-field : goal.invariant-loop-field
invariant-loop-field l =
    find (λ field. not (is_in_range l.self field)) l.fields
    ≡ find (λ field. not (is_in_range l.self field)) (drop l.field-index l.fields)
