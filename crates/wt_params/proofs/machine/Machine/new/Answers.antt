use Rattle.std.proofs.Common.{refl, sym, ◌∙◌}
use Rattle.std.proofs.lemmas.Option.{none-some}
use Rattle.wt_params.proofs.Ranges.{ranges_from_none, none_from_ranges}
use Rattle.wt_params.proofs.machine.Machine.new.Goals as goal

pub invariant_of-result : goal.invariant_of-result
invariant_of-result c = ranges_from_none c.args.parts (sym c.fault.ensures ∙ c.in-None.is)

pub returns-in-None-clause-ranges : goal.returns-in-None-clause-ranges
returns-in-None-clause-ranges c =
    (λ _. ranges_from_none c.args.parts (sym c.fault.ensures ∙ c.in-None.is), λ _. refl)

pub returns-in-Some-clause-ranges : goal.returns-in-Some-clause-ranges
returns-in-Some-clause-ranges c = (
  λ e. absurd cc,
  λ h. absurd (none-some _ (sym (none_from_ranges c.args.parts h) ∙ (sym c.fault.ensures ∙ c.in-Some.is))),
)
