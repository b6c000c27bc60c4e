use Rattle.std.proofs.Common.{Some, sym, ap, ◌∙◌, ◌++◌, inr}
use Rattle.std.specs.Option.{option_map}
use Rattle.machine_json.specs.declared.fault.MachineFault.TheVariants.{Unknown, Kind}
use Rattle.machine_json.specs.Numbers.{costs_fault, costs_at, members_fault}
use Rattle.machine_json.specs.Table.{cost_prefix}
use Rattle.machine_json.proofs.fields.check_costs.Goals as goal

pub returns-in_default-clause-ok : goal.returns-in_default-clause-ok
unfolding costs_fault
returns-in_default-clause-ok c = ap costs_at (sym c.in_default.ensures)

pub returns-in_default-as_object-clause-fault : goal.returns-in_default-as_object-clause-fault
unfolding costs_fault
returns-in_default-as_object-clause-fault c =
    inr (ap costs_at (sym c.in-Some.ensures) ∙ ap members_fault (sym c.in_default-as_object.ensures) ∙ ap (λ key. Some (Kind key)) (sym c.in_ok-key.ensures))

pub returns-in_ok-cost_key-in-Some-unknown_in-clause-fault :
    goal.returns-in_ok-cost_key-in-Some-unknown_in-clause-fault
unfolding costs_fault
returns-in_ok-cost_key-in-Some-unknown_in-clause-fault c =
    inr (
    ap costs_at (sym c.in-Some.ensures) ∙ ap members_fault (sym c.in-Some-as_object.ensures)
    ∙ ap (option_map (λ name. Unknown (cost_prefix ++ name))) (sym c.in-Some-unknown_in.ensures)
    ∙ ap (λ key. Some (Unknown key)) (sym c.in_ok-cost_key-in-Some-unknown_in.ensures)
    )

pub returns-in-None-clause-ok : goal.returns-in-None-clause-ok
unfolding costs_fault
returns-in-None-clause-ok c =
    ap costs_at (sym c.in-Some.ensures) ∙ ap members_fault (sym c.in-Some-as_object.ensures)
    ∙ ap (option_map (λ name. Unknown (cost_prefix ++ name))) (sym c.in-None.ensures)
