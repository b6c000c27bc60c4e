use Rattle.std.proofs.Common.{sym, ap, ◌∙◌}
use Rattle.std.specs.Option.{option_or}
use Rattle.std.proofs.lemmas.Result.{err_from_is_err_and}
use Rattle.serde_json.specs.View.{view}
use Rattle.wt_params.specs.Fields.{machine_of}
use Rattle.machine_json.specs.Description.{numbers_fault, own_fault, cost_fault}
use Rattle.machine_json.specs.Numbers.{parts_of, few_nodes_fault, costs_fault}
use Rattle.machine_json.proofs.FaultLaws.{fault_of_first, fault_of_rest, same_fault}
use Rattle.machine_json.proofs.Refusals.{made_of_parts}
use Rattle.machine_json.proofs.TwoParts.{own_part, cost_part}
use Rattle.machine_json.proofs.fields.read_numbers.Goals as goal

pub returns-in_err-check_few_nodes-clause-fault : goal.returns-in_err-check_few_nodes-clause-fault
unfolding numbers_fault
returns-in_err-check_few_nodes-clause-fault c =
    let p = err_from_is_err_and c.from_residual.result c.from_residual.ensures.1 in
    rw (p.1, p.2) (fault_of_first _ _ _ c.in_err-check_few_nodes.ensures.fault)

pub returns-in_err-check_fields-clause-fault : goal.returns-in_err-check_fields-clause-fault
unfolding numbers_fault
returns-in_err-check_fields-clause-fault c =
    let p = err_from_is_err_and c.from_residual-in_err-check_fields.result c.from_residual-in_err-check_fields.ensures.1 in
    let own = own_part (view c.args.description.now) c.all-fields.result c.all-fields.ensures in
    rw (p.1, p.2)
    (fault_of_rest (few_nodes_fault (view c.args.description.now)) _ _ c.in_ok-check_few_nodes.ensures.ok
    (fault_of_first _ _ _ (same_fault _ _ _ own c.in_err-check_fields.ensures.fault)))

pub returns-in_err-check_costs-clause-fault : goal.returns-in_err-check_costs-clause-fault
unfolding numbers_fault
returns-in_err-check_costs-clause-fault c =
    let p = err_from_is_err_and c.from_residual-in_err-check_costs.result c.from_residual-in_err-check_costs.ensures.1 in
    let own = own_part (view c.args.description.now) c.all-fields.result c.all-fields.ensures in
    rw (p.1, p.2)
    (fault_of_rest (few_nodes_fault (view c.args.description.now)) _ _ c.in_ok-check_few_nodes.ensures.ok
    (fault_of_rest (own_fault (view c.args.description.now)) _ _ (sym own ∙ c.in_ok-check_fields.ensures.none) (fault_of_first _ _ _ c.in_err-check_costs.ensures.fault)))

pub returns-in_err-check_fields-2-clause-fault : goal.returns-in_err-check_fields-2-clause-fault
unfolding numbers_fault
returns-in_err-check_fields-2-clause-fault c =
    let p =
    err_from_is_err_and c.from_residual-in_err-check_fields-2.result c.from_residual-in_err-check_fields-2.ensures.1 in
    let own = own_part (view c.args.description.now) c.all-fields.result c.all-fields.ensures in
    let cost = cost_part (view c.args.description.now) c.all-fields.result c.all-fields.ensures in
    rw (p.1, p.2)
    (fault_of_rest (few_nodes_fault (view c.args.description.now)) _ _ c.in_ok-check_few_nodes.ensures.ok
    (fault_of_rest (own_fault (view c.args.description.now)) _ _ (sym own ∙ c.in_ok-check_fields.ensures.none)
    (fault_of_rest (costs_fault (view c.args.description.now)) _ _ c.in_ok-check_costs.ensures.ok
    (same_fault _ _ _ cost c.in_err-check_fields-2.ensures.fault))))

pub returns-clause-machine : goal.returns-clause-machine
returns-clause-machine c =
    made_of_parts (parts_of (view c.args.description.now)) c.unwrap.result
    (ap machine_of (sym c.parts_of-parts.ensures) ∙ sym c.new-made.ensures.exact ∙ c.unwrap.ensures)

pub returns-clause-none : goal.returns-clause-none
unfolding numbers_fault
returns-clause-none c =
    let own = own_part (view c.args.description.now) c.all-fields.result c.all-fields.ensures in
    let cost = cost_part (view c.args.description.now) c.all-fields.result c.all-fields.ensures in
    ap (λ f. option_or f (option_or (own_fault (view c.args.description.now)) (option_or (costs_fault (view c.args.description.now)) (cost_fault (view c.args.description.now))))) c.in_ok-check_few_nodes.ensures.ok
    ∙ ap (λ f. option_or f (option_or (costs_fault (view c.args.description.now)) (cost_fault (view c.args.description.now)))) (sym own ∙ c.in_ok-check_fields.ensures.none)
    ∙ ap (λ f. option_or f (cost_fault (view c.args.description.now))) c.in_ok-check_costs.ensures.ok
    ∙ (sym cost ∙ c.in_ok-check_fields-2.ensures.none)
