use Rattle.std.proofs.Common.{Ok, sym, ap, ◌∙◌}
use Rattle.std.proofs.lemmas.Result.{err_from_is_err_and}
use Rattle.serde_json.specs.View.{view}
use Rattle.machine_json.specs.Description.{description_in, description_or_fault}
use Rattle.machine_json.specs.Images.{images_of}
use Rattle.machine_json.specs.Table.{version_of}
use Rattle.machine_json.proofs.FaultLaws.{refusal_of_fault, refusal_of_rest, refusal_of_step, same_refusal, value_of_next, value_of_rest}
use Rattle.machine_json.proofs.reader.read_machine.Goals as goal

pub returns-in_err-check_keys-clause-fault : goal.returns-in_err-check_keys-clause-fault
unfolding description_in
returns-in_err-check_keys-clause-fault c =
    let p =
    err_from_is_err_and c.from_residual-in_err-check_keys.result c.from_residual-in_err-check_keys.ensures.1 in
    let from = ap description_or_fault c.in_ok-description.ensures.ok in
    rw (p.1, p.2) (same_refusal _ _ _ (sym from) (refusal_of_fault _ _ _ c.in_err-check_keys.ensures.fault))

pub returns-in_err-check_version-clause-fault : goal.returns-in_err-check_version-clause-fault
unfolding description_in
returns-in_err-check_version-clause-fault c =
    let p =
    err_from_is_err_and c.from_residual-in_err-check_version.result c.from_residual-in_err-check_version.ensures.1 in
    let from = ap description_or_fault c.in_ok-description.ensures.ok in
    rw (p.1, p.2)
    (same_refusal _ _ _ (sym from)
    (refusal_of_rest _ _ _ c.in_ok-check_keys.ensures.ok
    (refusal_of_fault _ _ _ c.in_err-check_version.ensures.fault)))

pub returns-in_err-machine-clause-fault : goal.returns-in_err-machine-clause-fault
unfolding description_in
returns-in_err-machine-clause-fault c =
    let p = err_from_is_err_and c.from_residual-in_err-machine.result c.from_residual-in_err-machine.ensures.1 in
    let from = ap description_or_fault c.in_ok-description.ensures.ok in
    rw (p.1, p.2)
    (same_refusal _ _ _ (sym from)
    (refusal_of_rest _ _ _ c.in_ok-check_keys.ensures.ok
    (refusal_of_rest _ _ _ c.in_ok-check_version.ensures.ok
    (refusal_of_fault _ _ _ c.in_err-machine.ensures.fault))))

pub returns-in_err-images-clause-fault : goal.returns-in_err-images-clause-fault
unfolding description_in
returns-in_err-images-clause-fault c =
    let p = err_from_is_err_and c.from_residual-in_err-images.result c.from_residual-in_err-images.ensures.1 in
    let description = view c.in_ok-description.description in
    let from = ap description_or_fault c.in_ok-description.ensures.ok in
    let nodes = c.nodes.ensures.value ∙ ap (λ machine. machine.nodes) c.in_ok-machine.ensures.machine in
    rw (p.1, p.2)
    (same_refusal _ _ _ (sym from)
    (refusal_of_rest _ _ _ c.in_ok-check_keys.ensures.ok
    (refusal_of_rest _ _ _ c.in_ok-check_version.ensures.ok
    (refusal_of_rest _ _ _ c.in_ok-machine.ensures.none
    (refusal_of_step _ _ _
    (same_refusal _ _ _ (ap (λ n. images_of n description) nodes) c.in_err-images.ensures.fault))))))

pub returns-clause-ok : goal.returns-clause-ok
unfolding description_in
returns-clause-ok c =
    let description = view c.in_ok-description.description in
    let nodes = c.nodes.ensures.value ∙ ap (λ machine. machine.nodes) c.in_ok-machine.ensures.machine in
    ap description_or_fault c.in_ok-description.ensures.ok
    ∙ value_of_rest _ _ _ c.in_ok-check_keys.ensures.ok
    (value_of_rest _ _ _ c.in_ok-check_version.ensures.ok
    (value_of_rest _ _ _ c.in_ok-machine.ensures.none
    (value_of_next _ _ c.in_ok-images.images _
    (ap (λ n. images_of n description) (sym nodes) ∙ c.in_ok-images.ensures.ok)
    (ap (λ machine. Ok (record { machine = machine; images = c.in_ok-images.images; version = version_of description })) (sym c.in_ok-machine.ensures.machine)
    ∙ ap (λ version. Ok (record { machine = c.in_ok-machine.machine; images = c.in_ok-images.images; version = version })) (sym c.version_of.ensures)))))
