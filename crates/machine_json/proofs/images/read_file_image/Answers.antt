use Rattle.std.proofs.Common.{Ok, sym, ap, ◌∙◌}
use Rattle.std.proofs.lemmas.Result.{err_from_is_err_and}
use Rattle.machine_json.specs.declared.description.ImageSpec.TheVariants.{File}
use Rattle.machine_json.specs.Images.{file_image}
use Rattle.machine_json.proofs.FaultLaws.{refusal_of_step, refusal_of_next, value_of_next}
use Rattle.machine_json.proofs.images.read_file_image.Goals as goal

pub returns-in_err-text-clause-fault : goal.returns-in_err-text-clause-fault
unfolding file_image
returns-in_err-text-clause-fault c =
    let p = err_from_is_err_and c.from_residual.result c.from_residual.ensures.1 in
    rw (p.1, p.2) (refusal_of_step _ _ _ c.in_err-text.ensures.fault)

pub returns-in_err-elf-clause-fault : goal.returns-in_err-elf-clause-fault
unfolding file_image
returns-in_err-elf-clause-fault c =
    let p = err_from_is_err_and c.from_residual-in_err-elf.result c.from_residual-in_err-elf.ensures.1 in
    rw (p.1, p.2)
    (refusal_of_next _ _ c.in_ok-text.text.now _ c.in_ok-text.ensures.ok (refusal_of_step _ _ _ c.in_err-elf.ensures.fault))

pub returns-in_err-at-clause-fault : goal.returns-in_err-at-clause-fault
unfolding file_image
returns-in_err-at-clause-fault c =
    let p = err_from_is_err_and c.from_residual-in_err-at.result c.from_residual-in_err-at.ensures.1 in
    rw (p.1, p.2)
    (refusal_of_next _ _ c.in_ok-text.text.now _ c.in_ok-text.ensures.ok
    (refusal_of_next _ _ c.in_ok-elf.elf _ c.in_ok-elf.ensures.ok (refusal_of_step _ _ _ c.in_err-at.ensures.fault)))

pub returns-clause-ok : goal.returns-clause-ok
unfolding file_image
returns-clause-ok c =
    value_of_next _ _ c.in_ok-text.text.now _ c.in_ok-text.ensures.ok
    (value_of_next _ _ c.in_ok-elf.elf _ c.in_ok-elf.ensures.ok
    (value_of_next _ _ c.in_ok-at.at _ c.in_ok-at.ensures.ok
    (ap (λ name. Ok (File name c.in_ok-elf.elf c.in_ok-at.at)) (sym (c.new-name.ensures ∙ c.in_ok-from_str.ensures.ok)))))
