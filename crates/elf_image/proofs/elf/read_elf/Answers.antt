use Rattle.std.proofs.Common.{◌∙◌, ap, inr}
use Rattle.std.proofs.lemmas.Result.{err_from_is_err_and}
use Rattle.elf_image.specs.Elf.{header_tests, program_tests, unless_fault, image_of}
use Rattle.elf_image.proofs.FirstFault.{fault_in_front, fault_in_rest}
use Rattle.elf_image.proofs.elf.read_elf.Goals as goal

pub returns-in_err-check_header-clause-fault : goal.returns-in_err-check_header-clause-fault
returns-in_err-check_header-clause-fault c =
    let p = err_from_is_err_and c.from_residual.result c.from_residual.ensures.1 in
    rw (p.1, p.2)
    (inr (ap (λ f. unless_fault f (image_of c.args.bytes.now)) (fault_in_front header_tests program_tests c.args.bytes.now _ c.in_err-check_header.ensures.fault)))

pub returns-in_err-check_program_headers-clause-fault : goal.returns-in_err-check_program_headers-clause-fault
returns-in_err-check_program_headers-clause-fault c =
    let p =
    err_from_is_err_and c.from_residual-in_err-check_program_headers.result c.from_residual-in_err-check_program_headers.ensures.1 in
    rw (p.1, p.2)
    (inr (ap (λ f. unless_fault f (image_of c.args.bytes.now)) (fault_in_rest header_tests program_tests c.args.bytes.now c.in_ok-check_header.ensures.ok ∙ c.in_err-check_program_headers.ensures.fault)))
