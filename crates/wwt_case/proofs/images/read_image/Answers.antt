use Rattle.wwt_case.proofs.ImageLemmas.{by_file}
use Rattle.wwt_case.proofs.images.read_image.Goals as goal

pub returns-in-File-clause-read : goal.returns-in-File-clause-read
returns-in-File-clause-read g c =
    by_file c.args.number c.args.entry.now _ _ c.in-File.elf c.in-File.at _ _ _ c.read_program.result c.in-File.is c.get-in-File.ensures c.read_program.ensures.read
