use Rattle.wwt_case.proofs.ImageLemmas.{next_image, refused_image, image_unkept}
use Rattle.wwt_case.proofs.images.+read_images.Goals as goal

pub returns-in-Ok-with_image-clause-read : goal.returns-in-Ok-with_image-clause-read
returns-in-Ok-with_image-clause-read g t c =
    next_image c.args.entries.now c.args.found c.in-Ok-with_image.found c.args.number c.entry-item.result c.in-Ok.image _ _ _ _ c.read_images.result
    c.in-len1-up.len_at_least c.entry-item.is c.in-Ok-with_image.ensures.ok c.in-Ok.ensures.read c.read_images.ensures.read

pub returns-in-Err-clause-read : goal.returns-in-Err-clause-read
returns-in-Err-clause-read g t c =
    refused_image c.args.entries.now c.args.found c.args.number c.entry-item.result _ _ _ c.in-Err.refusal
    c.in-len1-up.len_at_least c.entry-item.is c.in-Err.ensures.read

pub returns-in-Err-with_image-clause-read : goal.returns-in-Err-with_image-clause-read
returns-in-Err-with_image-clause-read g t c =
    image_unkept c.args.entries.now c.args.found c.args.number c.entry-item.result c.in-Ok.image _ _ _ c.in-Err-with_image.refusal
    c.in-len1-up.len_at_least c.entry-item.is c.in-Err-with_image.ensures.memory c.in-Ok.ensures.read
