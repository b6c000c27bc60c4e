use Rattle.wwt_case.proofs.CaseLemmas.{loaded_flat}
use Rattle.wwt_case.proofs.case.flat_job.Goals as goal

pub returns-in-Ok-clause-ready : goal.returns-in-Ok-clause-ready
returns-in-Ok-clause-ready c =
    loaded_flat c.flat-2.result c.into_inner.result.items c.in_ok-image.image c.new-images.result c.push.new.self c.into_inner-2.result.items c.in-Ok.loaded
    c.flat-2.ensures c.in_ok-image.ensures.image c.new-images.ensures c.in_ok-push.ensures.ok c.into_inner-2.ensures c.in-Ok.ensures.loaded
