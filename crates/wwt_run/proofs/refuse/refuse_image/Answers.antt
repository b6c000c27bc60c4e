use Rattle.std.proofs.Common.{ap, ◌∙◌}
use Rattle.wwt_case.specs.declared.refusal.Refusal.TheVariants.{Image}
use Rattle.wwt_run.proofs.RefusedLemmas.{outside_line}
use Rattle.wwt_run.proofs.refuse.refuse_image.Goals as goal

pub say-requires-in-Outside : goal.say-requires-in-Outside
say-requires-in-Outside g c =
    outside_line c.args.refusal.now c.args.number c.in-Outside.address c.as_bytes-image.result.now c.eight_digits-digits.result
    (c.requires ∙ ap (Image c.args.number) c.in-Outside.is)
    (c.as_bytes-image.ensures.value ∙ c.format.ensures.text) c.eight_digits-digits.ensures
