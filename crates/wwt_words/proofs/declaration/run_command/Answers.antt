use Rattle.std.proofs.Common.{◌∙◌, ap₂}
use Rattle.std.proofs.lemmas.Result.{IfOk-weaker}
use Rattle.clap.specs.Simple.{with_rule}
use Rattle.wwt_words.specs.Declarations.{run_command}
use Rattle.wwt_words.proofs.declaration.run_command.Goals as goal

pub returns : goal.returns
unfolding run_command
returns c =
    let one = c.in_ok-arg.ensures.shape c.value_option.ensures.local ∙ ap₂ with_rule c.plain.ensures c.value_option.ensures.rule in
    let two = c.in_ok-arg-2.ensures.shape c.flag.ensures.local ∙ ap₂ with_rule one c.flag.ensures.rule in
    let three = c.in_ok-arg-3.ensures.shape c.flag-2.ensures.local ∙ ap₂ with_rule two c.flag-2.ensures.rule in
    let four = c.in_ok-arg-4.ensures.shape c.value_option-2.ensures.local ∙ ap₂ with_rule three c.value_option-2.ensures.rule in
    IfOk-weaker c.arg-5.result _ _ (λ _ h. h.shape c.operand.ensures.local ∙ ap₂ with_rule four c.operand.ensures.rule) c.arg-5.ensures
