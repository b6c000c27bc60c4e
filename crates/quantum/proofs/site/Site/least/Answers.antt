use Rattle.std.proofs.Common.{ap, ◌∙◌, subst, Some}
use Rattle.wt_params.specs.declared.parts.MachineParts.{MachineParts}
use Rattle.quantum.specs.Sites.{IsTurn}
use Rattle.quantum.proofs.Turns.{no_least_time, step_least_time, message_least_time}
use Rattle.quantum.proofs.site.Site.least.Goals as goal

pub returns-in-None : goal.returns-in-None
returns-in-None c = λ past is. no_least_time c.args.self.now c.budget-budget.result past (c.budget-budget.ensures.value ∙ ap (λ (m : MachineParts). m.budget) c.machine.ensures) is (c.in-None.ensures past is)

pub returns-in-Some-Step : goal.returns-in-Some-Step
returns-in-Some-Step c = λ past is.
    c.next_step.ensures ∙ step_least_time c.args.self.now c.budget-budget.result past (c.budget-budget.ensures.value ∙ ap (λ (m : MachineParts). m.budget) c.machine.ensures) is
    (subst (λ t. IsTurn c.budget-budget.result c.args.self.now (Some t)) c.in-Some-Step.field-0-is (c.in-Some-Step.ensures past is))

pub returns-in-Some-Message : goal.returns-in-Some-Message
returns-in-Some-Message c = λ past is.
    c.requires.first ∙ message_least_time c.args.self.now c.budget-budget.result past (c.budget-budget.ensures.value ∙ ap (λ (m : MachineParts). m.budget) c.machine.ensures) is
    (subst (λ t. IsTurn c.budget-budget.result c.args.self.now (Some t)) c.in-Some-Message.field-0-is (c.in-Some-Message.ensures past is))
