use Rattle.std.proofs.Common.{◌≡◌, suc, sym, ◌∙◌, subst, arith}
use Rattle.quantum.specs.Sites.{IsTurn}
use Rattle.quantum.proofs.Turns.{no_turn_spent, none_at_all, step_turn, message_turn, none_wait, some_wait}
use Rattle.quantum.proofs.site.Site.turn.Goals as goal

pub returns-then-spent : goal.returns-then-spent
returns-then-spent c = λ past is. no_turn_spent c.args.self.now c.args.until past is c.requires.rising (sym c.if-spent.true ∙ c.spent.ensures.spent)

pub returns-in-None-None : goal.returns-in-None-None
returns-in-None-None c = λ past is. none_at_all c.args.self.now c.args.until past is c.requires.rising (sym c.in-None-None.is-0 ∙ c.requires.first) (sym c.in-None-None.is-1 ∙ c.next_step.ensures)

pub returns-in-None-Some : goal.returns-in-None-Some
returns-in-None-Some c = λ past is.
    subst (IsTurn c.args.until c.args.self.now) (sym c.before-in-None-Some.ensures)
    (step_turn c.args.self.now c.args.until past is c.requires.rising c.in-None-Some.step (sym c.if-spent.false ∙ c.spent.ensures.spent) (sym c.next_step.ensures ∙ c.in-None-Some.is-1)
    (none_wait c.args.self.now c.args.until past is c.requires.rising (sym c.in-None-Some.is-0 ∙ c.requires.first) (suc c.in-None-Some.step)))

pub returns-in-Some-None : goal.returns-in-Some-None
returns-in-Some-None c = λ past is.
    subst (IsTurn c.args.until c.args.self.now) (sym c.before-in-Some-None.ensures)
    (message_turn c.args.self.now c.args.until past is c.requires.rising c.in-Some-None.message (sym c.if-spent.false ∙ c.spent.ensures.spent) (sym c.in-Some-None.is-0 ∙ c.requires.first)
    (λ at next. let none = sym c.next_step.ensures ∙ c.in-Some-None.is-1 in cc))

pub returns-then-message-step : goal.returns-then-message-step
returns-then-message-step c = λ past is.
    subst (IsTurn c.args.until c.args.self.now) (sym c.before-then-message-step.ensures)
    (message_turn c.args.self.now c.args.until past is c.requires.rising c.in-Some-Some.message (sym c.if-spent.false ∙ c.spent.ensures.spent) (sym c.in-Some-Some.is-0 ∙ c.requires.first)
    (λ at next. let same : c.in-Some-Some.step ≡ at = cc (sym c.next_step.ensures ∙ c.in-Some-Some.is-1, next) in let least = c.if-message-step.true in omega arith))

pub returns-else-message-step : goal.returns-else-message-step
returns-else-message-step c = λ past is.
    subst (IsTurn c.args.until c.args.self.now) (sym c.before-else-message-step.ensures)
    (step_turn c.args.self.now c.args.until past is c.requires.rising c.in-Some-Some.step (sym c.if-spent.false ∙ c.spent.ensures.spent) (sym c.next_step.ensures ∙ c.in-Some-Some.is-1)
    (some_wait c.args.self.now c.args.until past is c.requires.rising c.in-Some-Some.message (suc c.in-Some-Some.step) (sym c.in-Some-Some.is-0 ∙ c.requires.first) (let later = c.if-message-step.false in omega arith)))
