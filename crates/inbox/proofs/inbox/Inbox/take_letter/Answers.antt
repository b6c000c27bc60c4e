use Rattle.std.proofs.Common.{ap, ◌∙◌}
use Rattle.inbox.specs.Passes.{PassModel}
use Rattle.inbox.proofs.Steps.{takes, learns}
use Rattle.inbox.proofs.Kept.{took, merge_of}
use Rattle.inbox.proofs.inbox.Inbox.take_letter.Goals as goal

pub pop_as-requires-clause-rule : goal.pop_as-requires-clause-rule
pop_as-requires-clause-rule g c = (takes _ _ (ap (λ (m : PassModel). m.view.takes) c.pass.view_is ∙ c.requires.right), learns _ _)

pub invariant_of-pass : goal.invariant_of-pass
invariant_of-pass g c = (
  c.pop_as.ensures.queue.0.1,
  c.pop_as.ensures.queue.0.2,
  took _ c.pop_as.result c.pass.inside.lo c.pass.inside.hi c.pass.inside.takes c.pass.inside.seat.me.view.client c.pop_as.new.pass.me.view.client c.pass.invariant.2
      (ap (λ (m : PassModel). m.view.takes) c.pass.view_is ∙ c.requires.right) c.pop_as.ensures.rule,
)

pub returns-clause-merge : goal.returns-clause-merge
returns-clause-merge g c =
    merge_of _ c.pop_as.result c.pass.inside.lo c.pass.inside.hi c.pass.inside.takes c.pass.inside.seat.me.view.client c.pop_as.new.pass.me.view.client c.pass.invariant.2
    (ap (λ (m : PassModel). m.view.takes) c.pass.view_is ∙ c.requires.right) c.pop_as.ensures.rule

pub returns-clause-order : goal.returns-clause-order
returns-clause-order g c =
    (took _ c.pop_as.result c.pass.inside.lo c.pass.inside.hi c.pass.inside.takes c.pass.inside.seat.me.view.client c.pop_as.new.pass.me.view.client c.pass.invariant.2
    (ap (λ (m : PassModel). m.view.takes) c.pass.view_is ∙ c.requires.right) c.pop_as.ensures.rule).order
