use Rattle.std.proofs.Common.{ap, sym, subst}
use Rattle.inbox.specs.declared.view.View.{View}
use Rattle.inbox.specs.Views.{HasSource}
use Rattle.inbox.specs.Passes.{PassModel}
use Rattle.inbox.proofs.Steps.{deposits}
use Rattle.inbox.proofs.Kept.{put_in}
use Rattle.inbox.proofs.inbox.Inbox.deposit_letter.Goals as goal

pub push_as-requires-clause-rule : goal.push_as-requires-clause-rule
push_as-requires-clause-rule g c = λ n.
    deposits n _ c.pass.inside.seat.me.view.client c.args.message
    (subst (λ (v : View). HasSource v c.args.message.from) (sym (ap (λ (m : PassModel). m.view) c.pass.view_is)) c.requires.source)

pub invariant_of-pass : goal.invariant_of-pass
invariant_of-pass g c =
    let source = subst (λ (v : View). HasSource v c.args.message.from) (sym (ap (λ (m : PassModel). m.view) c.pass.view_is)) c.requires.source in (
      c.push_as.ensures.queue.0.1,
      c.push_as.ensures.queue.0.2,
      put_in _ _ _ c.push_as.result c.pass.inside.lo c.pass.inside.hi c.pass.inside.takes c.pass.inside.seat.me.view.client c.push_as.new.pass.me.view.client c.args.message c.pass.invariant.2 source c.push_as.ensures.rule,
    )

pub returns-clause-order : goal.returns-clause-order
returns-clause-order g c =
    let source = subst (λ (v : View). HasSource v c.args.message.from) (sym (ap (λ (m : PassModel). m.view) c.pass.view_is)) c.requires.source in
    (put_in _ _ _ c.push_as.result c.pass.inside.lo c.pass.inside.hi c.pass.inside.takes c.pass.inside.seat.me.view.client c.push_as.new.pass.me.view.client c.args.message c.pass.invariant.2 source c.push_as.ensures.rule).order
