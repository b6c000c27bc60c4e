use Rattle.std.proofs.Common.{add-one, ap, sym, ◌∙◌}
use Rattle.std.specs.Option.{option_copied}
use Rattle.core_steps.proofs.SentLemmas.{none_at_end, none_more, some_at}
use Rattle.core_steps.proofs.sent.has_any.Goals as goal
use Rattle.core_steps.proofs.sent.has_any.Goals.{in-Some+else-message-to, in_default}

pub returns-then-message-to : goal.returns-then-message-to
returns-then-message-to c =
    some_at c.args.to c.args.list.now c.loop-place.place c.in-Some.message.now (sym c.get.ensures ∙ ap option_copied c.in-Some.is) c.if-message-to.true

pub loop-place-preserved : goal.loop-place-preserved
loop-place-preserved c = elim c.match-get.branch [
  | in-Some+else-message-to w ↦
      rw add-one (none_more c.args.to c.args.list.now c.loop-place.place w.in-Some.message.now (sym c.get.ensures ∙ ap option_copied w.in-Some.is) w.if-message-to.false c.loop-place.invariant)
  | in_default w ↦ rw add-one (none_at_end c.args.to c.args.list.now c.loop-place.place (sym c.get.ensures ∙ ap option_copied w.in_default.is) c.loop-place.invariant)
]
