use Rattle.std.proofs.Common.{sym, subst}
use Rattle.std.specs.Prelude.{All}
use Rattle.std.proofs.lemmas.Result.{on_ok_weaker}
use Rattle.std.proofs.lemmas.List.Elements.{All-push}
use Rattle.wt_proto.specs.Messages.{StampedFits}
use Rattle.parts_tests.proofs.records.add_send.Goals as goal

pub returns : goal.returns
returns c =
    let fits = StampedFits c.args.machine.now in
    on_ok_weaker c.push.result
    (λ more. subst (All fits) (sym more) (All-push fits c.args.list.now c.in-Some.send c.requires (c.stamped_fits.ensures c.if-not-stamped_fits.false)))
    c.push.ensures.ok
