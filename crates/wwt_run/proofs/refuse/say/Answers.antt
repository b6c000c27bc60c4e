use Rattle.std.proofs.Common.{subst, arith}
use Rattle.wwt_run.specs.Answer.{Tells}
use Rattle.wwt_run.proofs.LineLemmas.{part_more, told_until, told_whole}
use Rattle.wwt_run.proofs.refuse.say.Goals as goal

pub returns-in-Err : goal.returns-in-Err
returns-in-Err g c =
    subst (λ line. Tells line g.E.Sink.view c.args.err.now c.say_part.new.err) c.requires
    (told_until c.args.parts.now c.loop-part.part-index _ _ c.loop-part-test.true c.in-Err.ensures.fault c.loop-part.invariant c.in-Err.ensures.writes)

pub loop-part-preserved : goal.loop-part-preserved
loop-part-preserved g c =
    part_more c.args.parts.now c.loop-part.part-index _ c.loop-part-test.true c.loop-part.invariant c.in-Ok.ensures.writes

pub returns : goal.returns
returns g c =
    subst (λ line. Tells line g.E.Sink.view c.args.err.now c.loop-part.err) c.requires
    (told_whole c.args.parts.now c.loop-part.part-index (omega arith) c.loop-part.invariant)
