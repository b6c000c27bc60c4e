use Rattle.std.proofs.lemmas.Slice.Zip.{Zip-more, either_empty_from_Zip}
use Rattle.wt_report.proofs.CountLemmas.{one_counter, no_counter}
use Rattle.wt_report.proofs.total.counts.Goals as goal

pub loop-name-preserved : goal.loop-name-preserved
loop-name-preserved c =
    let rests = Zip-more c.loop-name.name-iterator c.next.new.self c.next.result (c.in-Some.name, c.in-Some.value) c.in-Some.is c.next.ensures.steps in
    one_counter _ _ _ _ _ _ _ _ _ rests.0 rests.1 c.loop-name.invariant c.in_ok-counter.ensures

pub returns : goal.returns
returns c =
    no_counter _ _ _ _ (either_empty_from_Zip c.loop-name.name-iterator c.next.new.self c.next.result c.in-None.is c.next.ensures.steps) c.loop-name.invariant
