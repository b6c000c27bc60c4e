use Rattle.wwt_run.proofs.RunLemmas.{at_end, from_the_start}
use Rattle.wwt_run.proofs.simulate.simulate.Goals as goal

pub returns : goal.returns
returns c =
    let ran = c.in_ok-run_plain.ensures in
    at_end c.args.machine.now c.args.loaded.now c.args.traced c.in_ok-engine.engine c.run_plain.new.self
    (from_the_start c.args.machine.now c.args.loaded.now c.args.traced c.in_ok-engine.engine c.in_ok-engine.ensures.machine c.in_ok-engine.ensures.unbroken c.in_ok-engine.ensures.running c.in_ok-engine.ensures.start)
    c.requires c.images-images.ensures.loaded ran.end ran.machine ran.unbroken.1
