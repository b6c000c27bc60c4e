use Rattle.wwt_run.proofs.RunLemmas.{all_by_threads, at_end, from_the_start}
use Rattle.wwt_run.proofs.simulate.simulate_by_workers.Goals as goal

pub returns : goal.returns
returns g c =
    let ran = c.in_ok-run.ensures in
    record {
      at_end =
          at_end c.args.machine.now c.args.loaded.now c.args.traced c.in_ok-engine.engine c.run.new.self
          (from_the_start c.args.machine.now c.args.loaded.now c.args.traced c.in_ok-engine.engine c.in_ok-engine.ensures.machine c.in_ok-engine.ensures.unbroken c.in_ok-engine.ensures.running c.in_ok-engine.ensures.start)
          c.requires.images c.images-images.ensures.loaded ran.end ran.machine ran.unbroken.1;
      threaded = all_by_threads c.args.machine.now c.args.loaded.now c.args.traced c.in_ok-engine.engine c.run.new.self c.in_ok-engine.ensures.start c.in_ok-engine.ensures.threaded ran.threaded;
    }
