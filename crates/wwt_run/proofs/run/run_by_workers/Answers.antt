use Rattle.std.proofs.Common.{Ok, Err, ◌∙◌}
use Rattle.wt_outside.proofs.WriteLemmas.{writes_done, writes_failed, writes_same, written_by}
use Rattle.wwt_run.proofs.RunLemmas.{output_is, status_is}
use Rattle.wwt_run.proofs.run.run_by_workers.Goals as goal

pub returns-in-Ok-clause-status : goal.returns-in-Ok-clause-status
returns-in-Ok-clause-status g c =
    c.in-Ok.ensures.status ∙ status_is c.args.machine.now c.args.loaded.now c.args.options.now c.in_ok-engine.engine c.in_ok-engine.ensures.at_end

pub returns-in-Ok-clause-writes : goal.returns-in-Ok-clause-writes
returns-in-Ok-clause-writes g c =
    writes_done (written_by (writes_same (Ok c.in-Ok.status) (output_is c.args.machine.now c.args.loaded.now c.args.options.now c.in_ok-engine.engine c.in_ok-engine.ensures.at_end) c.in-Ok.ensures.writes))

pub returns-in-Err-clause-writes : goal.returns-in-Err-clause-writes
returns-in-Err-clause-writes g c =
    writes_failed (writes_same (Err c.in-Err.fault) (output_is c.args.machine.now c.args.loaded.now c.args.options.now c.in_ok-engine.engine c.in_ok-engine.ensures.at_end) c.in-Err.ensures.writes)
