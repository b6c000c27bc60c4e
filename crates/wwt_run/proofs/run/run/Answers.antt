use Rattle.std.proofs.Common.{◌≡◌, subst}
use Rattle.std.specs.Prelude.{IfOk}
use Rattle.wt_outside.proofs.WriteLemmas.{writes_same}
use Rattle.wwt_run.specs.declared.status.Status.{Status}
use Rattle.wwt_run.proofs.RunLemmas.{output_is, status_is}
use Rattle.wwt_run.proofs.run.run.Goals as goal

pub returns-clause-status : goal.returns-clause-status
returns-clause-status g c =
    subst (λ (told : Status). IfOk c.tell.result (λ status. status ≡ told))
    (status_is c.args.machine.now c.args.loaded.now c.args.options.now c.in_ok-engine.engine c.in_ok-engine.ensures) c.tell.ensures.status

pub returns-clause-writes : goal.returns-clause-writes
returns-clause-writes g c =
    writes_same c.tell.result (output_is c.args.machine.now c.args.loaded.now c.args.options.now c.in_ok-engine.engine c.in_ok-engine.ensures) c.tell.ensures.writes
