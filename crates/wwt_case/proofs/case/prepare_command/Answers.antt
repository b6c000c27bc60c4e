use Rattle.wwt_case.proofs.CaseLemmas.{accepts, usage_as, no_usage_of_load, of_check, of_dis, of_flat, of_run, of_load}
use Rattle.wwt_case.proofs.case.prepare_command.Goals as goal

pub returns-in-Check-clause-read : goal.returns-in-Check-clause-read
returns-in-Check-clause-read g c =
    of_check _ c.in-Check.machine _ _ _ _ c.prepare_check.result c.in-Check.is c.get.ensures c.prepare_check.ensures.read

pub returns-in-Check-clause-usage : goal.returns-in-Check-clause-usage
returns-in-Check-clause-usage g c =
    accepts _ _ c.prepare_check.result (usage_as c.in-Check.is) c.prepare_check.ensures.other

pub returns-in-Dis-clause-read : goal.returns-in-Dis-clause-read
returns-in-Dis-clause-read g c =
    of_dis _ c.in-Dis.image _ _ _ _ c.prepare_dis.result c.in-Dis.is c.get-in-Dis.ensures c.prepare_dis.ensures.read

pub returns-in-Dis-clause-usage : goal.returns-in-Dis-clause-usage
returns-in-Dis-clause-usage g c =
    accepts _ _ c.prepare_dis.result (usage_as c.in-Dis.is) c.prepare_dis.ensures.other

pub returns-in-Flat-clause-read : goal.returns-in-Flat-clause-read
returns-in-Flat-clause-read g c = of_flat _ _ _ _ c.prepare_flat.result c.in-Flat.is c.prepare_flat.ensures.read

pub returns-in-Flat-clause-usage : goal.returns-in-Flat-clause-usage
returns-in-Flat-clause-usage g c =
    accepts _ _ c.prepare_flat.result (usage_as c.in-Flat.is) c.prepare_flat.ensures.other

pub returns-in-Run-clause-read : goal.returns-in-Run-clause-read
returns-in-Run-clause-read g c =
    of_run _ c.in-Run.workers c.in-Run.trace c.in-Run.memory c.in-Run.budget c.in-Run.machine _ _ _ _ c.prepare_run.result c.in-Run.is c.get-name.ensures c.prepare_run.ensures.read

pub returns-in-Run-clause-usage : goal.returns-in-Run-clause-usage
returns-in-Run-clause-usage g c =
    accepts _ _ c.prepare_run.result (usage_as c.in-Run.is) c.prepare_run.ensures.other

pub returns-in-Load-clause-read : goal.returns-in-Load-clause-read
returns-in-Load-clause-read g c = of_load _ c.in-Load.number c.in-Load.workers _ _ _ c.prepare_load.result c.in-Load.is c.prepare_load.ensures.read

pub returns-in-Load-clause-usage : goal.returns-in-Load-clause-usage
returns-in-Load-clause-usage g c =
    accepts _ _ c.prepare_load.result (no_usage_of_load _ c.in-Load.workers c.in-Load.number c.in-Load.is)
    c.prepare_load.ensures.other
