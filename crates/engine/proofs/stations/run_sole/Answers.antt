use Rattle.engine.proofs.SoleLemmas.{at_first_place, ran_alone}
use Rattle.engine.proofs.stations.run_sole.Goals as goal

pub run_sole-requires : goal.run_sole-requires
run_sole-requires g c = (at_first_place c.args.stations.now c.args.quanta c.index-stations-0.result c.requires).1

pub returns : goal.returns
returns g c = ran_alone c.args.stations.now c.args.quanta c.index-stations-0.result c.run_sole.new.self c.requires c.run_sole.result c.run_sole.ensures.ended c.run_sole.ensures.live c.run_sole.ensures.machine
