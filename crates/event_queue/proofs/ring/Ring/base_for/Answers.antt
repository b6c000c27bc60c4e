use Rattle.event_queue.proofs.CycleLaws.{near_some}
use Rattle.event_queue.proofs.ring.Ring.base_for.Goals as goal

pub returns-in-Some-clause-low : goal.returns-in-Some-clause-low
returns-in-Some-clause-low c =
    (near_some c.self.inside.base c.in-Some._place c.self.inside.slots c.args.self.now c.args.time c.self.view_is c.in-Some.ensures c.requires).0

pub returns-in-Some-clause-high : goal.returns-in-Some-clause-high
returns-in-Some-clause-high c =
    (near_some c.self.inside.base c.in-Some._place c.self.inside.slots c.args.self.now c.args.time c.self.view_is c.in-Some.ensures c.requires).1
