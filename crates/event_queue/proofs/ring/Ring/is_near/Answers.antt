use Rattle.std.proofs.Common.{arith}
use Rattle.std.proofs.lemmas.Bool.Decides.{nat_tests}
use Rattle.event_queue.proofs.CycleLaws.{near_some, near_within}
use Rattle.event_queue.proofs.ring.Ring.is_near.Goals as goal

pub returns-then-self-time : goal.returns-then-self-time
returns-then-self-time c = (
  λ is. near_within c.self.inside.base c.self.inside.slots c.args.self.now c.args.time c.self.view_is (omega arith) (grind (arith, nat_tests)),
  λ near.
      let both = near_some c.self.inside.base c.in-Some._place c.self.inside.slots c.args.self.now c.args.time c.self.view_is c.in-Some.ensures near in
      grind (arith, nat_tests),
)

pub returns-else-self-time : goal.returns-else-self-time
returns-else-self-time c = (
  λ is. near_within c.self.inside.base c.self.inside.slots c.args.self.now c.args.time c.self.view_is (grind (arith, nat_tests)) (grind (arith, nat_tests)),
  λ near.
      let both = near_some c.self.inside.base c.in-Some._place c.self.inside.slots c.args.self.now c.args.time c.self.view_is c.in-Some.ensures near in
      grind (arith, nat_tests),
)
