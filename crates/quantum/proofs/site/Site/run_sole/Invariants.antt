use Rattle.std.proofs.Common.{◌-◌, []}
use Rattle.node.specs.State.{events_of}
use Rattle.quantum.proofs.SoleLemmas.{IsRunningAlone}
use Rattle.quantum.proofs.site.Site.run_sole.Given as goal

abbrev pub invariant-loop-turn : goal.invariant-loop-turn
invariant-loop-turn g l = IsRunningAlone l.fn.self l.self l.first [] l.fn.quanta l.quanta

abbrev pub decreases-loop-turn : goal.decreases-loop-turn
decreases-loop-turn g l = l.fn.self.node.machine.event_limit - events_of l.self.node.state
