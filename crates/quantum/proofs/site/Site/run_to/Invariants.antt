use Rattle.std.proofs.Common.{◌≡◌, ◌-◌, ◌≤◌, [], length, take, drop}
use Rattle.node.specs.State.{events_of}
use Rattle.quantum.proofs.Free.{IsRunning}
use Rattle.quantum.proofs.site.Site.run_to.Given as goal

-- the run so far, by the messages that it has added to the list
abbrev pub invariant-loop-turn : goal.invariant-loop-turn
invariant-loop-turn g l = record {
  within : length l.fn.outs ≤ length l.outs;
  kept : take (length l.fn.outs) l.outs ≡ l.fn.outs;
  running : IsRunning l.until l.fn.self l.self l.first [] (drop (length l.fn.outs) l.outs) l.fn.steps l.steps;
}

abbrev pub decreases-loop-turn : goal.decreases-loop-turn
decreases-loop-turn g l = l.fn.self.node.machine.event_limit - events_of l.self.node.state
