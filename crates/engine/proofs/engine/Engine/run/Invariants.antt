use Rattle.std.proofs.Common.{◌≡◌, ◌+◌, ◌-◌, ◌*◌}
use Rattle.discrete_events.specs.Serial.{final}
use Rattle.engine.specs.Engine.{IsUnbroken, events_so_far, sim_of, world_of}
use Rattle.engine.proofs.engine.Engine.run.Given as goal

-- what is left of the run comes to the same end, and each quantum so far was run by threads
abbrev pub invariant-loop : goal.invariant-loop
invariant-loop g l = record {
  machine : l.self.machine ≡ l.fn.self.machine;
  unbroken : IsUnbroken l.self → IsUnbroken l.fn.self;
  end : final (sim_of l.fn.self) (world_of l.self) ≡ final (sim_of l.fn.self) (world_of l.fn.self);
  threaded : l.self.threaded + l.fn.self.quanta ≡ l.fn.self.threaded + l.self.quanta;
}

abbrev pub decreases-loop : goal.decreases-loop
decreases-loop g l = l.fn.self.machine.nodes * l.fn.self.machine.event_limit - events_so_far l.self
