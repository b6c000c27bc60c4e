use Rattle.std.proofs.Common.{◌≡◌, ◌-◌, ◌*◌}
use Rattle.discrete_events.specs.Serial.{final}
use Rattle.engine.specs.Engine.{IsUnbroken, events_so_far, sim_of, world_of}
use Rattle.engine.proofs.engine.Engine.run_plain.Given as goal

-- a ledger of one part, as the blank has
abbrev pub ghosts-run_sole : goal.ghosts-run_sole
ghosts-run_sole a = record { name = a.blank.name; parts = a.blank.parts }

-- what is left of the run comes to the same end
abbrev pub invariant-loop : goal.invariant-loop
invariant-loop l = record {
  machine : l.self.machine ≡ l.fn.self.machine;
  unbroken : IsUnbroken l.self → IsUnbroken l.fn.self;
  end : final (sim_of l.fn.self) (world_of l.self) ≡ final (sim_of l.fn.self) (world_of l.fn.self);
}

abbrev pub decreases-loop : goal.decreases-loop
decreases-loop l = l.fn.self.machine.nodes * l.fn.self.machine.event_limit - events_so_far l.self
