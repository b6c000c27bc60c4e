-- The small machine that tests are run on. Own.
use Rattle.std.specs.Prelude.{ℕ}
use Rattle.wt_params.specs.declared.parts.MachineParts.{MachineParts}

-- of so many nodes: a page of private memory, four blocks, a cache of two sets of one way, and the default costs
abbrev pub small_machine : ℕ → MachineParts
small_machine nodes = record {
  nodes = nodes;
  private_bytes = 4096;
  block_bytes = 16;
  blocks = 4;
  sets = 2;
  ways = 1;
  latency = 100;
  self_latency = 10;
  hop = 0;
  width = nodes;
  pointers = 0;
  quantum = 100;
  event_limit = 1000;
  budget = 1000;
  costs = record { op = 1; taken = 2; mem = 1; hit = 1; cico = 1; call = 1; fill = 4; trap = 250; trap_each = 5 };
}
