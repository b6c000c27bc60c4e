use Rattle.wt_params.specs.Mesh.{distance_of, lookahead_of}
use Rattle.wt_params.proofs.machine.Machine.with_budget.Goals as goal

pub invariant_of-result : goal.invariant_of-result
unfolding lookahead_of distance_of
invariant_of-result c =
    let is = c.self.invariant in
    record {
      nodes = is.nodes;
      private_bytes = is.private_bytes;
      block_bytes = is.block_bytes;
      blocks = is.blocks;
      sets = is.sets;
      ways = is.ways;
      lines = is.lines;
      latency = is.latency;
      self_latency = is.self_latency;
      hop = is.hop;
      width = is.width;
      pointers = is.pointers;
      quantum = is.quantum;
      event_limit = is.event_limit;
      budget = c.requires;
      costs = is.costs;
    }
