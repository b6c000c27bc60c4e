use Rattle.std.proofs.Common.{◌≡◌, ◌≤◌, ◌-◌, ◌++◌, length, take, drop}
use Rattle.dir_list.specs.Lists.{with_node}
use Rattle.dir_list.proofs.few.Few.insert.Given as goal

-- the node's place isn't among those before
abbrev pub invariant-loop-place : goal.invariant-loop-place
invariant-loop-place l = record {
  within : l.place ≤ length l.self-inside.nodes.items;
  so_far : with_node l.node l.self-inside.nodes.items ≡ take l.place l.self-inside.nodes.items ++ with_node l.node (drop l.place l.self-inside.nodes.items);
}

abbrev pub decreases-loop-place : goal.decreases-loop-place
decreases-loop-place l = length l.self-inside.nodes.items - l.place
