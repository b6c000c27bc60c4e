use Rattle.std.proofs.Common.{◌≡◌, ◌≤◌, ◌+◌, ◌-◌, length, drop}
use Rattle.dir_list.specs.Lists.{first_place}
use Rattle.dir_list.proofs.few.place_of.Given as goal

-- the node isn't among those before
abbrev pub invariant-loop-place : goal.invariant-loop-place
invariant-loop-place l = record {
  within : l.place ≤ length l.nodes;
  so_far : first_place l.node l.nodes ≡ l.place + first_place l.node (drop l.place l.nodes);
}

abbrev pub decreases-loop-place : goal.decreases-loop-place
decreases-loop-place l = length l.nodes - l.place
