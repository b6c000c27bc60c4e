use Rattle.std.proofs.Common.{◌≡◌, ◌≤◌, ◌+◌, ◌==◌, not, length, drop}
use Rattle.std.specs.List.{filter}
use Rattle.dir_list.specs.Lists.{in_order}
use Rattle.dir_list.proofs.readers.in_order_but.Given as goal

-- those from here on are in order
abbrev pub invariant-loop-left : goal.invariant-loop-left
invariant-loop-left l = record {
  within : l.left ≤ length l.nodes;
  few : length l.few + l.left ≤ length l.nodes;
  so_far : l.few ≡ in_order (filter (λ listed. not (listed == l.fn.node)) (drop l.left l.nodes));
}

abbrev pub decreases-loop-left : goal.decreases-loop-left
decreases-loop-left l = l.left
