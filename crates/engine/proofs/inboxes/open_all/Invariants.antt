use Rattle.std.proofs.Common.{◌≡◌, length}
use Rattle.std.specs.List.{All}
use Rattle.engine.specs.Inboxes.{ArePassesOf, IsOpened}
use Rattle.engine.proofs.inboxes.open_all.Given as goal

-- there is an inbox with a whole pass for each node so far
abbrev pub invariant-loop-node : goal.invariant-loop-node
invariant-loop-node g l = record {
  of : ArePassesOf l.inboxes.items l.passes.items;
  count : length l.passes.items ≡ l._node;
  passes : All (IsOpened l.nodes) l.passes.items;
}
