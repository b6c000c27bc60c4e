use Rattle.std.proofs.Common.{◌≡◌, length}
use Rattle.engine.specs.Inboxes.{AreLent, ArePassesOf, all_united}
use Rattle.engine.proofs.inboxes.unite_all.Given as goal

-- what is left to be put together comes to the same as all from the start
abbrev pub invariant-loop-upper : goal.invariant-loop-upper
invariant-loop-upper g l = record {
  of : ArePassesOf l.inboxes l.passes;
  lent : AreLent l.passes l.uppers.items;
  same : all_united l.passes l.uppers.items ≡ all_united l.fn.passes l.fn.uppers.items;
}

abbrev pub decreases-loop-upper : goal.decreases-loop-upper
decreases-loop-upper g l = length l.uppers.items
