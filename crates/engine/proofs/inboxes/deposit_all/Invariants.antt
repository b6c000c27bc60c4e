use Rattle.std.proofs.Common.{◌≡◌, length}
use Rattle.std.specs.List.{All}
use Rattle.engine.specs.Inboxes.{ArePassesOf, MayBePosted, posted}
use Rattle.engine.proofs.inboxes.deposit_all.Given as goal

-- what is left may be put in, and comes to the same as all from the start
abbrev pub invariant-loop-letter : goal.invariant-loop-letter
invariant-loop-letter g l = record {
  of : ArePassesOf l.inboxes l.passes;
  may : All (MayBePosted l.passes) l.outs;
  same : posted 0 l.outs l.passes ≡ posted 0 l.fn.outs l.fn.passes;
}

abbrev pub decreases-loop-letter : goal.decreases-loop-letter
decreases-loop-letter g l = length l.outs
