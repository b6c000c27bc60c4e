use Rattle.std.proofs.Common.{arith}
use Rattle.inbox.proofs.Steps.{begins, opens}
use Rattle.inbox.proofs.inbox.open_for.Goals as goal

pub with_rule-requires : goal.with_rule-requires
with_rule-requires g c = begins

pub another-requires-clause-rule : goal.another-requires-clause-rule
another-requires-clause-rule g c = let same = c.requires in opens _ g.J.Place.place _ c.in_ok-queue.ensures.2 (omega arith)
