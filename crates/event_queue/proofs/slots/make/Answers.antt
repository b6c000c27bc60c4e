use Rattle.std.proofs.Common.{sym, arith}
use Rattle.std.proofs.lemmas.Bool.Decides.{nat_tests}
use Rattle.event_queue.proofs.CycleLaws.{padded_all}
use Rattle.event_queue.proofs.slots.make.Goals as goal

pub returns-else-is_empty-clause-ok : goal.returns-else-is_empty-clause-ok
returns-else-is_empty-clause-ok c = sym (padded_all c.args.rows.now.items (grind (arith, nat_tests)))
