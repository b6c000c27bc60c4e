use Rattle.std.proofs.Common.{sym, ◌∙◌, arith}
use Rattle.image_loader.proofs.Outside.{outside_of-none, outside_of-some}
use Rattle.image_loader.proofs.loader.first_outside.Goals as goal

pub returns-else-past-clause-value : goal.returns-else-past-clause-value
returns-else-past-clause-value c =
    sym (outside_of-none c.args.machine.now c.args.segment.now c.in-Some.end (sym c.memory_end.ensures.value ∙ c.in-Some.is) (omega arith))

pub returns-then-past-clause-value : goal.returns-then-past-clause-value
returns-then-past-clause-value c =
    sym (outside_of-some c.args.machine.now c.memory_end.ensures.machine c.args.segment.now c.in-Some.end (sym c.memory_end.ensures.value ∙ c.in-Some.is) (omega arith))
