use Rattle.std.proofs.Common.{◌+◌, ◌*◌, get_or, refl, subst, arith, rules, w64}
use Rattle.std.specs.Int.{trailing_zeros}
use Rattle.event_queue.specs.Marks.{IsFirstMark}
use Rattle.event_queue.proofs.MarkLaws.{first_mark}
use Rattle.event_queue.proofs.occupied.Occupied.first.Goals as goal

pub returns-then-word-ne0 : goal.returns-then-word-ne0
returns-then-word-ne0 c =
    let words = c.self.inside.words in
    let i = c.loop-i.i in
    subst (IsFirstMark (64 * i + trailing_zeros w64 (get_or words i 0))) c.self.view_is
    (first_mark words i (get_or words i 0) c.loop-i-test.true refl (omega arith) (search rules) c.loop-i.invariant)
