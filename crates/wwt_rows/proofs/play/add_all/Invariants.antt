use Rattle.wt_outside.specs.MemFiles.{AreNamedApart}
use Rattle.wwt_rows.proofs.play.add_all.Given as goal

-- no name stands twice so far
abbrev pub invariant-loop-name : goal.invariant-loop-name
invariant-loop-name l =
    (goal.iterator-loop-name).can_next l.name-iterator
    × (goal.iterator-loop-name).is_finite l.name-iterator
    × AreNamedApart l.files.items
