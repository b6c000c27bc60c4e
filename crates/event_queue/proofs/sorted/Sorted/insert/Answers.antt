use Rattle.std.proofs.Common.{sym, ◌∙◌, subst}
use Rattle.event_queue.specs.Rising.{IsRising}
use Rattle.event_queue.proofs.RisingLaws.{inserted, IsRising-insert_of}
use Rattle.event_queue.proofs.sorted.Sorted.insert.Goals.{in-Ok, in-Err}
use Rattle.event_queue.proofs.sorted.Sorted.insert.Goals as goal

pub invariant_of-self : goal.invariant_of-self
invariant_of-self c =
    let rising : IsRising c.args.self.now = subst IsRising c.self.view_is c.self.invariant in
    let place = c.place-place.ensures in
    let put = inserted c.args.message _ _ _ _ _ c.self.view_is c.key.ensures (record { bound = place.bound; before = place.before; after = place.after }) in
    elim c.match-insert.branch [
      | in-Ok w ↦ subst IsRising (sym (put w.in-Ok.ensures.items)) (IsRising-insert_of _ _ c.requires.new_key rising)
      | in-Err w ↦ subst IsRising (sym (w.in-Err.ensures.unchanged.0 ∙ c.self.view_is)) rising
    ]

pub returns-clause-ok : goal.returns-clause-ok
returns-clause-ok c =
    let place = c.place-place.ensures in
    let put = inserted c.args.message _ _ _ _ _ c.self.view_is c.key.ensures (record { bound = place.bound; before = place.before; after = place.after }) in
    elim c.match-insert.branch [
      | in-Ok w ↦ rw w.result-is (put w.in-Ok.ensures.items)
      | in-Err w ↦ rw w.result-is tt
    ]

pub returns-clause-rising : goal.returns-clause-rising
returns-clause-rising c = invariant_of-self c
