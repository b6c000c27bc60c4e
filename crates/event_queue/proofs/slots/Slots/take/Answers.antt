use Rattle.std.proofs.Common.{◌<◌, length, refl, arith}
use Rattle.std.proofs.lemmas.Bool.Decides.{nat_tests}
use Rattle.event_queue.proofs.CycleLaws.{no_peek, row_taken}
use Rattle.event_queue.proofs.slots.Slots.take.Goals as goal

pub returns-then-is_empty-clause-value : goal.returns-then-is_empty-clause-value
returns-then-is_empty-clause-value c =
    (no_peek c.self.inside.rows.items c.args.self.now c.args.place c.self.view_is (grind (arith, nat_tests)), refl)

pub returns-then-is_empty-2-clause-rows : goal.returns-then-is_empty-2-clause-rows
returns-then-is_empty-2-clause-rows c =
    let within : c.args.place < length c.self.inside.rows.items = grind (arith, nat_tests) in
    (row_taken c.pop-first.result c.self.inside.rows.items c.args.self.now c.args.place _ _ c.self.view_is within c.index_mut-row.ensures.value c.pop-first.ensures.value).rows

pub returns-then-is_empty-2-clause-value : goal.returns-then-is_empty-2-clause-value
returns-then-is_empty-2-clause-value c =
    let within : c.args.place < length c.self.inside.rows.items = grind (arith, nat_tests) in
    (row_taken c.pop-first.result c.self.inside.rows.items c.args.self.now c.args.place _ _ c.self.view_is within c.index_mut-row.ensures.value c.pop-first.ensures.value).value

pub returns-else-is_empty-2-clause-rows : goal.returns-else-is_empty-2-clause-rows
returns-else-is_empty-2-clause-rows c =
    let within : c.args.place < length c.self.inside.rows.items = grind (arith, nat_tests) in
    (row_taken c.pop-first.result c.self.inside.rows.items c.args.self.now c.args.place _ _ c.self.view_is within c.index_mut-row.ensures.value c.pop-first.ensures.value).rows

pub returns-else-is_empty-2-clause-value : goal.returns-else-is_empty-2-clause-value
returns-else-is_empty-2-clause-value c =
    let within : c.args.place < length c.self.inside.rows.items = grind (arith, nat_tests) in
    (row_taken c.pop-first.result c.self.inside.rows.items c.args.self.now c.args.place _ _ c.self.view_is within c.index_mut-row.ensures.value c.pop-first.ensures.value).value
