use Rattle.std.proofs.Common.{List, length, sym, ap, subst, ◌∙◌, arith}
use Rattle.wt_proto.specs.declared.message.Stamped.{Stamped}
use Rattle.wt_proto.specs.Messages.{key_of}
use Rattle.event_queue.specs.Rising.{HasNoKey}
use Rattle.event_queue.specs.Cycles.{AreMarked, mark_of, padded}
use Rattle.event_queue.proofs.CycleLaws.{length-padded, made_rows, marked-padded, marked-set, mark_of-insert_of, row_is, row_kept, row_with}
use Rattle.event_queue.proofs.slots.Slots.put.Goals as goal

pub index_mut-row-requires : goal.index_mut-row-requires
index_mut-row-requires c =
    omega (arith, ap length c.in-Ok.ensures.ok, length-padded c.self.inside.rows.items c.self.invariant.made, c.make.new.rows.ok.0)

pub insert-requires : goal.insert-requires
insert-requires c =
    let made = made_rows c.self.inside.rows.items c.make.new.rows.items c.args.self.now c.args.place c.self.view_is c.in-Ok.ensures.ok c.self.invariant.made c.requires.within in
    record { new_key = subst (HasNoKey (key_of c.args.message)) (sym (row_is c.make.new.rows.items c.args.self.now c.args.place c.index_mut-row.result.now made.0 made.1 c.index_mut-row.ensures.value)) c.requires.new_key }

pub invariant_of-self-in-Ok-insert : goal.invariant_of-self-in-Ok-insert
invariant_of-self-in-Ok-insert c =
    let made = made_rows c.self.inside.rows.items c.make.new.rows.items c.args.self.now c.args.place c.self.view_is c.in-Ok.ensures.ok c.self.invariant.made c.requires.within in
    let are = subst (λ (rows : List (List Stamped)). AreMarked rows c.self.inside.occupied) (sym c.in-Ok.ensures.ok) (marked-padded c.self.inside.rows.items c.self.inside.occupied c.self.invariant) in
    marked-set c.make.new.rows.items c.self.inside.occupied c.set.new.self c.args.place c.insert.new.self are made.1
    (c.set.ensures.this ∙ sym (ap mark_of c.in-Ok-insert.ensures.ok ∙ mark_of-insert_of c.args.message c.index_mut-row.result.now)) c.set.ensures.others

pub invariant_of-self-in-Err-insert : goal.invariant_of-self-in-Err-insert
invariant_of-self-in-Err-insert c =
    let are = subst (λ (rows : List (List Stamped)). AreMarked rows c.self.inside.occupied) (sym c.in-Ok.ensures.ok) (marked-padded c.self.inside.rows.items c.self.inside.occupied c.self.invariant) in
    subst (λ (rows : List (List Stamped)). AreMarked rows c.self.inside.occupied) (sym (row_kept c.make.new.rows.items c.args.place c.index_mut-row.result.now c.insert.new.self c.index_mut-row.ensures.value c.in-Err-insert.ensures.err)) are

pub returns-in-Ok-insert-clause-ok : goal.returns-in-Ok-insert-clause-ok
returns-in-Ok-insert-clause-ok c =
    let made = made_rows c.self.inside.rows.items c.make.new.rows.items c.args.self.now c.args.place c.self.view_is c.in-Ok.ensures.ok c.self.invariant.made c.requires.within in
    row_with c.make.new.rows.items c.args.self.now c.args.place c.args.message c.index_mut-row.result.now c.insert.new.self made.0 made.1 c.index_mut-row.ensures.value c.in-Ok-insert.ensures.ok

pub returns-in-Err-insert-clause-err : goal.returns-in-Err-insert-clause-err
returns-in-Err-insert-clause-err c =
    let made = made_rows c.self.inside.rows.items c.make.new.rows.items c.args.self.now c.args.place c.self.view_is c.in-Ok.ensures.ok c.self.invariant.made c.requires.within in
    ap padded (row_kept c.make.new.rows.items c.args.place c.index_mut-row.result.now c.insert.new.self c.index_mut-row.ensures.value c.in-Err-insert.ensures.err) ∙ made.0
