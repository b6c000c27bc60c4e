use Rattle.std.proofs.Common.{◌≡◌, ◌+◌, ◌-◌, ◌<◌, ◌≤◌, [], OnOk, subst, sym}
use Rattle.std.specs.Prelude.{slice_index_or, slice_set}
use Rattle.wt_proto.specs.declared.message.Stamped.{Stamped}
use Rattle.wt_proto.specs.Messages.{key_of}
use Rattle.event_queue.specs.Rising.{HasNoKey, insert_of}
use Rattle.event_queue.specs.Cycles.{RingModel, joined}
use Rattle.event_queue.proofs.CycleLaws.{IsPutIn, new_in_row, put_in_seen}
use Rattle.event_queue.proofs.ring.Ring.insert.Goals as goal

pub put-requires-clause-new_key : goal.put-requires-clause-new_key
put-requires-clause-new_key c =
    new_in_row (key_of c.args.message) c.self.inside.base (c.message.result.now.time - c.base_for-base.result) c.self.inside.slots c.args.self.now c.self.view_is c.requires.new_key

-- the message's time is read in its place
the_put : (c : goal.After-put) → IsPutIn c.put.result c.args.message c.base_for-base.result c.self.inside.slots c.put.new.self
the_put c =
    let base = c.base_for-base.result in
    let rows = c.self.inside.slots in
    let low = subst (λ (m : Stamped). base ≤ m.time) c.message.ensures c.base_for-base.ensures.low in
    let high = subst (λ (m : Stamped). m.time < base + 256) c.message.ensures c.base_for-base.ensures.high in
    let ok = subst (λ (m : Stamped). OnOk c.put.result (c.put.new.self ≡ slice_set rows (m.time - base) (insert_of c.args.message (slice_index_or rows (m.time - base) [])))) c.message.ensures c.put.ensures.ok in
    put_in_seen c.put.result c.args.message c.self.inside.base base rows c.put.new.self c.args.self.now c.self.view_is c.self.invariant low high c.base_for-base.ensures.kept c.requires.new_key ok c.put.ensures.err

pub invariant_of-self : goal.invariant_of-self
invariant_of-self c = (the_put c).ring

pub returns-clause-ok : goal.returns-clause-ok
returns-clause-ok c =
    subst (λ (ring : RingModel). OnOk c.put.result (joined c.put.new.self ≡ insert_of c.args.message ring.messages)) c.self.view_is (the_put c).ok

pub returns-clause-rising : goal.returns-clause-rising
returns-clause-rising c = (invariant_of-self c).rising
