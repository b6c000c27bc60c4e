use Rattle.std.proofs.Common.{◌≡◌, ◌≢◌, List, OnOk, sym, subst}
use Rattle.wt_proto.specs.declared.message.Stamped.{Stamped}
use Rattle.wt_proto.specs.Messages.{key_of}
use Rattle.event_queue.specs.Rising.{HasNoKey, insert_of}
use Rattle.event_queue.specs.Merging.{merged}
use Rattle.event_queue.proofs.MergeLaws.{All-from_merged, put_far, put_near}
use Rattle.event_queue.proofs.queue.Queue.put.Goals as goal

pub insert-requires-clause-new_key : goal.insert-requires-clause-new_key
insert-requires-clause-new_key c =
    (All-from_merged (λ m. key_of m ≢ key_of c.args.message) c.self.inside.ring.messages c.self.inside.far (subst (HasNoKey (key_of c.args.message)) (sym c.self.view_is) c.requires.new_key)).0

pub insert-requires-else-is_near : goal.insert-requires-else-is_near
insert-requires-else-is_near c =
    record { new_key = (All-from_merged (λ m. key_of m ≢ key_of c.args.message) c.self.inside.ring.messages c.self.inside.far (subst (HasNoKey (key_of c.args.message)) (sym c.self.view_is) c.requires.new_key)).1 }

pub invariant_of-self : goal.invariant_of-self
invariant_of-self c =
    (put_near c.insert.result c.args.message c.self.inside.ring.messages c.self.inside.far c.insert.new.self.messages c.self.invariant (subst (HasNoKey (key_of c.args.message)) (sym c.self.view_is) c.requires.new_key) c.insert.ensures.ok c.insert.ensures.err).parts

pub returns-then-is_near-clause-ok : goal.returns-then-is_near-clause-ok
returns-then-is_near-clause-ok c =
    subst (λ (queue : List Stamped). OnOk c.insert.result (merged c.insert.new.self.messages c.self.inside.far ≡ insert_of c.args.message queue)) c.self.view_is
    (put_near c.insert.result c.args.message c.self.inside.ring.messages c.self.inside.far c.insert.new.self.messages c.self.invariant (subst (HasNoKey (key_of c.args.message)) (sym c.self.view_is) c.requires.new_key) c.insert.ensures.ok c.insert.ensures.err).ok

pub returns-then-is_near-clause-rising : goal.returns-then-is_near-clause-rising
returns-then-is_near-clause-rising c = (invariant_of-self c).rising

pub invariant_of-self-else-is_near : goal.invariant_of-self-else-is_near
invariant_of-self-else-is_near c =
    (put_far c.insert-else-is_near.result c.args.message c.self.inside.ring.messages c.self.inside.far c.insert-else-is_near.new.self c.self.invariant (subst (HasNoKey (key_of c.args.message)) (sym c.self.view_is) c.requires.new_key) c.insert-else-is_near.ensures.ok c.insert-else-is_near.ensures.err).parts

pub returns-else-is_near-clause-ok : goal.returns-else-is_near-clause-ok
returns-else-is_near-clause-ok c =
    subst (λ (queue : List Stamped). OnOk c.insert-else-is_near.result (merged c.self.inside.ring.messages c.insert-else-is_near.new.self ≡ insert_of c.args.message queue)) c.self.view_is
    (put_far c.insert-else-is_near.result c.args.message c.self.inside.ring.messages c.self.inside.far c.insert-else-is_near.new.self c.self.invariant (subst (HasNoKey (key_of c.args.message)) (sym c.self.view_is) c.requires.new_key) c.insert-else-is_near.ensures.ok c.insert-else-is_near.ensures.err).ok

pub returns-else-is_near-clause-rising : goal.returns-else-is_near-clause-rising
returns-else-is_near-clause-rising c = (invariant_of-self-else-is_near c).rising
