use Rattle.std.proofs.Common.{◌≡◌, true, false, length, subst, rules, List}
use Rattle.std.proofs.lemmas.List.Sorted.{IsPartitionPoint-from_clause}
use Rattle.std.specs.List.{AllWithin}
use Rattle.wt_proto.specs.declared.message.Stamped.{Stamped}
use Rattle.event_queue.specs.Rising.{is_before}
use Rattle.event_queue.proofs.RisingLaws.{earlier_before}
use Rattle.event_queue.proofs.sorted.Sorted.place.Goals as goal

pub returns-clause-before : goal.returns-clause-before
returns-clause-before c =
    let parted = earlier_before c.args.key _ c.self.invariant in
    let point = IsPartitionPoint-from_clause (is_before c.args.key) _ _ c.partition_point.ensures.partitioned parted (λ a r q k. search rules) in
    subst (λ (ms : List Stamped). AllWithin (λ m. is_before c.args.key m ≡ true) ms 0 c.partition_point.result) c.self.view_is point.0

pub returns-clause-after : goal.returns-clause-after
returns-clause-after c =
    let parted = earlier_before c.args.key _ c.self.invariant in
    let point = IsPartitionPoint-from_clause (is_before c.args.key) _ _ c.partition_point.ensures.partitioned parted (λ a r q k. search rules) in
    subst (λ (ms : List Stamped). AllWithin (λ m. is_before c.args.key m ≡ false) ms c.partition_point.result (length ms)) c.self.view_is point.1
