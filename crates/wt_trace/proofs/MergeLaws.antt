-- The merge of logs: what a stable sort gives.
use Rattle.std.proofs.Common.{◌≡◌, Bool, cond, List, [], ◌∷◌, map, refl, ap, ◌∙◌, sym}
use Rattle.std.specs.Borrow.{Bor}
use Rattle.std.specs.Ordering.{is_lt}
use Rattle.std.specs.List.Sorted.{IsSortedByKey, IsStableByKey}
use Rattle.std.specs.Cmp.{IsStrictWeakOrder}
use Rattle.std.proofs.lemmas.List.MinMax.{ranks_by}
use Rattle.wt_proto.specs.KeyOrder.{key_cmp}
use Rattle.wt_proto.proofs.KeyLaws.{key_cmp_total}
use Rattle.wt_trace.specs.declared.record.Record.{Record}
use Rattle.wt_trace.specs.Merged.{with_record, by_key, records_of, merge_of}
use Rattle.wt_trace.proofs.StableSorts.{placed, in_order, is_in_order, map-in_order}

abbrev pub earlier : Record → Record → Bool
earlier a b = is_lt (key_cmp a.key b.key)

pub earlier_order : IsStrictWeakOrder earlier
earlier_order = ranks_by key_cmp_total (λ (item : Record). item.key)

with_record-placed : (item : Record) (items : List Record) → with_record item items ≡ placed earlier item items
with_record-placed item [] = refl
with_record-placed item (first ∷ rest) =
    ap (λ items. cond (earlier first item) (first ∷ items) (item ∷ (first ∷ rest))) (with_record-placed item rest)

pub by_key-in_order : (items : List Record) → by_key items ≡ in_order earlier items
by_key-in_order [] = refl
by_key-in_order (item ∷ items) =
    with_record-placed item (by_key items) ∙ ap (placed earlier item) (by_key-in_order items)

-- references to records, sorted by their keys
pub sorted_references : (logs : List (List Record)) (items sorted : List (Bor Record)) → map (λ item. item.now) items ≡ records_of logs → IsSortedByKey (λ (item : Bor Record). item.now.key) key_cmp sorted → IsStableByKey (λ (item : Bor Record). item.now.key) key_cmp items sorted → map (λ item. item.now) sorted ≡ merge_of logs
unfolding merge_of
sorted_references logs items sorted all up stable =
    ap (map (λ (item : Bor Record). item.now)) (is_in_order (λ (a b : Bor Record). earlier a.now b.now) (ranks_by key_cmp_total (λ (item : Bor Record). item.now.key)) items sorted up stable)
    ∙ map-in_order earlier (λ (item : Bor Record). item.now) items
    ∙ ap (in_order earlier) all
    ∙ sym (by_key-in_order (records_of logs))
