-- The records of many logs as one list. Own.
use Rattle.std.specs.Prelude.{◌≡◌, ℕ, ◌<◌, ◌==◌, List, [], ◌∷◌, All, map, flat_map, if◌then◌else◌}
use Rattle.std.specs.List.{filter}
use Rattle.std.specs.List.Sorted.{IsPermutation, IsStrictlySortedBy}
use Rattle.std.specs.Ordering.{is_lt}
use Rattle.wt_proto.specs.KeyOrder.{key_cmp}
use Rattle.wt_proto.specs.NodeSets.{nodes_below}
use Rattle.wt_trace.specs.declared.record.Record.{Record}

-- a record put into a list that rises by keys, before those of its own key
abbrev pub with_record : Record → List Record → List Record
with_record item [] = item ∷ []
with_record item (first ∷ rest) =
    if is_lt (key_cmp first.key item.key) then first ∷ with_record item rest
    else item ∷ (first ∷ rest)

-- records in rising order of keys, those of equal key in the order in which they stand
abbrev pub by_key : List Record → List Record
by_key [] = []
by_key (item ∷ rest) = with_record item (by_key rest)

-- the records of logs, one log after another
abbrev pub records_of : List (List Record) → List Record
records_of logs = flat_map (λ log. log) logs

-- all records of the logs in rising order of keys, those of equal key in the order of the logs
unfoldable pub merge_of : List (List Record) → List Record
merge_of logs = by_key (records_of logs)

-- Each key is below those after it.
abbrev pub KeysRise : List Record → Type 0
KeysRise items = IsStrictlySortedBy key_cmp (map (λ (item : Record). item.key) items)

-- what one node did, of all that was done
abbrev pub log_of : ℕ → List Record → List Record
log_of node items = filter (λ item. item.key.to == node) items

-- A merge has the logs' records and no others. Where a list has these records and its keys rise, it is the merge. So the
-- events of any number of nodes, in rising order of keys, come back from the nodes' logs.
pub record IsMerge : Type 0 where
  pub «all» : (logs : List (List Record)) → IsPermutation (records_of logs) (merge_of logs)
  pub one : (logs : List (List Record)) (items : List Record) → IsPermutation (records_of logs) items → KeysRise items → items ≡ merge_of logs
  pub events : (nodes : ℕ) (items : List Record) → KeysRise items → All (λ item. item.key.to < nodes) items → merge_of (map (λ node. log_of node items) (nodes_below nodes)) ≡ items
