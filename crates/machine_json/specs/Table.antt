-- The keys of a description. Own.
use Rattle.std.specs.Prelude.{ℕ, Bool, true, false, not, if◌then◌else◌, List, [], ◌∷◌, ◌++◌, ◌==◌, length, map, take, drop, find, codes, Option, option_and_then, unwrap_or}
use Rattle.std.specs.List.{filter, list_any}
use Rattle.std.specs.Str.{bytes_eq}
use Rattle.wt_params.specs.declared.parts.Field.{Field}
use Rattle.wt_params.specs.declared.parts.Field.TheVariants.{Nodes, PrivateBytes, BlockBytes, Blocks, Sets, Ways, Latency, SelfLatency, Hop, Width, Pointers, Quantum, EventLimit, Budget, Op, Taken, Mem, Hit, Cico, Call, Fill, Trap, TrapEach}
use Rattle.wt_params.specs.Fields.{fields, key_of}
use Rattle.serde_json.specs.Data.{Data, Members, no_members, member}
use Rattle.serde_json.specs.Find.{get, as_number, as_u64}
use Rattle.machine_json.specs.declared.keys.Table.{Table}
use Rattle.machine_json.specs.declared.keys.Table.TheVariants as tables

abbrev pub version_key : List ℕ
version_key = codes "version"

abbrev pub costs_key : List ℕ
costs_key = codes "costs"

abbrev pub images_key : List ℕ
images_key = codes "images"

-- the numbers that stand in the description itself, in their order, and then those that stand in its costs
abbrev pub own_fields : List Field
own_fields = take 14 fields

abbrev pub cost_fields : List Field
cost_fields = drop 14 fields

abbrev pub is_cost : Field → Bool
is_cost Nodes = false
is_cost PrivateBytes = false
is_cost BlockBytes = false
is_cost Blocks = false
is_cost Sets = false
is_cost Ways = false
is_cost Latency = false
is_cost SelfLatency = false
is_cost Hop = false
is_cost Width = false
is_cost Pointers = false
is_cost Quantum = false
is_cost EventLimit = false
is_cost Budget = false
is_cost Op = true
is_cost Taken = true
is_cost Mem = true
is_cost Hit = true
is_cost Cico = true
is_cost Call = true
is_cost Fill = true
is_cost Trap = true
is_cost TrapEach = true

-- a number that a description of version 1 can't give
abbrev pub is_of_version_2 : Field → Bool
is_of_version_2 Hop = true
is_of_version_2 Width = true
is_of_version_2 Pointers = true
is_of_version_2 _ = false

-- what stands before the name of a cost in its key
abbrev pub cost_prefix : List ℕ
cost_prefix = codes "costs."

-- the name of a number in the object where it stands
abbrev pub name_of : Field → List ℕ
name_of field = if is_cost field then drop (length cost_prefix) (key_of field) else key_of field

-- the table of each object, in the order in which its keys are tested
abbrev pub names_in : Table → List (List ℕ)
names_in tables.Version1 =
    version_key ∷ map key_of (filter (λ field. not (is_of_version_2 field)) own_fields) ++ costs_key ∷ images_key ∷ []
names_in tables.Version2 = version_key ∷ map key_of own_fields ++ costs_key ∷ images_key ∷ []
names_in tables.Costs = map name_of cost_fields
names_in tables.Image = codes "hex" ∷ codes "file" ∷ codes "format" ∷ codes "at" ∷ []

abbrev pub is_in : Table → List ℕ → Bool
is_in table name = list_any (bytes_eq name) (names_in table)

-- the names of members, which stand in the order of their bytes
abbrev pub names_of : Members → List (List ℕ)
names_of no_members = []
names_of (member name value members) = name ∷ names_of members

-- the least name, in the order of bytes, that isn't in the table
abbrev pub unknown_in : Table → Members → Option (List ℕ)
unknown_in table members = find (λ name. not (is_in table name)) (names_of members)

-- what stands at a number's key
abbrev pub value_of : Data → Field → Option Data
value_of description field =
    if is_cost field then option_and_then (get (name_of field)) (get costs_key description)
    else get (name_of field) description

-- an unsigned whole number of at most 64 bits
abbrev pub whole_number : Data → Option ℕ
whole_number value = option_and_then as_u64 (as_number value)

-- the version that a description says it has; one that can't be read is refused, and counts as 1 before
abbrev pub version_of : Data → ℕ
version_of description = unwrap_or (option_and_then whole_number (get version_key description)) 1

-- the table of a description, by its version
unfoldable pub table_of : Data → Table
table_of description = if version_of description == 2 then tables.Version2 else tables.Version1
