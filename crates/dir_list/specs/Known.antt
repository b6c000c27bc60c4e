-- Who reads a block, as its home knows it. Own.
use Rattle.std.specs.Prelude.{⊤, ℕ, ◌+◌, ◌-◌, ◌<◌, ◌≤◌, ◌==◌, not, nat_lt, List, [], ◌∷◌, ◌++◌, length, All, Option, Some, None, if◌then◌else◌}
use Rattle.std.specs.List.{filter}
use Rattle.dir_list.specs.declared.readers.Readers.{Readers}
use Rattle.dir_list.specs.declared.readers.Readers.TheVariants.{Listed, Counted}
use Rattle.dir_list.specs.declared.readers.Removed.{Removed}
use Rattle.dir_list.specs.declared.readers.Removed.TheVariants.{Left, Empty, Absent}
use Rattle.dir_list.specs.Lists.{in_order, taken_out}

-- how many copies to read are known
abbrev pub count_of : Readers → ℕ
count_of (Listed nodes) = length nodes
count_of (Counted count) = count

-- there is a reader, and no more are listed than there are pointers
abbrev pub AreSome : ℕ → Readers → Type 0
AreSome pointers (Listed nodes) = (1 ≤ length nodes) × (length nodes ≤ pointers)
AreSome pointers (Counted count) = 1 ≤ count

-- those that are listed are nodes of a machine of so many
abbrev pub AreBelow : ℕ → Readers → Type 0
AreBelow nodes (Listed readers) = All (λ reader. reader < nodes) readers
AreBelow nodes (Counted count) = ⊤

-- the first reader is listed where there is a pointer
abbrev pub first_of : ℕ → ℕ → Readers
first_of node pointers = if pointers == 0 then Counted 1 else Listed (node ∷ [])

-- one more reader is listed where a pointer is left
abbrev pub add_of : ℕ → ℕ → Readers → Readers
add_of node pointers (Listed nodes) =
    if nat_lt (length nodes) pointers then Listed (nodes ++ node ∷ []) else Counted (length nodes + 1)
add_of node pointers (Counted count) = Counted (count + 1)

-- what is left of a list out of which a node was to be taken
abbrev pub left_of : Option (List ℕ) → Removed
left_of None = Absent
left_of (Some []) = Empty
left_of (Some (first ∷ rest)) = Left (Listed (first ∷ rest))

-- one reader less
abbrev pub remove_of : ℕ → Readers → Removed
remove_of node (Listed nodes) = left_of (taken_out node nodes)
remove_of node (Counted count) = if nat_lt 1 count then Left (Counted (count - 1)) else Empty

-- what is true of the readers that are left
abbrev pub IfLeft : Removed → (Readers → Type 0) → Type 0
IfLeft (Left readers) Holds = Holds readers
IfLeft _ Holds = ⊤

-- the listed readers but for a node, rising, each once; None where there is no list
abbrev pub others_of : ℕ → Readers → Option (List ℕ)
others_of node (Listed nodes) = Some (in_order (filter (λ listed. not (listed == node)) nodes))
others_of node (Counted count) = None
