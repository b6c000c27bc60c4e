-- Lists of a few nodes. Own.
use Rattle.std.specs.Prelude.{⊤, ℕ, suc, ◌+◌, ◌<◌, ◌≤◌, ◌==◌, nat_lt, List, [], ◌∷◌, length, Option, Some, None, if◌then◌else◌}
use Rattle.std.specs.List.{remove}

-- the place of the first entry of a node, and the length where there is none
abbrev pub first_place : ℕ → List ℕ → ℕ
first_place node [] = 0
first_place node (first ∷ rest) = if node == first then 0 else suc (first_place node rest)

-- a list without its first entry of a node, None where it has none
abbrev pub taken_out : ℕ → List ℕ → Option (List ℕ)
taken_out node nodes =
    if nat_lt (first_place node nodes) (length nodes) then Some (remove nodes (first_place node nodes)) else None

-- a rising list with a node in its place, where it isn't in it yet
abbrev pub with_node : ℕ → List ℕ → List ℕ
with_node node [] = node ∷ []
with_node node (first ∷ rest) =
    if nat_lt node first then node ∷ (first ∷ rest)
    else if node == first then first ∷ rest
    else first ∷ with_node node rest

-- nodes of a machine of so many, in rising order, from a node on
abbrev pub AreRising : ℕ → ℕ → List ℕ → Type 0
AreRising nodes from [] = ⊤
AreRising nodes from (node ∷ rest) = (from ≤ node) × (node < nodes) × AreRising nodes (node + 1) rest

-- the nodes of a list in rising order, each once
abbrev pub in_order : List ℕ → List ℕ
in_order [] = []
in_order (first ∷ rest) = with_node first (in_order rest)
