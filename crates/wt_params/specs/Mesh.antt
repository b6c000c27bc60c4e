-- Where nodes stand, and how long messages are under way between them. Own.
use Rattle.std.specs.Prelude.{ℕ, ◌+◌, ◌*◌, ◌/◌, ◌%◌, ◌==◌, not, min, List, [], ◌∷◌, map, if◌then◌else◌}
use Rattle.std.specs.Int.{abs_diff}
use Rattle.std.specs.List.{filter, flat_map, range_with_len}
use Rattle.wt_params.specs.declared.parts.MachineParts.{MachineParts}

-- the column and the row that a node stands in, in a mesh of rows of so many nodes
abbrev pub column_of : MachineParts → ℕ → ℕ
column_of machine node = node % machine.width

abbrev pub row_of : MachineParts → ℕ → ℕ
row_of machine node = node / machine.width

-- the difference of two nodes' columns, and that of their rows
unfoldable pub distance_of : MachineParts → ℕ → ℕ → ℕ
distance_of machine from to =
    abs_diff (column_of machine from) (column_of machine to) + abs_diff (row_of machine from) (row_of machine to)

-- the time that a message takes from a node to a node
abbrev pub latency_of : MachineParts → ℕ → ℕ → ℕ
latency_of machine from to =
    if from == to then machine.self_latency else machine.latency + machine.hop * distance_of machine from to

-- the latencies from a node to each other one, and those of all pairs of different nodes
abbrev pub latencies_from : MachineParts → ℕ → List ℕ
latencies_from machine from =
    map (latency_of machine from) (filter (λ to. not (from == to)) (range_with_len 0 machine.nodes))

abbrev pub latencies_of : MachineParts → List ℕ
latencies_of machine = flat_map (latencies_from machine) (range_with_len 0 machine.nodes)

-- the least of a number and some others
abbrev pub least_of : ℕ → List ℕ → ℕ
least_of number [] = number
least_of number (other ∷ rest) = min number (least_of other rest)

-- the least of some numbers, or another one where there are none
abbrev pub least_or : ℕ → List ℕ → ℕ
least_or default [] = default
least_or default (number ∷ rest) = least_of number rest

-- The lookahead is the least latency over all pairs of different nodes, and `latency` where there is one node.
unfoldable pub lookahead_of : MachineParts → ℕ
lookahead_of machine = least_or machine.latency (latencies_of machine)
