-- Sets of nodes, as rising lists of numbers. Own.
use Rattle.std.specs.Prelude.{ℕ, ◌/◌, ◌%◌, ◌==◌, Bool, List, slice_index}
use Rattle.std.specs.Int.{bit_at}
use Rattle.std.specs.List.{filter, list_any, range_with_len}

-- the nodes of a machine of so many
abbrev pub nodes_below : ℕ → List ℕ
nodes_below count = range_with_len 0 count

-- a node's bit is set in words of 64 bits, the node's word by the quotient
abbrev pub has_bit : List ℕ → ℕ → Bool
has_bit words node = bit_at (slice_index words (node / 64)) (node % 64) == 1

-- of so many nodes from a number on, those whose bits are set
unfoldable pub members_from : ℕ → ℕ → List ℕ → List ℕ
members_from first count words = filter (has_bit words) (range_with_len first count)

abbrev pub has_node : List ℕ → ℕ → Bool
has_node nodes node = list_any (λ member. member == node) nodes
