-- How registers and memories are printed, and what stands in shared memory. Own.
use Rattle.std.specs.Prelude.{ℕ, ◌+◌, ◌*◌, ◌/◌, ◌==◌, if◌then◌else◌, List, [], ◌++◌, length, slice_get, slice_range, flat_map, codes, decimal, Option, Some, None, unwrap_or}
use Rattle.std.specs.List.{enumerate_from, filter_map, list_all, range_with_len}
use Rattle.std.specs.Option.{option_map_or}
use Rattle.wt_params.specs.declared.parts.MachineParts.{MachineParts}
use Rattle.wt_params.specs.Machine.{block_address, home_of}
use Rattle.wt_text.specs.Text.{line_end, eight_digits, hex_of, hex_pairs_of}
use Rattle.target_cache.specs.declared.line.Line.{Line}
use Rattle.target_cache.specs.Cached.{line_of}
use Rattle.dir1sw.specs.Homes.{block_of}
use Rattle.node.specs.declared.state.NodeState.{NodeState}
use Rattle.node.specs.State.{register}

-- ---- bytes, in groups of 16

-- the group with a number
abbrev pub group_of : List ℕ → ℕ → List ℕ
group_of bytes number = slice_range bytes (16 * number) (16 * number + 16)

abbrev pub group_line_of : List ℕ → ℕ → List ℕ → List ℕ
group_line_of memory address group =
    memory ++ (codes " " ++ hex_of address) ++ codes " " ++ hex_pairs_of group ++ line_end

-- the line of a group at an address of a memory that is named; a group of zeros has none
abbrev pub group_text : List ℕ → ℕ → List ℕ → List ℕ
group_text memory address group =
    if list_all (λ byte. byte == 0) group then [] else group_line_of memory address group

-- the line of the group with a number, among bytes of which the first stands at an address
abbrev pub group_text_at : List ℕ → ℕ → List ℕ → ℕ → List ℕ
group_text_at memory address bytes number =
    group_text memory (address + 16 * number) (group_of bytes number)

-- the lines of all groups of bytes
abbrev pub groups_text : List ℕ → ℕ → List ℕ → List ℕ
groups_text memory address bytes =
    flat_map (group_text_at memory address bytes) (range_with_len 0 (length bytes / 16))

-- ---- a node's registers and private memory

abbrev pub register_text : NodeState → ℕ → List ℕ
register_text node r = codes " " ++ eight_digits (register node r)

unfoldable pub registers_text : NodeState → List ℕ
registers_text node = flat_map (register_text node) (range_with_len 0 32)

abbrev pub registers_line_of : ℕ → NodeState → List ℕ
registers_line_of place node = codes "regs " ++ decimal place ++ registers_text node ++ line_end

abbrev pub private_name : ℕ → List ℕ
private_name place = codes "mem " ++ decimal place

abbrev pub private_text : ℕ × NodeState → List ℕ
private_text (place, node) = groups_text (private_name place) 0 node.private

abbrev pub node_memory_text : ℕ × NodeState → List ℕ
node_memory_text (place, node) = registers_line_of place node ++ private_text (place, node)

-- ---- shared memory

abbrev pub bytes_to_write : Option Line → Option (List ℕ)
bytes_to_write None = None
bytes_to_write (Some line) = if line.writable then Some line.bytes else None

-- the writable copy of a block that a node holds
abbrev pub writable_copy : ℕ → NodeState → Option (List ℕ)
writable_copy block node = bytes_to_write (line_of node.cache block)

-- the writable copy at the least node that holds one
abbrev pub first_copy : ℕ → List NodeState → Option (List ℕ)
first_copy block nodes = slice_get (filter_map (writable_copy block) nodes) 0

-- what the home of a block keeps in memory
abbrev pub home_memory : MachineParts → List NodeState → ℕ → List ℕ
home_memory machine nodes block =
    option_map_or (λ (home : NodeState). (block_of home.directory block).memory) (slice_get nodes (home_of machine block)) []

-- the bytes of a block: those of that copy, else the home's memory
abbrev pub shared_bytes : MachineParts → List NodeState → ℕ → List ℕ
shared_bytes machine nodes block =
    unwrap_or (first_copy block nodes) (home_memory machine nodes block)

abbrev pub block_text : MachineParts → List NodeState → ℕ → List ℕ
block_text machine nodes block =
    groups_text (codes "shared") (block_address machine block) (shared_bytes machine nodes block)

abbrev pub shared_text : MachineParts → List NodeState → List ℕ
shared_text machine nodes = flat_map (block_text machine nodes) (range_with_len 0 machine.blocks)

-- registers and private memory of each node in order, and then shared memory
abbrev pub memory_text : MachineParts → List NodeState → List ℕ
memory_text machine nodes = flat_map node_memory_text (enumerate_from 0 nodes) ++ shared_text machine nodes
