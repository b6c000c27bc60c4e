-- The numbers of a description, and what refuses them. Ranges are those of a machine. Own.
use Rattle.std.specs.Prelude.{◌≡◌, ℕ, ◌-◌, ◌^◌, ◌==◌, nat_le, min, Bool, true, false, ◌⊎◌, if◌then◌else◌, List, [], ◌∷◌, ◌++◌, Option, Some, None, is_some, unwrap_or, option_map, option_and_then}
use Rattle.std.specs.Option.{option_or}
use Rattle.wt_params.specs.declared.parts.Field.{Field}
use Rattle.wt_params.specs.declared.parts.Field.TheVariants.{Nodes, PrivateBytes, BlockBytes, Blocks, Sets, Ways, Latency, SelfLatency, Hop, Width, Pointers, Quantum, EventLimit, Budget, Op, Taken, Mem, Hit, Cico, Call, Fill, Trap, TrapEach}
use Rattle.wt_params.specs.declared.parts.CostParts.{CostParts}
use Rattle.wt_params.specs.declared.parts.MachineParts.{MachineParts}
use Rattle.wt_params.specs.Mesh.{lookahead_of}
use Rattle.wt_params.specs.Fields.{is_within, number_of, is_in_range, fault_among, fault_of, key_of}
use Rattle.serde_json.specs.Data.{Data, Members}
use Rattle.serde_json.specs.Find.{get, as_object}
use Rattle.machine_json.specs.declared.keys.Table.TheVariants as tables
use Rattle.machine_json.specs.declared.fault.MachineFault.{MachineFault}
use Rattle.machine_json.specs.declared.fault.MachineFault.TheVariants.{Unknown, Missing, Kind, Range}
use Rattle.machine_json.specs.Table.{version_key, costs_key, cost_prefix, unknown_in, value_of, version_of, whole_number}

-- a number that has to be there, or has a default
abbrev pub is_required : Field → Bool
is_required Nodes = true
is_required _ = false

-- the number at a field, or its default where none is there
abbrev pub number_or : Data → Field → ℕ → ℕ
number_or description field default = unwrap_or (option_and_then whole_number (value_of description field)) default

-- a latency where none is given, and with it a quantum
abbrev pub default_latency : ℕ
default_latency = 100

-- the machine of so many nodes whose every other number has its default
abbrev pub default_parts_of : ℕ → MachineParts
default_parts_of nodes = record {
  nodes = nodes;
  private_bytes = 1048576;
  block_bytes = 32;
  blocks = 1024;
  sets = 64;
  ways = 4;
  latency = default_latency;
  self_latency = 10;
  hop = 0;
  width = nodes;
  pointers = 0;
  quantum = default_latency;
  event_limit = 4294967296;
  budget = 4294967296;
  costs = record { op = 1; taken = 2; mem = 1; hit = 1; cico = 1; call = 1; fill = 4; trap = 250; trap_each = 5 };
}

-- the costs of a description, and others in the places of those that aren't there
abbrev pub costs_or : Data → CostParts → CostParts
costs_or description default = record {
  op = number_or description Op default.op;
  taken = number_or description Taken default.taken;
  mem = number_or description Mem default.mem;
  hit = number_or description Hit default.hit;
  cico = number_or description Cico default.cico;
  call = number_or description Call default.call;
  fill = number_or description Fill default.fill;
  trap = number_or description Trap default.trap;
  trap_each = number_or description TrapEach default.trap_each;
}

-- the longest quantum of a machine, as far as 64 bits go
abbrev pub longest_quantum : MachineParts → ℕ
longest_quantum machine = min (lookahead_of machine) (2 ^ 64 - 1)

-- The numbers of a description, and others in the places of those that aren't there. All nodes stand in one row, and a
-- quantum is as long as the lookahead, unless they are given.
abbrev pub numbers_or : Data → MachineParts → MachineParts
numbers_or description default = with_quantum description (record {
  nodes = number_or description Nodes default.nodes;
  private_bytes = number_or description PrivateBytes default.private_bytes;
  block_bytes = number_or description BlockBytes default.block_bytes;
  blocks = number_or description Blocks default.blocks;
  sets = number_or description Sets default.sets;
  ways = number_or description Ways default.ways;
  latency = number_or description Latency default.latency;
  self_latency = number_or description SelfLatency default.self_latency;
  hop = number_or description Hop default.hop;
  width = number_or description Width (number_or description Nodes default.nodes);
  pointers = number_or description Pointers default.pointers;
  quantum = default.quantum;
  event_limit = number_or description EventLimit default.event_limit;
  budget = number_or description Budget default.budget;
  costs = costs_or description default.costs;
})
  where
    with_quantum : Data → MachineParts → MachineParts
    with_quantum description machine =
        record machine { quantum = number_or description Quantum (longest_quantum machine) }

-- The numbers of a description, with the defaults of those that aren't there. Nodes have no default: without them the
-- description is refused.
unfoldable pub parts_of : Data → MachineParts
parts_of description = numbers_or description (default_parts_of 0)

-- what stands at a key isn't there though it has to, or is no whole number
abbrev pub kind_fault : Bool → List ℕ → Option Data → Option MachineFault
kind_fault required key None = if required then Some (Missing key) else None
kind_fault required key (Some value) = if is_some (whole_number value) then None else Some (Kind key)

abbrev pub number_fault : Data → Field → Option MachineFault
number_fault description field = kind_fault (is_required field) (key_of field) (value_of description field)

abbrev pub range_fault : MachineParts → Field → Option MachineFault
range_fault parts field =
    if is_in_range parts field then None else Some (Range (key_of field) (number_of parts field))

-- the first fault of some fields, each tested whole before the next one
abbrev pub fields_fault : Data → MachineParts → List Field → Option MachineFault
fields_fault description parts [] = None
fields_fault description parts (field ∷ rest) =
    option_or (number_fault description field)
    (option_or (range_fault parts field) (fields_fault description parts rest))

-- the machine's first number outside its range is among some fields, or all of theirs are in their ranges
abbrev pub IsFirstAmong : MachineParts → List Field → Type 0
IsFirstAmong parts fields = (fault_among parts fields ≡ None) ⊎ (fault_among parts fields ≡ fault_of parts)

-- the version is there and is 1 or 2
abbrev pub is_version : Option ℕ → Option MachineFault
is_version None = None
is_version (Some version) = if is_within 1 2 version then None else Some (Range version_key version)

unfoldable pub version_fault : Data → Option MachineFault
version_fault description =
    option_or (kind_fault true version_key (get version_key description))
    (is_version (option_and_then whole_number (get version_key description)))

-- a machine of version 1 has at most 32 nodes
abbrev pub few_nodes : Bool → ℕ → Option MachineFault
few_nodes true nodes = None
few_nodes false nodes = if nat_le nodes 32 then None else Some (Range (key_of Nodes) nodes)

unfoldable pub few_nodes_fault : Data → Option MachineFault
few_nodes_fault description = few_nodes (version_of description == 2) (number_or description Nodes 0)

-- the costs are an object of nothing but costs
abbrev pub members_fault : Option Members → Option MachineFault
members_fault None = Some (Kind costs_key)
members_fault (Some members) = option_map (λ name. Unknown (cost_prefix ++ name)) (unknown_in tables.Costs members)

abbrev pub costs_at : Option Data → Option MachineFault
costs_at None = None
costs_at (Some costs) = members_fault (as_object costs)

unfoldable pub costs_fault : Data → Option MachineFault
costs_fault description = costs_at (get costs_key description)
