-- A machine: its numbers, each in its range. Own.
use Rattle.std.specs.Prelude.{◌≡◌, ℕ, ◌+◌, ◌-◌, ◌*◌, ◌/◌, ◌%◌, ◌^◌, ◌≤◌, ◌⊎◌, nat_le, nat_lt, ◌&&◌, if◌then◌else◌, Option, Some, None}
use Rattle.wt_params.specs.declared.parts.CostParts.{CostParts}
use Rattle.wt_params.specs.declared.parts.MachineParts.{MachineParts}
use Rattle.wt_params.specs.Mesh.{lookahead_of}

-- from the least to the greatest, both among them
pub record InRange (least greatest value : ℕ) : Type 0 where
  pub at_least : least ≤ value
  pub at_most : value ≤ greatest

-- whole pages of 4096 bytes, at most 4 MiB
pub record IsPrivateSize (bytes : ℕ) : Type 0 where
  pub range : InRange 4096 4194304 bytes
  pub pages : bytes % 4096 ≡ 0

abbrev pub IsBlockSize : ℕ → Type 0
IsBlockSize bytes = (bytes ≡ 16) ⊎ ((bytes ≡ 32) ⊎ ((bytes ≡ 64) ⊎ (bytes ≡ 128)))

pub record AreCosts (costs : CostParts) : Type 0 where
  pub op : InRange 1 4096 costs.op
  pub taken : InRange 1 4096 costs.taken
  pub mem : InRange 1 4096 costs.mem
  pub hit : InRange 1 4096 costs.hit
  pub cico : InRange 1 4096 costs.cico
  pub call : InRange 1 4096 costs.call
  pub fill : InRange 0 4096 costs.fill
  pub trap : InRange 0 4096 costs.trap
  pub trap_each : InRange 0 4096 costs.trap_each

pub record IsMachine (machine : MachineParts) : Type 0 where
  pub nodes : InRange 1 256 machine.nodes
  pub private_bytes : IsPrivateSize machine.private_bytes
  pub block_bytes : IsBlockSize machine.block_bytes
  pub blocks : InRange 0 65536 machine.blocks
  pub sets : InRange 1 1024 machine.sets
  pub ways : InRange 1 8 machine.ways
  pub lines : machine.sets * machine.ways ≤ 4096
  pub latency : InRange 1 10000 machine.latency
  pub self_latency : InRange 1 10000 machine.self_latency
  pub hop : InRange 0 100 machine.hop
  pub width : InRange 1 256 machine.width
  pub pointers : InRange 0 4 machine.pointers
  pub quantum : InRange 1 (lookahead_of machine) machine.quantum
  pub event_limit : InRange 1 (2 ^ 40) machine.event_limit
  pub budget : InRange 1 (2 ^ 40) machine.budget
  pub costs : AreCosts machine.costs

-- the node that keeps a block
abbrev pub home_of : MachineParts → ℕ → ℕ
home_of machine block = block % machine.nodes

-- where shared memory begins
abbrev pub shared_base : ℕ
shared_base = 0x8000_0000

-- the address of a block's first byte
abbrev pub block_address : MachineParts → ℕ → ℕ
block_address machine block = shared_base + block * machine.block_bytes

-- the block that an address lies in, where it lies in shared memory
abbrev pub shared_block : MachineParts → ℕ → Option ℕ
shared_block machine address =
    if nat_le shared_base address && nat_lt address (block_address machine machine.blocks)
    then Some ((address - shared_base) / machine.block_bytes)
    else None

-- the machine that runs flat bytes
abbrev pub flat_machine : MachineParts
flat_machine = record {
  nodes = 1;
  private_bytes = 1048576;
  block_bytes = 16;
  blocks = 0;
  sets = 1;
  ways = 1;
  latency = 1;
  self_latency = 1;
  hop = 0;
  width = 1;
  pointers = 0;
  quantum = 1;
  event_limit = 4294967296;
  budget = 1000000;
  costs = record { op = 1; taken = 1; mem = 1; hit = 1; cico = 1; call = 1; fill = 1; trap = 1; trap_each = 1 };
}
