-- The directory of a node as a whole: what it keeps of each block whose home the node is. Own.
use Rattle.std.specs.Prelude.{◌≡◌, ℕ, ◌+◌, ◌-◌, ◌/◌, ◌<◌, Bool, true, false, List, [], length, All, replicate, slice_index_or, slice_set}
use Rattle.wt_params.specs.declared.parts.MachineParts.{MachineParts}
use Rattle.wt_params.specs.Machine.{home_of}
use Rattle.wt_proto.specs.declared.directory.DirState.TheVariants.{Idle}
use Rattle.wt_proto.specs.declared.message.Msg.{Msg}
use Rattle.dir1sw.specs.declared.home.HomeBlock.{HomeBlock}
use Rattle.dir1sw.specs.declared.home.Place.{Place}
use Rattle.dir1sw.specs.Table.{Row, IsSound, arrive_of}

-- what a node keeps of its blocks: block b stands at place b / nodes
pub record Homes : Type 0 where
  pub machine : MachineParts
  pub node : ℕ
  pub blocks : List HomeBlock
  -- whether memory was refused to it
  pub broken : Bool

-- how many blocks have their home at a node
abbrev pub count_of : MachineParts → ℕ → ℕ
count_of machine node = (machine.blocks + (machine.nodes - 1 - node)) / machine.nodes

-- as many blocks as have their home at the node, each with a sound entry
pub record AreHomes (machine : MachineParts) (number : ℕ) (blocks : List HomeBlock) : Type 0 where
  pub node : number < machine.nodes
  pub count : length blocks ≡ count_of machine number
  pub sound : All (λ (home : HomeBlock). IsSound machine.pointers home.entry.state) blocks

-- a block that exists, and whose home is this node
pub record IsHome (homes : Homes) (block : ℕ) : Type 0 where
  pub exists : block < homes.machine.blocks
  pub here : home_of homes.machine block ≡ homes.node

-- a block at the start: nobody holds or awaits a copy, and its memory is zero
abbrev pub fresh_block : MachineParts → HomeBlock
fresh_block machine = record {
  entry = record { state = Idle; waiting = [] };
  memory = replicate machine.block_bytes 0;
}

-- the directory of a node at the start
abbrev pub start_of : MachineParts → ℕ → Homes
start_of machine node = record {
  machine = machine;
  node = node;
  blocks = replicate (count_of machine node) (fresh_block machine);
  broken = false;
}

-- what a node keeps of a block
abbrev pub block_of : Homes → ℕ → HomeBlock
block_of homes block = slice_index_or homes.blocks (block / homes.machine.nodes) (fresh_block homes.machine)

-- the same directory, but for what it keeps of a block
abbrev pub with_block : ℕ → HomeBlock → Homes → Homes
with_block block home homes = record homes { blocks = slice_set homes.blocks (block / homes.machine.nodes) home }

-- a block of a machine, and a node from which a message comes
abbrev pub place_of : Homes → ℕ → ℕ → Place
place_of homes block from = record {
  nodes = homes.machine.nodes;
  pointers = homes.machine.pointers;
  block = block;
  from = from;
}

-- the row of the tables for a message from a node
abbrev pub row_of : Homes → ℕ → Msg → Row
row_of homes from msg =
    arrive_of (place_of homes msg.block from) msg.body (block_of homes msg.block)

-- the same node's directory after memory was refused to it
pub record IsBrokenFrom (old new : Homes) : Type 0 where
  pub machine : new.machine ≡ old.machine
  pub node : new.node ≡ old.node
  pub broken : new.broken ≡ true
