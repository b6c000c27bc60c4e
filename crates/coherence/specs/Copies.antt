-- Who holds a block in a machine, and what breaches coherence there: a stray message, or a writer of a block beside
-- another who holds it. Own.
use Rattle.std.specs.Prelude.{◌≡◌, ℕ, ◌<◌, ◌==◌, ◌&&◌, ◌||◌, not, Bool, true, false, List, ◌++◌, map, flat_map, slice_get, Option}
use Rattle.std.specs.List.{filter, range_with_len}
use Rattle.wt_params.specs.declared.parts.MachineParts.{MachineParts}
use Rattle.block_tags.specs.declared.tag.Tag.{Tag}
use Rattle.block_tags.specs.declared.tag.Tag.TheVariants.{Invalid, ReadOnly, Writable}
use Rattle.target_cache.specs.Cached.{tag_of}
use Rattle.image_loader.specs.Images.{LoadedImages, IsFor}
use Rattle.image_loader.specs.Loading.{AreLoaded}
use Rattle.node.specs.declared.state.NodeState.{NodeState}
use Rattle.quantum.specs.Stations.{StationModel}
use Rattle.wt_report.specs.Stations.{AreStationsOf}
use Rattle.coherence.specs.declared.holders.Copies.{Copies}
use Rattle.coherence.specs.declared.breaches.Breach.{Breach}
use Rattle.coherence.specs.declared.breaches.Breach.TheVariants.{Stray, Two}
use Rattle.coherence.specs.Runs.{world_after}

-- the stations of one machine, numbered from 0 in order, and a block of it
pub record HaveBlock (stations : List StationModel) (block : ℕ) : Type 0 where
  pub machine : MachineParts
  pub are : AreStationsOf machine stations
  pub exists : block < machine.blocks

-- ---- the copies of a block

abbrev pub is_writable : Tag → Bool
is_writable Writable = true
is_writable ReadOnly = false
is_writable Invalid = false

abbrev pub is_read_only : Tag → Bool
is_read_only ReadOnly = true
is_read_only Writable = false
is_read_only Invalid = false

-- whether a node may write a block, may only read it, or holds it at all
abbrev pub writes : ℕ → NodeState → Bool
writes block node = is_writable (tag_of node.cache block)

abbrev pub reads : ℕ → NodeState → Bool
reads block node = is_read_only (tag_of node.cache block)

abbrev pub holds : ℕ → NodeState → Bool
holds block node = writes block node || reads block node

abbrev pub number_of : NodeState → ℕ
number_of node = node.number

abbrev pub writers_of : List NodeState → ℕ → List ℕ
writers_of nodes block = map number_of (filter (writes block) nodes)

abbrev pub readers_of : List NodeState → ℕ → List ℕ
readers_of nodes block = map number_of (filter (reads block) nodes)

abbrev pub copies_of : List NodeState → ℕ → Copies
copies_of nodes block = record { writers = writers_of nodes block; readers = readers_of nodes block }

-- ---- breaches

-- A message came to a node that nobody had asked for.
abbrev pub is_stray : NodeState → Bool
is_stray node = not (node.counters.stray == 0)

abbrev pub stray : NodeState → Breach
stray node = Stray node.number

abbrev pub strays : List NodeState → List Breach
strays nodes = map stray (filter is_stray nodes)

-- another node than a writer, which holds the block too
abbrev pub is_beside : ℕ → ℕ → NodeState → Bool
is_beside block writer node = holds block node && not (node.number == writer)

abbrev pub two : ℕ → ℕ → NodeState → Breach
two block writer other = Two block writer other.number

abbrev pub beside : List NodeState → ℕ → ℕ → List Breach
beside nodes block writer = map (two block writer) (filter (is_beside block writer) nodes)

abbrev pub twos_of : List NodeState → ℕ → List Breach
twos_of nodes block = flat_map (beside nodes block) (writers_of nodes block)

abbrev pub twos : MachineParts → List NodeState → List Breach
twos machine nodes = flat_map (twos_of nodes) (range_with_len 0 machine.blocks)

-- All breaches, in this order: those of stray messages by their nodes, and then those of two nodes by the block, the
-- writer and the other.
abbrev pub breaches_of : MachineParts → List NodeState → List Breach
breaches_of machine nodes = strays nodes ++ twos machine nodes

-- the first of them
abbrev pub breach_of : MachineParts → List NodeState → Option Breach
breach_of machine nodes = slice_get (breaches_of machine nodes) 0

-- ---- of runs

-- the nodes of a machine after so many events of its serial run from a start
pub record AreOfSerialRun (machine : MachineParts) (nodes : List NodeState) : Type 0 where
  pub loaded : LoadedImages
  pub is_for : IsFor machine loaded
  pub loads : AreLoaded loaded
  pub traced : Bool
  pub events : ℕ
  pub nodes_are : nodes ≡ (world_after machine loaded traced events).nodes
