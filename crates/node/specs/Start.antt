-- A node at the start. Own.
use Rattle.std.specs.Prelude.{ℕ, Bool, [], List, replicate, slice_set, None}
use Rattle.std.specs.Option.{option_map_or}
use Rattle.wt_params.specs.declared.parts.MachineParts.{MachineParts}
use Rattle.wt_proto.specs.declared.mode.Mode.TheVariants.{Running}
use Rattle.dir1sw.specs.Homes.{Homes}
use Rattle.target_cache.specs.Cached.{empty_cache}
use Rattle.wt_stats.specs.declared.counters.Counters.{Counters}
use Rattle.image_loader.specs.Images.{LoadedImages, image_of}
use Rattle.image_loader.specs.Loading.{private_of}
use Rattle.start_memories.specs.Start.{homes_of}
use Rattle.node.specs.declared.state.NodeState.{NodeState}

-- x2 is the size of private memory, x10 the node's number and x11 the number of nodes; every other register is 0.
abbrev pub start_registers : MachineParts → ℕ → List ℕ
start_registers machine number =
    slice_set (slice_set (slice_set (replicate 32 0) 2 machine.private_bytes) 10 number) 11 machine.nodes

abbrev pub no_counts : Counters
no_counts = record {
  steps = 0;
  messages = 0;
  done = 0;
  hits = 0;
  misses = 0;
  upgrades = 0;
  replaced = 0;
  checkins = 0;
  invs = 0;
  traps = 0;
  trap_cycles = 0;
  barriers = 0;
  stray = 0;
  sent = 0;
}

-- a node with an entry, its private memory and its directory: its clocks stand at 0, its cache is empty, its processor
-- runs, and nobody is at the barrier
abbrev pub start_with : MachineParts → ℕ → ℕ → List ℕ → Homes → Bool → NodeState
start_with machine number entry private directory traced = record {
  number = number;
  registers = start_registers machine number;
  pc = entry;
  mode = Running;
  ready = 0;
  busy = 0;
  private = private;
  cache = empty_cache machine;
  directory = directory;
  barrier = record { nodes = machine.nodes; arrived = []; left = [] };
  counters = no_counts;
  output = [];
  last = None;
  traced = traced;
  log = [];
}

-- the entry of the image that serves a node
abbrev pub entry_of : LoadedImages → ℕ → ℕ
entry_of loaded number = option_map_or (λ image. image.entry) (image_of loaded number) 0

-- a node at the start, with the images in its memories
unfoldable pub start_node : MachineParts → LoadedImages → Bool → ℕ → NodeState
start_node machine loaded traced number =
    start_with machine number (entry_of loaded number) (private_of loaded number) (homes_of machine loaded number) traced
