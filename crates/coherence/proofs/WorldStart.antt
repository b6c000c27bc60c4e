-- A machine at the start is a coherent world.
use Rattle.std.proofs.Common.{◌≡◌, ℕ, zero, suc, ◌*◌, ◌/◌, ◌<◌, Bool, false, List, [], length, map, replicate, get_or, Option, Some, None, refl, ap, sym, ◌∙◌, subst, arith}
use Rattle.std.specs.List.{range_with_len, find}
use Rattle.std.specs.FinMap.{get-empty, empty, entries}
use Rattle.std.proofs.lemmas.List.FromFn.{get_or-map-range_with_len}
use Rattle.wt_params.specs.declared.parts.MachineParts.{MachineParts}
use Rattle.wt_params.specs.Machine.{IsMachine, home_of}
use Rattle.wt_proto.specs.declared.key.Key.{Key}
use Rattle.wt_proto.specs.declared.message.Msg.{Msg}
use Rattle.wt_proto.specs.declared.mode.Mode.TheVariants.{Running, Waiting}
use Rattle.dir1sw.specs.Homes.{count_of, block_of, fresh_block}
use Rattle.target_cache.specs.declared.line.Line.{Line}
use Rattle.target_cache.specs.Cached.{empty_cache, line_of}
use Rattle.target_cache.specs.Lines.{holds}
use Rattle.image_loader.specs.Images.{LoadedImages, IsFor}
use Rattle.image_loader.specs.Loading.{AreLoaded, shared_of, block_of as loaded_block}
use Rattle.start_memories.specs.Start.{block_at, block_at_start, homes_of}
use Rattle.wt_proto.specs.KeyOrder.{key_cmp}
use Rattle.discrete_events.specs.Laws.{IsIn}
use Rattle.discrete_events.proofs.Lists.{from_map}
use Rattle.discrete_events.proofs.Queues.{in_get}
use Rattle.node.specs.declared.state.NodeState.{NodeState}
use Rattle.node.specs.Start.{start_node}
use Rattle.quantum.specs.World.{start_of}
use Rattle.coherence.specs.Block.{no_part, Home}
use Rattle.coherence.specs.Block.Roll.{Idle}
use Rattle.coherence.specs.Lines.{goes_from, comes_to}
use Rattle.coherence.specs.Deals.{copy_by, copy_of, wanted_in}
use Rattle.coherence.specs.Meetings.Stand.{Away}
use Rattle.coherence.specs.Moves.{stand_in}
use Rattle.coherence.specs.Worlds.{World, node_in, under_way, cell_by, cell_in, is_wake, view_in, IsCoherentBlock, arrives_from, leaves_from, goes_to, stand_of, meeting_in, IsOrderly, IsCoherentWorld}
use Rattle.coherence.proofs.RowDeals.{place_inside}
use Rattle.coherence.specs.Laws.{IsStart as IsFirstView}
use Rattle.coherence.specs.Values.{HasValue}
use Rattle.coherence.specs.Traces.{bytes_of, known_at_start}
use Rattle.coherence.proofs.Steps.{start_coherent}
use Rattle.coherence.proofs.Values.{values_kept}
use Rattle.coherence.proofs.Bytes.{start_size, start_bytes}
use Rattle.coherence.proofs.Meetings.{meetings_orderly}
use Rattle.coherence.proofs.Placed.{length_none}
use Rattle.coherence.proofs.WorldEvents.{in_node}

none_in : (count at : ℕ) → get_or {A = List Line} (replicate count []) at [] ≡ []
none_in zero at = refl
none_in (suc count) zero = refl
none_in (suc count) (suc at) = none_in count at

no_line : (machine : MachineParts) (block : ℕ) → line_of (empty_cache machine) block ≡ None
unfolding line_of empty_cache
no_line machine block = ap (λ (lines : List Line). find (holds block) lines) (none_in machine.sets _)

module _ (machine : MachineParts) (is : IsMachine machine) (loaded : LoadedImages) (for : IsFor machine loaded) (loads : AreLoaded loaded) (traced : Bool) where
  abbrev start : World
  start = start_of machine loaded traced

  none_under_way : (is_of : Key × Msg → Bool) → under_way is_of start ≡ []
  none_under_way is_of = length_none is_of (entries empty) (λ message h. absurd (let e : None ≡ Some message.1 = sym (get-empty key_cmp message.0) ∙ in_get empty message h in cc))

  -- what a node is at the start
  pub record IsFresh (node : NodeState) : Type 0 where
    pub running : node.mode ≡ Running
    pub cache : node.cache ≡ empty_cache machine
    pub directory : node.directory ≡ homes_of machine loaded node.number
    pub arrived : node.barrier.arrived ≡ []
    pub left : node.barrier.left ≡ []
    pub stray : node.counters.stray ≡ 0

  fresh_start : (number : ℕ) → IsFresh (start_node machine loaded traced number)
  unfolding start_node
  fresh_start number = record { running = refl; cache = refl; directory = refl; arrived = refl; left = refl; stray = refl }

  pub fresh : (node : NodeState) → IsIn node start.nodes → IsFresh node
  fresh node member = of (from_map (start_node machine loaded traced) node (range_with_len 0 machine.nodes) member)
    where
      of : (number : ℕ) × IsIn number (range_with_len 0 machine.nodes) × (node ≡ start_node machine loaded traced number) → IsFresh node
      of (number, h, e) = subst IsFresh (sym e) (fresh_start number)

  -- ---- a block

  place_of_block : (block : ℕ) → block_at machine (home_of machine block) (block / machine.nodes) ≡ block
  place_of_block block = let some = is.nodes.at_least in grind arith

  block_start : (block : ℕ) → block < machine.blocks → block_of (homes_of machine loaded (home_of machine block)) block ≡ block_at_start machine loaded block
  block_start block exists =
      get_or-map-range_with_len (λ place. block_at_start machine loaded (block_at machine (home_of machine block) place)) 0 (count_of machine (home_of machine block)) (block / machine.nodes) (block / machine.nodes) (fresh_block machine)
      (place_inside machine block (home_of machine block) is exists refl) (omega arith)
      ∙ ap (block_at_start machine loaded) (place_of_block block)

  -- nobody holds or awaits it, and its memory is what loading left
  abbrev pub home_at_start : ℕ → Home
  home_at_start block = record { roll = Idle; waiting = []; memory = loaded_block loaded block }

  no_copy : (node : NodeState) (block : ℕ) → IsIn node start.nodes → copy_of node.cache block ≡ None
  no_copy node block member = ap (λ c. copy_of c block) (fresh node member).cache ∙ ap copy_by (no_line machine block)

  cells : (block number : ℕ) → cell_in start block number ≡ no_part
  cells block number =
      (λ i. cell_by block (map (λ (m : Key × Msg). m.1.body) (none_under_way (goes_from block number) i)) (map (λ (m : Key × Msg). m.1.body) (none_under_way (comes_to block number) i)) (node_in number start.nodes))
      ∙ by (node_in number start.nodes) refl
    where
      by : (found : Option NodeState) → node_in number start.nodes ≡ found → cell_by block [] [] found ≡ no_part
      by None e = refl
      by (Some node) e =
          let member = (in_node number start.nodes node e).0 in
          (λ i. record { wants = wanted_in block ((fresh node member).running i); copy = no_copy node block member i; to_home = []; from_home = [] })

  first_view : (block : ℕ) → IsFirstView (view_in start block (home_at_start block))
  first_view block = record {
    roll = refl;
    waiting = refl;
    wakes = ap (λ (l : List (Key × Msg)). length l) (none_under_way (is_wake block));
    cells = cells block;
  }

  pub block_coherent : (block : ℕ) → block < machine.blocks → IsCoherentBlock machine start block (bytes_of machine (shared_of loaded) block)
  block_coherent block exists = record {
    listed = false;
    home = home_at_start block;
    kept = λ node member home. ap (λ d. block_of d block) ((fresh node member).directory ∙ ap (homes_of machine loaded) home) ∙ block_start block exists;
    facts = start_coherent (view_in start block (home_at_start block)) (first_view block);
    has_value = subst (λ (v : List ℕ). HasValue v (view_in start block (home_at_start block))) (sym (start_bytes machine loaded for block)) (values_kept.start (view_in start block (home_at_start block)) (first_view block));
  }

  -- ---- the whole

  barrier_orderly : IsOrderly machine start
  barrier_orderly several node member first = meetings_orderly.start (meeting_in start node.barrier) (record {
    arrived = (fresh node member).arrived;
    left = (fresh node member).left;
    parts = λ number. (λ i. record {
      stand = stands number (node_in number start.nodes) refl i;
      arrives = length (none_under_way (arrives_from number) i);
      leaves = length (none_under_way (leaves_from number) i);
      gos = length (none_under_way (goes_to number) i);
    });
  })
    where
      stands : (number : ℕ) (found : Option NodeState) → node_in number start.nodes ≡ found → stand_of found ≡ Away
      stands number None e = refl
      stands number (Some other) e = ap stand_in (fresh other (in_node number start.nodes other e).0).running

  shared_size : length (shared_of loaded) ≡ machine.blocks * machine.block_bytes
  shared_size = start_size loaded loads (let p = for.private_bytes in let m = is.private_bytes.range.at_most in omega (arith, p, m)) ∙ (λ i. for.blocks i * for.block_bytes i)

  pub start_is_coherent : IsCoherentWorld machine start (known_at_start loaded)
  start_is_coherent = record {
    blocks = block_coherent;
    barrier = barrier_orderly;
    right = record {
      goes = λ key msg there. absurd (let e : None ≡ Some msg = sym (get-empty key_cmp key) ∙ there in cc);
      in_time = λ key msg node there member from. absurd (let e : None ≡ Some msg = sym (get-empty key_cmp key) ∙ there in cc);
    };
    none_stray = λ node member. (fresh node member).stray;
    size = shared_size;
    words = λ node block exclusive member waits. absurd (let e : Running ≡ Waiting block exclusive = sym (fresh node member).running ∙ waits in cc);
  }
