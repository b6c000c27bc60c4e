-- A node at the start is sound.
use Rattle.std.proofs.Common.{◌∙◌, ◌≡◌, ℕ, ◌<◌, ◌≤◌, Bool, List, [], length, Option, Some, None, refl, subst, sym, arith}
use Rattle.std.specs.Prelude.{All, IsSomeAnd}
use Rattle.std.specs.List.{range_with_len}
use Rattle.std.proofs.lemmas.List.{length-replicate, get_or-replicate}
use Rattle.std.proofs.lemmas.List.Elements.{All-map}
use Rattle.std.proofs.lemmas.List.FromFn.{length-map-range_with_len}
use Rattle.wt_params.specs.declared.parts.MachineParts.{MachineParts}
use Rattle.wt_params.specs.Machine.{IsMachine, shared_base}
use Rattle.elf_image.specs.declared.image.Image.{Image}
use Rattle.image_loader.specs.Images.{LoadedImages, image_of, IsFor}
use Rattle.image_loader.specs.Loading.{AreLoaded, IsProgram, private_of, shared_bytes}
use Rattle.image_loader.proofs.Served.{is_served}
use Rattle.target_cache.specs.declared.line.Line.{Line}
use Rattle.target_cache.specs.Cached.{IsCached, AreLines, empty_cache}
use Rattle.dir1sw.specs.declared.home.HomeBlock.{HomeBlock}
use Rattle.dir1sw.specs.Homes.{count_of}
use Rattle.dir1sw.specs.Fits.{HomeFits}
use Rattle.dir1sw.specs.Table.{copies_of}
use Rattle.start_memories.specs.Start.{homes_of, block_at, block_at_start}
use Rattle.start_memories.proofs.HomesLaws.{block_exists, homes_fit}
use Rattle.start_memories.proofs.SizeLaws.{block_size, private_size}
use Rattle.node.specs.declared.state.NodeState.{NodeState}
use Rattle.node.specs.Start.{start_node}
use Rattle.node.specs.Sound.{IsNode}

no_lines : (machine : MachineParts) (set : ℕ) → AreLines machine set []
no_lines machine set = record { few = omega arith; fit = λ k d below. absurd (omega arith); distinct = λ block. omega arith }

empty_is_cached : (machine : MachineParts) → IsCached (empty_cache machine)
unfolding empty_cache
empty_is_cached machine = record {
  count = length-replicate machine.sets [];
  lines = λ set there. subst (λ (lines : List Line). AreLines machine set lines) (sym (get_or-replicate machine.sets set [] [] there)) (no_lines machine set);
}

empty_machine : (machine : MachineParts) → (empty_cache machine).machine ≡ machine
unfolding empty_cache
empty_machine machine = refl

no_copies : (machine : MachineParts) (loaded : LoadedImages) (number : ℕ) → All (λ (home : HomeBlock). copies_of home.entry.state ≤ 0) (homes_of machine loaded number).blocks
no_copies machine loaded number =
    All-map (λ (home : HomeBlock). copies_of home.entry.state ≤ 0) (λ place. block_at_start machine loaded (block_at machine number place)) (range_with_len 0 (count_of machine number)) (λ k d below. omega arith)

sound_at_start : (machine : MachineParts) (loaded : LoadedImages) (traced : Bool) (number : ℕ) (image : Image) → IsMachine machine → IsFor machine loaded → number < machine.nodes → image_of loaded number ≡ Some image → IsProgram loaded.private_bytes (shared_bytes loaded) image →
    length (private_of loaded number) ≡ machine.private_bytes → All (HomeFits machine) (homes_of machine loaded number).blocks → IsNode machine (start_node machine loaded traced number)
unfolding start_node
sound_at_start machine loaded traced number image is for there found program size homes = record {
  numbers = is;
  number = there;
  aligned = rw found program.aligned;
  private = size;
  ready = omega arith;
  busy = omega arith;
  counts = record {
    events = omega arith;
    done = omega arith;
    hits = omega arith;
    misses = omega arith;
    upgrades = omega arith;
    replaced = omega arith;
    checkins = omega arith;
    invs = omega arith;
    traps = omega arith;
    trap_cycles = omega arith;
    barriers = omega arith;
    stray = omega arith;
    sent = omega arith;
  };
  cache = record { machine_is = empty_machine machine; sound = empty_is_cached machine };
  directory = record {
    machine_is = refl;
    node = refl;
    count = length-map-range_with_len (λ place. block_at_start machine loaded (block_at machine number place)) 0 (count_of machine number);
    blocks = λ k d below. record { copies = no_copies machine loaded number k d below; home_fits = homes k d below };
  };
  barrier = record { nodes = refl; arrived = tt };
  mode = tt;
  logged = λ k d below. absurd (omega arith);
}

-- what the code knows of its node
at_image : (machine : MachineParts) (loaded : LoadedImages) (traced : Bool) (number : ℕ) (found : Option Image) → image_of loaded number ≡ found → IsMachine machine → IsFor machine loaded → number < machine.nodes → IsSomeAnd found (IsProgram loaded.private_bytes (shared_bytes loaded)) →
    length (private_of loaded number) ≡ machine.private_bytes → All (HomeFits machine) (homes_of machine loaded number).blocks → IsNode machine (start_node machine loaded traced number)
at_image machine loaded traced number (Some image) is_image is for there program size homes = sound_at_start machine loaded traced number image is for there is_image program size homes
at_image machine loaded traced number None is_image is for there program size homes = absurd program

pub start_is_node : (machine : MachineParts) (loaded : LoadedImages) (traced : Bool) (number : ℕ) (node : NodeState) → node ≡ start_node machine loaded traced number → IsMachine machine → IsFor machine loaded → number < machine.nodes →
    IsSomeAnd (image_of loaded number) (IsProgram loaded.private_bytes (shared_bytes loaded)) → length node.private ≡ machine.private_bytes → All (HomeFits machine) node.directory.blocks → IsNode machine node
unfolding start_node
start_is_node machine loaded traced number node start is for there program size homes =
    subst (λ (n : NodeState). IsNode machine n) (sym start) (at_image machine loaded traced number (image_of loaded number) refl is for there program (rw start at size) (rw start at homes))

-- What is known of the machine and its loaded images is enough.
pub start_is_sound : (machine : MachineParts) (loaded : LoadedImages) (traced : Bool) (number : ℕ) → IsMachine machine → IsFor machine loaded → AreLoaded loaded → number < machine.nodes → IsNode machine (start_node machine loaded traced number)
start_is_sound machine loaded traced number is for are there =
    let served = is_served loaded number are (omega (arith, for.nodes)) in
    let low : loaded.private_bytes ≤ shared_base = omega (arith, for.private_bytes, is.private_bytes.range.at_most) in
    sound_at_start machine loaded traced number served.image is for there served.found served.program
    (private_size loaded are low number (omega (arith, for.nodes)) ∙ for.private_bytes)
    (homes_fit machine loaded number (λ place within. block_size loaded are low (block_at machine number place) (let exists = block_exists machine number place there within in omega (arith, for.blocks)) ∙ for.block_bytes))
