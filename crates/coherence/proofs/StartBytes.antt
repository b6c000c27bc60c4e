-- Shared memory at the start is what the homes of its blocks have.
use Rattle.std.proofs.Common.{◌≡◌, ℕ, zero, suc, ◌+◌, ◌-◌, ◌*◌, ◌/◌, ◌<◌, ◌≤◌, List, [], ◌∷◌, ◌++◌, length, take, drop, replicate, refl, ap, ◌∙◌, arith}
use Rattle.std.specs.Prelude.{fold, slice_range}
use Rattle.std.proofs.lemmas.List.{length-replicate}
use Rattle.std.proofs.lemmas.List.FromFn.{get_or-map-range_with_len}
use Rattle.std.proofs.lemmas.List.Sums.{fold-append}
use Rattle.wt_params.specs.declared.parts.MachineParts.{MachineParts}
use Rattle.wt_params.specs.Machine.{IsMachine, home_of, shared_base}
use Rattle.dir1sw.specs.declared.home.HomeBlock.{HomeBlock}
use Rattle.dir1sw.specs.Homes.{block_of, count_of, fresh_block}
use Rattle.image_loader.specs.Images.{LoadedImages}
use Rattle.image_loader.specs.Loading.{AreLoaded, segments_of, shared_bytes, shared_of, with_segment, with_segments}
use Rattle.image_loader.specs.Loading.{block_of as loaded_block}
use Rattle.image_loader.proofs.Served.{is_served}
use Rattle.start_memories.specs.Start.{block_at, block_at_start, homes_of}
use Rattle.start_memories.proofs.NodeLaws.{segments_below, segments_of_next, segments_of_image}
use Rattle.start_memories.proofs.SizeLaws.{ends_in_shared, length-with_segments}
use Rattle.coherence.proofs.RowDeals.{place_inside}

-- ---- how long it is

module _ (loaded : LoadedImages) (are : AreLoaded loaded) (low : loaded.private_bytes ≤ shared_base) where
  shared_below : (count : ℕ) → count ≤ loaded.nodes → length (with_segments shared_base (shared_bytes loaded) (segments_below loaded count)) ≡ shared_bytes loaded
  shared_below zero within = length-replicate (shared_bytes loaded) 0
  shared_below (suc n) within =
      let served = is_served loaded n are (omega arith) in
      let next : suc n ≡ n + 1 = omega arith in
      ap (λ (count : ℕ). length (with_segments shared_base (shared_bytes loaded) (segments_below loaded count))) next
      ∙ ap (λ segments. length (with_segments shared_base (shared_bytes loaded) segments)) (segments_of_next loaded n)
      ∙ ap length (fold-append (with_segment shared_base) (replicate (shared_bytes loaded) 0) (segments_below loaded n) (segments_of loaded n))
      ∙ ap (λ segments. length (fold (with_segment shared_base) (with_segments shared_base (shared_bytes loaded) (segments_below loaded n)) segments)) (segments_of_image loaded n served.image served.found)
      ∙ length-with_segments loaded.private_bytes (shared_bytes loaded) low shared_base (shared_bytes loaded) (ends_in_shared loaded.private_bytes (shared_bytes loaded) low)
      (with_segments shared_base (shared_bytes loaded) (segments_below loaded n)) served.image.segments (shared_below n (omega arith)) served.program.placed served.program.bytes

  pub shared_size : length (shared_of loaded) ≡ shared_bytes loaded
  shared_size = shared_below loaded.nodes (omega arith)

-- ---- block by block

take_two : {X : Type 0} (xs : List X) (n m : ℕ) → take n xs ++ take m (drop n xs) ≡ take (n + m) xs
take_two xs zero m = ap (λ (k : ℕ). take k xs) (let e : m ≡ 0 + m = omega arith in e)
take_two {X = X} [] (suc n) zero = ap (λ (k : ℕ). take {A = X} k []) (let e : suc n ≡ suc n + 0 = omega arith in e)
take_two {X = X} [] (suc n) (suc m) = ap (λ (k : ℕ). take {A = X} k []) (let e : suc (n + suc m) ≡ suc n + suc m = omega arith in e)
take_two (x ∷ xs) (suc n) m =
    ap (λ ys. x ∷ ys) (take_two xs n m) ∙ ap (λ (k : ℕ). take k (x ∷ xs)) (let e : suc (n + m) ≡ suc n + m = omega arith in e)

pub one_block_more : (bytes : List ℕ) (block size : ℕ) →
    take (block * size) bytes ++ slice_range bytes (block * size) (block * size + size) ≡ take ((block + 1) * size) bytes
one_block_more bytes block size =
    ap (λ (k : ℕ). take (block * size) bytes ++ take k (drop (block * size) bytes)) (let e : block * size + size - block * size ≡ size = omega arith in e)
    ∙ take_two bytes (block * size) size
    ∙ ap (λ (k : ℕ). take k bytes) (let e : block * size + size ≡ (block + 1) * size = omega arith in e)

-- the home of a block has what loading left there
module _ (machine : MachineParts) (loaded : LoadedImages) (is : IsMachine machine) where
  place_of_block : (block : ℕ) → block_at machine (home_of machine block) (block / machine.nodes) ≡ block
  place_of_block block = let some = is.nodes.at_least in grind arith

  pub memory_at_home : (block : ℕ) → block < machine.blocks → (block_of (homes_of machine loaded (home_of machine block)) block).memory ≡ loaded_block loaded block
  memory_at_home block exists =
      ap (λ (home : HomeBlock). home.memory)
      (get_or-map-range_with_len (λ place. block_at_start machine loaded (block_at machine (home_of machine block) place)) 0 (count_of machine (home_of machine block)) (block / machine.nodes) (block / machine.nodes) (fresh_block machine)
      (place_inside machine block (home_of machine block) is exists refl) (omega arith)
      ∙ ap (block_at_start machine loaded) (place_of_block block))
