-- How long memories are that segments are laid into.
use Rattle.std.proofs.Common.{◌≡◌, ℕ, zero, suc, ◌+◌, ◌-◌, ◌*◌, ◌<◌, ◌≤◌, List, [], ◌∷◌, replicate, length, inl, inr, sym, ap, ◌∙◌, arith}
use Rattle.std.specs.Prelude.{fold, All}
use Rattle.std.proofs.lemmas.Bool.{cases_lt}
use Rattle.std.proofs.lemmas.List.{length-replicate, length-append}
use Rattle.std.proofs.lemmas.List.Edits.{length-between}
use Rattle.std.proofs.lemmas.List.Sums.{fold-append}
use Rattle.std.proofs.Math.Nat.{mul-le-mul_right}
use Rattle.wt_params.specs.Machine.{shared_base}
use Rattle.elf_image.specs.declared.image.Segment.{Segment}
use Rattle.elf_image.specs.Sizes.{FitsItsSize}
use Rattle.priv_mem.proofs.MemoryLaws.{length-overwritten}
use Rattle.image_loader.specs.Images.{LoadedImages}
use Rattle.image_loader.specs.Loading.{AreLoaded, IsPlaced, block_of, content_of, private_of, segments_of, shared_bytes, shared_of, with_segment, with_segments}
use Rattle.image_loader.proofs.Served.{IsServed, is_served}
use Rattle.start_memories.proofs.Overwrites.{with_segment_inside, with_segment_elsewhere}
use Rattle.start_memories.proofs.NodeLaws.{segments_below, segments_of_next, segments_of_image}

-- the first of a list, and the others
pub first_of_all : {X : Type 0} (P : X → Type 0) (x : X) (xs : List X) → All P (x ∷ xs) → P x
first_of_all P x xs all = all 0 x (omega arith)

pub others_of_all : {X : Type 0} (P : X → Type 0) (x : X) (xs : List X) → All P (x ∷ xs) → All P xs
others_of_all P x xs all = λ k d within. all (suc k) d (omega arith)

content_length : (segment : Segment) → FitsItsSize segment → length (content_of segment) ≡ segment.size
content_length segment fits =
    let zeros : length (replicate {A = ℕ} (segment.size - length segment.bytes) 0) ≡ segment.size - length segment.bytes =
    length-replicate (segment.size - length segment.bytes) 0
    in
    let long : length (content_of segment) ≡ length segment.bytes + length (replicate {A = ℕ} (segment.size - length segment.bytes) 0) =
    length-append segment.bytes (replicate (segment.size - length segment.bytes) 0)
    in
    omega (arith, fits)

-- A segment that begins in a memory ends there.
abbrev pub Ends : ℕ → ℕ → Segment → Type 0
Ends base size segment =
    base ≤ segment.at → segment.at < base + size → segment.at - base + length (content_of segment) ≤ size

-- a segment leaves a memory as long as it was
pub length-with_segment : (base size : ℕ) (memory : List ℕ) (segment : Segment) → length memory ≡ size → Ends base size segment →
    length (with_segment base memory segment) ≡ size
length-with_segment base size memory segment sized ends = elim (cases_lt segment.at base) [
  | inl below ↦ ap length (with_segment_elsewhere base memory segment (inl below)) ∙ sized
  | inr from ↦ elim (cases_lt segment.at (base + size)) [
    | inl under ↦
        ap length (with_segment_inside base memory segment from (omega (arith, sized)))
        ∙ length-overwritten memory (content_of segment) (segment.at - base) (omega (arith, sized, ends from under))
        ∙ sized
    | inr behind ↦ ap length (with_segment_elsewhere base memory segment (inr (omega (arith, sized)))) ∙ sized
  ]
]

module _ (private shared : ℕ) (low : private ≤ shared_base) where
  -- placed segments end in private memory
  pub ends_in_private : (segment : Segment) → IsPlaced private shared segment → FitsItsSize segment → Ends 0 private segment
  ends_in_private segment placed fits = λ from under. (let long = content_length segment fits in omega (arith, placed))

  -- and in shared memory
  pub ends_in_shared : (segment : Segment) → IsPlaced private shared segment → FitsItsSize segment → Ends shared_base shared segment
  ends_in_shared segment placed fits = λ from under. (let long = content_length segment fits in omega (arith, placed))

  -- so do segments
  pub length-with_segments : (base size : ℕ) → ((segment : Segment) → IsPlaced private shared segment → FitsItsSize segment → Ends base size segment) →
      (memory : List ℕ) (segments : List Segment) → length memory ≡ size → All (IsPlaced private shared) segments → All FitsItsSize segments →
      length (fold (with_segment base) memory segments) ≡ size
  length-with_segments base size ends memory [] sized placed fits = sized
  length-with_segments base size ends memory (segment ∷ segments) sized placed fits =
      length-with_segments base size ends (with_segment base memory segment) segments
      (length-with_segment base size memory segment sized (ends segment (first_of_all (IsPlaced private shared) segment segments placed) (first_of_all FitsItsSize segment segments fits)))
      (others_of_all (IsPlaced private shared) segment segments placed) (others_of_all FitsItsSize segment segments fits)

module _ (loaded : LoadedImages) (are : AreLoaded loaded) (low : loaded.private_bytes ≤ shared_base) where
  pub private_size : (node : ℕ) → node < loaded.nodes → length (private_of loaded node) ≡ loaded.private_bytes
  private_size node there =
      let served = is_served loaded node are there in
      ap (λ (segments : List Segment). length (with_segments 0 loaded.private_bytes segments)) (segments_of_image loaded node served.image served.found)
      ∙ length-with_segments loaded.private_bytes (shared_bytes loaded) low 0 loaded.private_bytes (ends_in_private loaded.private_bytes (shared_bytes loaded) low)
      (replicate loaded.private_bytes 0) served.image.segments (length-replicate loaded.private_bytes 0) served.program.placed served.program.bytes

  shared_below : (count : ℕ) → count ≤ loaded.nodes → length (with_segments shared_base (shared_bytes loaded) (segments_below loaded count)) ≡ shared_bytes loaded
  shared_below zero within = length-replicate (shared_bytes loaded) 0
  shared_below (suc n) within =
      let served = is_served loaded n are (omega arith) in
      let next : suc n ≡ n + 1 = omega arith in
      ap (λ (count : ℕ). length (with_segments shared_base (shared_bytes loaded) (segments_below loaded count))) next
      ∙ ap (λ (segments : List Segment). length (with_segments shared_base (shared_bytes loaded) segments)) (segments_of_next loaded n)
      ∙ ap length (fold-append (with_segment shared_base) (replicate (shared_bytes loaded) 0) (segments_below loaded n) (segments_of loaded n))
      ∙ ap (λ (segments : List Segment). length (fold (with_segment shared_base) (with_segments shared_base (shared_bytes loaded) (segments_below loaded n)) segments)) (segments_of_image loaded n served.image served.found)
      ∙ length-with_segments loaded.private_bytes (shared_bytes loaded) low shared_base (shared_bytes loaded) (ends_in_shared loaded.private_bytes (shared_bytes loaded) low)
      (with_segments shared_base (shared_bytes loaded) (segments_below loaded n)) served.image.segments (shared_below n (omega arith)) served.program.placed served.program.bytes

  pub block_size : (block : ℕ) → block < loaded.blocks → length (block_of loaded block) ≡ loaded.block_bytes
  block_size block there =
      let all : length (shared_of loaded) ≡ shared_bytes loaded = shared_below loaded.nodes (omega arith) in
      let most : (block + 1) * loaded.block_bytes ≤ loaded.blocks * loaded.block_bytes = mul-le-mul_right loaded.block_bytes (omega arith) in
      let next : (block + 1) * loaded.block_bytes ≡ block * loaded.block_bytes + loaded.block_bytes = omega arith in
      length-between (shared_of loaded) (block * loaded.block_bytes) (block * loaded.block_bytes + loaded.block_bytes) (omega (arith, all))
      ∙ omega arith
