-- Laws of the segments of all nodes, taken node by node.
use Rattle.std.proofs.Common.{◌≡◌, ℕ, ◌+◌, ◌-◌, ◌*◌, ◌≤◌, List, [], ◌∷◌, ◌++◌, replicate, length, Some, sym, ap, ◌∙◌, subst, arith}
use Rattle.std.specs.Prelude.{slice_range, fold}
use Rattle.std.specs.Option.{option_map_or}
use Rattle.std.specs.List.{range_with_len, flat_map}
use Rattle.std.proofs.lemmas.List.{map-id, append-nil, length-replicate}
use Rattle.std.proofs.lemmas.List.Concat.{flat_map-append}
use Rattle.std.proofs.lemmas.List.FromFn.{map-range_with_len_more}
use Rattle.std.proofs.lemmas.List.Sums.{fold-append}
use Rattle.wt_params.specs.declared.parts.MachineParts.{MachineParts}
use Rattle.wt_params.specs.Machine.{shared_base}
use Rattle.elf_image.specs.declared.image.Image.{Image}
use Rattle.elf_image.specs.declared.image.Segment.{Segment}
use Rattle.image_loader.specs.Images.{LoadedImages, IsFor, image_of}
use Rattle.image_loader.specs.Loading.{with_segment, segments_of, shared_bytes, shared_of}
use Rattle.start_memories.specs.Parts.{IsPart, IsPartAfter}
use Rattle.start_memories.proofs.PartLaws.{zeros_cut}

-- one number more
range_more : (n : ℕ) → range_with_len 0 (n + 1) ≡ range_with_len 0 n ++ n ∷ []
range_more n =
    sym (map-id (range_with_len 0 (n + 1))) ∙ map-range_with_len_more (λ (x : ℕ). x) 0 n n (omega arith)
    ∙ ap (λ (numbers : List ℕ). numbers ++ n ∷ []) (map-id (range_with_len 0 n))

-- the segments of the nodes up to one
abbrev pub segments_below : LoadedImages → ℕ → List Segment
segments_below loaded node = flat_map (segments_of loaded) (range_with_len 0 node)

-- the segments of one node more
pub segments_of_next : (loaded : LoadedImages) (node : ℕ) → segments_below loaded (node + 1) ≡ segments_below loaded node ++ segments_of loaded node
segments_of_next loaded node =
    ap (λ (nodes : List ℕ). flat_map (segments_of loaded) nodes) (range_more node)
    ∙ flat_map-append (segments_of loaded) (range_with_len 0 node) (node ∷ [])
    ∙ ap (λ (segments : List Segment). segments_below loaded node ++ segments) (append-nil (segments_of loaded node))

pub segments_of_image : (loaded : LoadedImages) (node : ℕ) (image : Image) → image_of loaded node ≡ Some image → segments_of loaded node ≡ image.segments
segments_of_image loaded node image is = ap (λ found. option_map_or (λ (image : Image). image.segments) found []) is

-- one node more
pub part_after_node : (size start base node : ℕ) (before between after : List ℕ) (loaded : LoadedImages) (image : Image) → image_of loaded node ≡ Some image →
    IsPartAfter size start before between (λ memory. fold (with_segment base) memory (segments_below loaded node)) →
    IsPartAfter size start between after (λ memory. fold (with_segment base) memory image.segments) →
    IsPartAfter size start before after (λ memory. fold (with_segment base) memory (segments_below loaded (node + 1)))
part_after_node size start base node before between after loaded image serves one two = λ memory is.
    let step : fold (with_segment base) (fold (with_segment base) memory (segments_below loaded node)) image.segments ≡ fold (with_segment base) memory (segments_below loaded (node + 1)) =
    ap (λ (segments : List Segment). fold (with_segment base) (fold (with_segment base) memory (segments_below loaded node)) segments) (sym (segments_of_image loaded node image serves))
    ∙ sym (fold-append (with_segment base) memory (segments_below loaded node) (segments_of loaded node))
    ∙ ap (λ (segments : List Segment). fold (with_segment base) memory segments) (sym (segments_of_next loaded node))
    in
    subst (λ (after_node : List ℕ). IsPart size start after_node after) step (two (fold (with_segment base) memory (segments_below loaded node)) (one memory is))

-- a part that was zero, after all segments were laid into shared memory
pub part_of_shared : (machine : MachineParts) (loaded : LoadedImages) (start : ℕ) (zeros part : List ℕ) (segments : List Segment) → IsFor machine loaded →
    zeros ≡ replicate (length zeros) 0 → start + length zeros ≤ machine.blocks * machine.block_bytes → length part ≡ length zeros →
    fold (with_segment shared_base) (replicate (shared_bytes loaded) 0) segments ≡ shared_of loaded →
    IsPartAfter (machine.blocks * machine.block_bytes) start zeros part (λ memory. fold (with_segment shared_base) memory segments) →
    part ≡ slice_range (shared_of loaded) start (start + length zeros)
part_of_shared machine loaded start zeros part segments images zero inside same all laid =
    let size : shared_bytes loaded ≡ machine.blocks * machine.block_bytes =
    ap (λ (blocks : ℕ). blocks * loaded.block_bytes) images.blocks ∙ ap (λ (bytes : ℕ). machine.blocks * bytes) images.block_bytes
    in
    let sized : length (replicate {A = ℕ} (shared_bytes loaded) 0) ≡ machine.blocks * machine.block_bytes = length-replicate (shared_bytes loaded) 0 ∙ size in
    let cut : slice_range (replicate {A = ℕ} (shared_bytes loaded) 0) start (start + length zeros) ≡ replicate (start + length zeros - start) 0 =
    zeros_cut (shared_bytes loaded) start (start + length zeros) (omega arith) (omega (arith, size))
    in
    let before : IsPart (machine.blocks * machine.block_bytes) start (replicate (shared_bytes loaded) 0) zeros = record {
      whole = sized;
      inside = inside;
      bytes = zero ∙ ap (λ (n : ℕ). replicate n 0) (omega arith) ∙ sym cut;
    }
    in
    (laid (replicate (shared_bytes loaded) 0) before).bytes
    ∙ ap (λ (memory : List ℕ). slice_range memory start (start + length part)) all
    ∙ ap (λ (count : ℕ). slice_range (shared_of loaded) start (start + count)) same
