-- Segments that are laid twice leave what they leave when they are laid once, so one image for all nodes need be laid only once.
use Rattle.std.proofs.Common.{◌≡◌, ℕ, zero, suc, ◌+◌, ◌-◌, ◌<◌, ◌≤◌, ◌⊎◌, List, [], ◌∷◌, replicate, length, get_or, Some, true, eqb, Bool, cond, eq-eqb, inl, inr, refl, sym, ap, ◌∙◌, arith}
use Rattle.std.specs.Prelude.{fold, All, slice_get}
use Rattle.std.proofs.lemmas.Bool.{cases_lt}
use Rattle.std.proofs.lemmas.Grind.{same_number_lists}
use Rattle.std.proofs.lemmas.List.{length-replicate, append-nil}
use Rattle.std.proofs.lemmas.List.Sums.{fold-append}
use Rattle.wt_params.specs.declared.parts.MachineParts.{MachineParts}
use Rattle.wt_params.specs.Machine.{IsMachine, shared_base}
use Rattle.elf_image.specs.declared.image.Image.{Image}
use Rattle.elf_image.specs.declared.image.Segment.{Segment}
use Rattle.elf_image.specs.Sizes.{FitsItsSize}
use Rattle.priv_mem.specs.Memory.{overwritten}
use Rattle.image_loader.specs.Images.{LoadedImages, IsFor, image_of}
use Rattle.image_loader.specs.Loading.{IsPlaced, IsProgram, content_of, with_segment, segments_of, shared_bytes, shared_of}
use Rattle.start_memories.proofs.Overwrites.{with_segment_inside, with_segment_elsewhere, get_or-overwritten_inside, get_or-overwritten_before, get_or-overwritten_after}
use Rattle.start_memories.proofs.NodeLaws.{segments_below, segments_of_next, segments_of_image}
use Rattle.start_memories.proofs.SizeLaws.{ends_in_shared, first_of_all, length-with_segment, length-with_segments, others_of_all}

-- a byte of two memories after the same was done to both: the same in both, or what each had there
abbrev Settled : ℕ → List ℕ → List ℕ → List ℕ → List ℕ → Type 0
Settled k one two one_after two_after =
    (get_or one_after k 0 ≡ get_or two_after k 0) ⊎ ((get_or one_after k 0 ≡ get_or one k 0) × (get_or two_after k 0 ≡ get_or two k 0))

-- first one thing is done, and then another
settled_both : (k : ℕ) (one two one_between two_between one_after two_after : List ℕ) → Settled k one two one_between two_between →
    Settled k one_between two_between one_after two_after → Settled k one two one_after two_after
settled_both k one two one_between two_between one_after two_after first (inl same) = inl same
settled_both k one two one_between two_between one_after two_after (inl same) (inr kept) = inl (kept.0 ∙ same ∙ sym kept.1)
settled_both k one two one_between two_between one_after two_after (inr before) (inr kept) = inr (kept.0 ∙ before.0, kept.1 ∙ before.1)

module _ (private shared : ℕ) (low : private ≤ shared_base) where
  laid : (memory : List ℕ) (segment : Segment) → length memory ≡ shared → IsPlaced private shared segment → FitsItsSize segment →
      length (with_segment shared_base memory segment) ≡ shared
  laid memory segment sized placed fits =
      length-with_segment shared_base shared memory segment sized (ends_in_shared private shared low segment placed fits)

  all_laid : (memory : List ℕ) (segments : List Segment) → length memory ≡ shared → All (IsPlaced private shared) segments → All FitsItsSize segments →
      length (fold (with_segment shared_base) memory segments) ≡ shared
  all_laid = length-with_segments private shared low shared_base shared (ends_in_shared private shared low)

  -- a byte of two memories after a segment
  settled_by_segment : (k : ℕ) (one two : List ℕ) (segment : Segment) → length one ≡ shared → length two ≡ shared → IsPlaced private shared segment → FitsItsSize segment →
      Settled k one two (with_segment shared_base one segment) (with_segment shared_base two segment)
  settled_by_segment k one two segment sized same placed fits = elim (cases_lt segment.at shared_base) [
    | inl below ↦ kept (inl below) (inl below)
    | inr from ↦ elim (cases_lt segment.at (shared_base + shared)) [
      | inl under ↦ written from under
      | inr behind ↦ kept (inr (omega (arith, sized))) (inr (omega (arith, same)))
    ]
  ]
    where
      kept : (segment.at < shared_base) ⊎ (shared_base + length one ≤ segment.at) → (segment.at < shared_base) ⊎ (shared_base + length two ≤ segment.at) →
          Settled k one two (with_segment shared_base one segment) (with_segment shared_base two segment)
      kept first second =
          inr (
            ap (λ (memory : List ℕ). get_or memory k 0) (with_segment_elsewhere shared_base one segment first),
            ap (λ (memory : List ℕ). get_or memory k 0) (with_segment_elsewhere shared_base two segment second),
          )

      written : shared_base ≤ segment.at → segment.at < shared_base + shared → Settled k one two (with_segment shared_base one segment) (with_segment shared_base two segment)
      written from under =
          let at = segment.at - shared_base in
          let ends = ends_in_shared private shared low segment placed fits from under in
          let one_is : get_or (with_segment shared_base one segment) k 0 ≡ get_or (overwritten one (segment.at - shared_base) (content_of segment)) k 0 =
          ap (λ (memory : List ℕ). get_or memory k 0) (with_segment_inside shared_base one segment from (omega (arith, sized)))
          in
          let two_is : get_or (with_segment shared_base two segment) k 0 ≡ get_or (overwritten two (segment.at - shared_base) (content_of segment)) k 0 =
          ap (λ (memory : List ℕ). get_or memory k 0) (with_segment_inside shared_base two segment from (omega (arith, same)))
          in
          elim (cases_lt k (segment.at - shared_base)) [
            | inl before ↦
                inr (
                  one_is ∙ get_or-overwritten_before one (content_of segment) (segment.at - shared_base) k 0 (omega (arith, sized, ends)) before,
                  two_is ∙ get_or-overwritten_before two (content_of segment) (segment.at - shared_base) k 0 (omega (arith, same, ends)) before,
                )
            | inr here ↦ elim (cases_lt k (segment.at - shared_base + length (content_of segment))) [
              | inl inside ↦
                  inl
                  (one_is ∙ get_or-overwritten_inside one (content_of segment) (segment.at - shared_base) k 0 (omega (arith, sized, ends)) here inside
                  ∙ sym (get_or-overwritten_inside two (content_of segment) (segment.at - shared_base) k 0 (omega (arith, same, ends)) here inside)
                  ∙ sym two_is)
              | inr after ↦
                  inr (
                    one_is ∙ get_or-overwritten_after one (content_of segment) (segment.at - shared_base) k 0 (omega (arith, sized, ends)) after,
                    two_is ∙ get_or-overwritten_after two (content_of segment) (segment.at - shared_base) k 0 (omega (arith, same, ends)) after,
                  )
            ]
          ]

  -- a byte of two memories after segments
  settled_by_segments : (k : ℕ) (one two : List ℕ) (segments : List Segment) → length one ≡ shared → length two ≡ shared → All (IsPlaced private shared) segments → All FitsItsSize segments →
      Settled k one two (fold (with_segment shared_base) one segments) (fold (with_segment shared_base) two segments)
  settled_by_segments k one two [] sized same placed fits = inr (refl, refl)
  settled_by_segments k one two (segment ∷ segments) sized same placed fits =
      settled_both k one two (with_segment shared_base one segment) (with_segment shared_base two segment)
      (fold (with_segment shared_base) (with_segment shared_base one segment) segments) (fold (with_segment shared_base) (with_segment shared_base two segment) segments)
      (settled_by_segment k one two segment sized same (first_of_all (IsPlaced private shared) segment segments placed) (first_of_all FitsItsSize segment segments fits))
      (settled_by_segments k (with_segment shared_base one segment) (with_segment shared_base two segment) segments
      (laid one segment sized (first_of_all (IsPlaced private shared) segment segments placed) (first_of_all FitsItsSize segment segments fits))
      (laid two segment same (first_of_all (IsPlaced private shared) segment segments placed) (first_of_all FitsItsSize segment segments fits))
      (others_of_all (IsPlaced private shared) segment segments placed) (others_of_all FitsItsSize segment segments fits))

  -- segments that are laid again
  laid_again : (memory : List ℕ) (segments : List Segment) → length memory ≡ shared → All (IsPlaced private shared) segments → All FitsItsSize segments →
      fold (with_segment shared_base) (fold (with_segment shared_base) memory segments) segments ≡ fold (with_segment shared_base) memory segments
  laid_again memory segments sized placed fits =
      let first : length (fold (with_segment shared_base) memory segments) ≡ shared = all_laid memory segments sized placed fits in
      let second : length (fold (with_segment shared_base) (fold (with_segment shared_base) memory segments) segments) ≡ shared =
      all_laid (fold (with_segment shared_base) memory segments) segments first placed fits
      in
      same_number_lists _ _ (second ∙ sym first)
      (λ k low. settled k (settled_by_segments k memory (fold (with_segment shared_base) memory segments) segments sized first placed fits))
    where
      settled : (k : ℕ) →
          Settled k memory (fold (with_segment shared_base) memory segments) (fold (with_segment shared_base) memory segments)
          (fold (with_segment shared_base) (fold (with_segment shared_base) memory segments) segments) →
          get_or (fold (with_segment shared_base) (fold (with_segment shared_base) memory segments) segments) k 0 ≡ get_or (fold (with_segment shared_base) memory segments) k 0
      settled k (inl same) = sym same
      settled k (inr kept) = kept.1

  -- the segments of some nodes that one image serves
  once_for_all : (memory : List ℕ) (loaded : LoadedImages) (segments : List Segment) (more : ℕ) → length memory ≡ shared → All (IsPlaced private shared) segments →
      All FitsItsSize segments → ((node : ℕ) → segments_of loaded node ≡ segments) →
      fold (with_segment shared_base) memory (segments_below loaded (more + 1)) ≡ fold (with_segment shared_base) memory segments
  once_for_all memory loaded segments zero sized placed fits all =
      ap (λ (laid : List Segment). fold (with_segment shared_base) memory laid) (append-nil (segments_of loaded 0) ∙ all 0)
  once_for_all memory loaded segments (suc more) sized placed fits all =
      let next : suc more + 1 ≡ more + 1 + 1 = omega arith in
      ap (λ (nodes : ℕ). fold (with_segment shared_base) memory (segments_below loaded nodes)) next
      ∙ ap (λ (laid : List Segment). fold (with_segment shared_base) memory laid) (segments_of_next loaded (more + 1))
      ∙ fold-append (with_segment shared_base) memory (segments_below loaded (more + 1)) (segments_of loaded (more + 1))
      ∙ ap (λ (laid : List Segment). fold (with_segment shared_base) (fold (with_segment shared_base) memory (segments_below loaded (more + 1))) laid) (all (more + 1))
      ∙ ap (λ (before : List ℕ). fold (with_segment shared_base) before segments) (once_for_all memory loaded segments more sized placed fits all)
      ∙ laid_again memory segments sized placed fits

-- one image serves every node
same_for_all : (loaded : LoadedImages) (image : Image) → length loaded.images ≡ 1 → image_of loaded 0 ≡ Some image → (node : ℕ) → segments_of loaded node ≡ image.segments
same_for_all loaded image single serves node =
    let one : eqb (length loaded.images) 1 ≡ true = eq-eqb (length loaded.images) 1 single in
    segments_of_image loaded node image
    (ap (λ (b : Bool). slice_get loaded.images (cond b 0 node)) one ∙ sym (ap (λ (b : Bool). slice_get loaded.images (cond b 0 0)) one) ∙ serves)

-- so its segments, laid once, leave what the segments of all nodes leave
pub one_image_once : (machine : MachineParts) (loaded : LoadedImages) (image : Image) → IsMachine machine → IsFor machine loaded →
    length loaded.images ≡ 1 → image_of loaded 0 ≡ Some image → IsProgram loaded.private_bytes (shared_bytes loaded) image →
    fold (with_segment shared_base) (replicate (shared_bytes loaded) 0) image.segments ≡ shared_of loaded
one_image_once machine loaded image numbers images single serves program =
    let low : loaded.private_bytes ≤ shared_base = omega (arith, images.private_bytes, numbers.private_bytes.range.at_most) in
    let nodes : loaded.nodes - 1 + 1 ≡ loaded.nodes = omega (arith, images.nodes, numbers.nodes.at_least) in
    sym
    (ap (λ (count : ℕ). fold (with_segment shared_base) (replicate (shared_bytes loaded) 0) (segments_below loaded count)) (sym nodes)
    ∙ once_for_all loaded.private_bytes (shared_bytes loaded) low (replicate (shared_bytes loaded) 0) loaded image.segments (loaded.nodes - 1)
    (length-replicate (shared_bytes loaded) 0) program.placed program.bytes (same_for_all loaded image single serves))
