-- The bytes of the blocks of shared memory: where an access lies in them, and what a store leaves of them.
use Rattle.std.proofs.Common.{◌≡◌, ◌≢◌, ℕ, zero, suc, ◌+◌, ◌-◌, ◌*◌, ◌/◌, ◌%◌, ◌<◌, ◌≤◌, Bool, true, false, List, [], ◌∷◌, ◌++◌, length, take, drop, replicate, Some, None, refl, ap, sym, ◌∙◌, subst, inl, inr, arith, mod-lt, take-take, drop-drop, length-append, length-take, length-drop}
use Rattle.std.specs.Prelude.{if◌then◌else◌, fold, slice_range, nat_le, nat_lt, ◌&&◌}
use Rattle.std.proofs.lemmas.Bool.{cases_lt}
use Rattle.std.proofs.lemmas.Bool.Decides.{nat_tests}
use Rattle.std.proofs.lemmas.List.{drop-take, length-take-le, take-append-le, length-replicate}
use Rattle.std.proofs.lemmas.List.Sums.{fold-append}
use Rattle.std.proofs.lemmas.Slice.{drop-put_mid}
use Rattle.std.proofs.Math.Seq.{take-append-add, take-length}
use Rattle.wt_params.specs.declared.parts.MachineParts.{MachineParts}
use Rattle.wt_params.specs.Machine.{IsMachine, IsBlockSize, shared_base, shared_block, block_address}
use Rattle.priv_mem.specs.Memory.{overwritten, low_bytes}
use Rattle.priv_mem.proofs.MemoryLaws.{length-low_bytes, length-overwritten}
use Rattle.target_cache.proofs.FlatLaws.{place_fits, part_of_line, line_size}
use Rattle.image_loader.specs.Images.{LoadedImages, IsFor}
use Rattle.image_loader.specs.Loading.{AreLoaded, block_of, segments_of, shared_bytes, shared_of, with_segment, with_segments}
use Rattle.image_loader.proofs.Served.{is_served}
use Rattle.start_memories.proofs.NodeLaws.{segments_below, segments_of_next, segments_of_image}
use Rattle.start_memories.proofs.SizeLaws.{ends_in_shared, length-with_segments}
use Rattle.node.specs.SharedAccess.{offset_of}
use Rattle.node.proofs.Accesses.{block_exists}
use Rattle.wt_trace.specs.declared.record.Deed.{Deed}
use Rattle.wt_trace.specs.declared.record.Deed.TheVariants.{Plain, Loaded, Stored, Stopped}
use Rattle.coherence.specs.Traces.{is_shared, bytes_from, with_number, bytes_of, stored_by}

-- ---- a list that is overwritten, and a part of it

-- one element on
overwritten-cons : (x : ℕ) (memory new : List ℕ) (at : ℕ) → overwritten (x ∷ memory) (suc at) new ≡ x ∷ overwritten memory at new
overwritten-cons x memory new at =
    let on : suc at + length new ≡ suc (at + length new) = omega arith in
    ap (λ (n : ℕ). (x ∷ take at memory) ++ (new ++ drop n (x ∷ memory))) on

-- what lies behind a place that comes first
pub drop_first : (place : ℕ) (memory new : List ℕ) (at : ℕ) → place ≤ length memory →
    drop place (overwritten memory (place + at) new) ≡ overwritten (drop place memory) at new
drop_first zero memory new at inside = let none : zero + at ≡ at = omega arith in ap (λ (n : ℕ). overwritten memory n new) none
drop_first (suc place) [] new at inside = absurd (omega arith)
drop_first (suc place) (x ∷ memory) new at inside =
    let on : suc place + at ≡ suc (place + at) = omega arith in
    ap (λ (n : ℕ). drop (suc place) (overwritten (x ∷ memory) n new)) on
    ∙ ap (λ (l : List ℕ). drop (suc place) l) (overwritten-cons x memory new (place + at))
    ∙ drop_first place memory new at (omega arith)

-- and what lies before it
pub take_first : (place : ℕ) (memory new : List ℕ) (at : ℕ) → place ≤ length memory →
    take place (overwritten memory (place + at) new) ≡ take place memory
take_first zero memory new at inside = refl
take_first (suc place) [] new at inside = absurd (omega arith)
take_first (suc place) (x ∷ memory) new at inside =
    let on : suc place + at ≡ suc (place + at) = omega arith in
    ap (λ (n : ℕ). take (suc place) (overwritten (x ∷ memory) n new)) on
    ∙ ap (λ (l : List ℕ). take (suc place) l) (overwritten-cons x memory new (place + at))
    ∙ ap (λ (l : List ℕ). x ∷ l) (take_first place memory new at (omega arith))

-- what lies behind all that is written
pub drop_last : (place : ℕ) (memory new : List ℕ) (at : ℕ) → at + length new ≤ place → at ≤ length memory →
    drop place (overwritten memory at new) ≡ drop place memory
drop_last place memory new at behind inside =
    ap (λ (back : List ℕ). drop place (take at memory ++ (new ++ back))) (sym (drop-drop (length new) at memory))
    ∙ drop-put_mid at (length new) memory new place behind inside refl

-- what is written lies in the first of the list
take_parts : (front new back : List ℕ) (n m : ℕ) → length front ≡ n → take (n + (length new + m)) (front ++ (new ++ back)) ≡ front ++ (new ++ take m back)
take_parts front new back n m e =
    subst (λ (k : ℕ). take (k + (length new + m)) (front ++ (new ++ back)) ≡ front ++ (new ++ take m back)) e
    (take-append-add front (new ++ back) (length new + m) ∙ ap (λ (rest : List ℕ). front ++ rest) (take-append-add new back m))

pub take_over : (size : ℕ) (memory new : List ℕ) (at : ℕ) → at + length new ≤ size → size ≤ length memory →
    take size (overwritten memory at new) ≡ overwritten (take size memory) at new
take_over size memory new at inside fits =
    let rest = size - at - length new in
    let whole : size ≡ at + (length new + rest) = omega arith in
    let parts : at + length new + rest ≡ size = omega arith in
    ap (λ (n : ℕ). take n (overwritten memory at new)) whole
    ∙ take_parts (take at memory) new (drop (at + length new) memory) at rest (length-take-le at memory (omega arith))
    ∙ ap (λ (front : List ℕ). front ++ (new ++ take rest (drop (at + length new) memory))) (sym (take-take at size memory (omega arith)))
    ∙ ap (λ (back : List ℕ). take at (take size memory) ++ (new ++ back)) (sym (drop-take (at + length new) rest memory))
    ∙ ap (λ (n : ℕ). take at (take size memory) ++ (new ++ drop (at + length new) (take n memory))) parts

-- a part of the list that all of it is written into
pub part_over : (place size : ℕ) (memory new : List ℕ) (at : ℕ) → at + length new ≤ size → place + size ≤ length memory →
    take size (drop place (overwritten memory (place + at) new)) ≡ overwritten (take size (drop place memory)) at new
part_over place size memory new at inside fits =
    ap (λ (l : List ℕ). take size l) (drop_first place memory new at (omega arith))
    ∙ take_over size (drop place memory) new at inside (omega (arith, length-drop place memory))

-- a part before what is written
pub part_before : (place size : ℕ) (memory new : List ℕ) (at : ℕ) → place + size ≤ at → place + size ≤ length memory →
    take size (drop place (overwritten memory at new)) ≡ take size (drop place memory)
part_before place size memory new at before fits =
    let far = at - place - size in
    let one : at ≡ place + (size + far) = omega arith in
    ap (λ (n : ℕ). take size (drop place (overwritten memory n new))) one
    ∙ ap (λ (l : List ℕ). take size l) (drop_first place memory new (size + far) (omega arith))
    ∙ take_first size (drop place memory) new far (omega (arith, length-drop place memory))

-- a part behind it
pub part_behind : (place size : ℕ) (memory new : List ℕ) (at : ℕ) → at + length new ≤ place → at ≤ length memory →
    take size (drop place (overwritten memory at new)) ≡ take size (drop place memory)
part_behind place size memory new at behind inside = ap (λ (l : List ℕ). take size l) (drop_last place memory new at behind inside)

-- ---- stores keep the memory's size

pub size_kept : (memory : List ℕ) (place width number : ℕ) → length (with_number memory place width number) ≡ length memory
size_kept memory place width number =
    let new = low_bytes width number in
    length-take-le (length memory) (overwritten memory place new)
    (omega (
      arith,
      length-append (take place memory) (new ++ drop (place + length new) memory),
      length-append new (drop (place + length new) memory),
      length-take place memory,
      length-drop (place + length new) memory,
    ))

-- bytes that lie in the memory are all written
pub all_written : (memory : List ℕ) (place width number : ℕ) → place + width ≤ length memory →
    with_number memory place width number ≡ overwritten memory place (low_bytes width number)
all_written memory place width number inside =
    let new = low_bytes width number in
    let long : length (overwritten memory place new) ≡ length memory =
    length-overwritten memory new place (omega (arith, length-low_bytes width number))
    in
    ap (λ (n : ℕ). take n (overwritten memory place new)) (sym long) ∙ take-length (overwritten memory place new)

pub stored_size : (memory : List ℕ) (deed : Deed) → length (stored_by deed memory) ≡ length memory
stored_size memory Plain = refl
stored_size memory (Loaded address value) = refl
stored_size memory (Stopped cause) = refl
stored_size memory (Stored address width value) = by (is_shared address)
  where
    by : (shared : Bool) → length (if shared then with_number memory (address - shared_base) width value else memory) ≡ length memory
    by true = size_kept memory (address - shared_base) width value
    by false = refl

-- ---- where an address lies

some_bytes : (size : ℕ) → IsBlockSize size → 0 < size
some_bytes size (inl is) = omega (arith, is)
some_bytes size (inr (inl is)) = omega (arith, is)
some_bytes size (inr (inr (inl is))) = omega (arith, is)
some_bytes size (inr (inr (inr is))) = omega (arith, is)

-- shared memory begins at a multiple of every block's length
place_in : (size address : ℕ) → IsBlockSize size → shared_base ≤ address → address - shared_base ≡ (address - shared_base) / size * size + address % size
place_in size address (inl is) from = grind arith
place_in size address (inr (inl is)) from = grind arith
place_in size address (inr (inr (inl is))) from = grind arith
place_in size address (inr (inr (inr is))) from = grind arith

from_base : (address last : ℕ) → (nat_le shared_base address && nat_lt address last) ≡ true → (nat_le shared_base address ≡ true) × (shared_base ≤ address)
from_base address last e = (grind (arith, nat_tests), grind (arith, nat_tests))

pub block_of_address : (machine : MachineParts) → IsMachine machine → (address block : ℕ) → shared_block machine address ≡ Some block →
    (is_shared address ≡ true) × (block < machine.blocks) × (address - shared_base ≡ block * machine.block_bytes + offset_of machine address) × (offset_of machine address < machine.block_bytes)
block_of_address machine is address block there = by (nat_le shared_base address && nat_lt address (block_address machine machine.blocks)) refl
  where
    by : (b : Bool) → (nat_le shared_base address && nat_lt address (block_address machine machine.blocks)) ≡ b →
        (is_shared address ≡ true) × (block < machine.blocks) × (address - shared_base ≡ block * machine.block_bytes + offset_of machine address) × (offset_of machine address < machine.block_bytes)
    by true e =
        let f : Some ((address - shared_base) / machine.block_bytes) ≡ Some block = rw e at there in
        let at : (address - shared_base) / machine.block_bytes ≡ block = cc in
        let low = from_base address (block_address machine machine.blocks) e in (
          low.0,
          block_exists machine address block is.block_bytes there,
          place_in machine.block_bytes address is.block_bytes low.1 ∙ ap (λ (b : ℕ). b * machine.block_bytes + address % machine.block_bytes) at,
          mod-lt address (some_bytes machine.block_bytes is.block_bytes),
        )
    by false e = absurd (let f : None ≡ Some block = rw e at there in cc)

-- ---- blocks

module _ (machine : MachineParts) (is : IsMachine machine) (memory : List ℕ) (size : length memory ≡ machine.blocks * machine.block_bytes) where
  block_fits : (block : ℕ) → block < machine.blocks → block * machine.block_bytes + machine.block_bytes ≤ length memory
  block_fits block exists = place_fits block machine.blocks machine.block_bytes (length memory) exists (omega (arith, size))

  bytes_are : (items : List ℕ) (block : ℕ) → bytes_of machine items block ≡ take machine.block_bytes (drop (block * machine.block_bytes) items)
  bytes_are items block =
      let one : block * machine.block_bytes + machine.block_bytes - block * machine.block_bytes ≡ machine.block_bytes = omega arith in
      ap (λ (n : ℕ). take n (drop (block * machine.block_bytes) items)) one

  pub bytes_size : (block : ℕ) → block < machine.blocks → length (bytes_of machine memory block) ≡ machine.block_bytes
  bytes_size block exists =
      ap (λ (l : List ℕ). length l) (bytes_are memory block)
      ∙ line_size memory machine.block_bytes (block * machine.block_bytes) (block_fits block exists)

  pub read_in_block : (address width block : ℕ) → shared_block machine address ≡ Some block → offset_of machine address + width ≤ machine.block_bytes →
      bytes_from memory (address - shared_base) width ≡ slice_range (bytes_of machine memory block) (offset_of machine address) (offset_of machine address + width)
  read_in_block address width block there inside =
      let of = block_of_address machine is address block there in
      let at = block * machine.block_bytes in
      let offset = offset_of machine address in
      let fits = block_fits block of.1 in
      let long : width ≡ at + offset + width - (at + offset) = omega arith in
      ap (λ (place : ℕ). bytes_from memory place width) of.2
      ∙ take-append-le width (drop (at + offset) memory) (replicate width 0) (omega (arith, length-drop (at + offset) memory, inside, fits))
      ∙ ap (λ (n : ℕ). take n (drop (at + offset) memory)) long
      ∙ sym (part_of_line memory machine.block_bytes at offset width inside)
      ∙ ap (λ (l : List ℕ). slice_range l offset (offset + width)) (sym (bytes_are memory block))

  -- a store that lies in a block
  written_at : (address width number block : ℕ) → shared_block machine address ≡ Some block → offset_of machine address + width ≤ machine.block_bytes →
      with_number memory (address - shared_base) width number ≡ overwritten memory (block * machine.block_bytes + offset_of machine address) (low_bytes width number)
  written_at address width number block there inside =
      let of = block_of_address machine is address block there in
      let fits = block_fits block of.1 in
      ap (λ (place : ℕ). with_number memory place width number) of.2
      ∙ all_written memory (block * machine.block_bytes + offset_of machine address) width number (omega (arith, inside, fits))

  pub stored_in_block : (address width number block : ℕ) → shared_block machine address ≡ Some block → offset_of machine address + width ≤ machine.block_bytes →
      bytes_of machine (with_number memory (address - shared_base) width number) block ≡ overwritten (bytes_of machine memory block) (offset_of machine address) (low_bytes width number)
  stored_in_block address width number block there inside =
      let of = block_of_address machine is address block there in
      let at = block * machine.block_bytes in
      let new = low_bytes width number in
      ap (λ (l : List ℕ). bytes_of machine l block) (written_at address width number block there inside)
      ∙ bytes_are (overwritten memory (at + offset_of machine address) new) block
      ∙ part_over at machine.block_bytes memory new (offset_of machine address) (omega (arith, length-low_bytes width number, inside)) (block_fits block of.1)
      ∙ ap (λ (l : List ℕ). overwritten l (offset_of machine address) new) (sym (bytes_are memory block))

  pub stored_in_another : (address width number block : ℕ) → shared_block machine address ≡ Some block → offset_of machine address + width ≤ machine.block_bytes →
      (other : ℕ) → other < machine.blocks → other ≢ block →
      bytes_of machine (with_number memory (address - shared_base) width number) other ≡ bytes_of machine memory other
  stored_in_another address width number block there inside other exists apart =
      let of = block_of_address machine is address block there in
      let at = block * machine.block_bytes in
      let from = other * machine.block_bytes in
      let new = low_bytes width number in
      let long = length-low_bytes width number in
      let fits = block_fits block of.1 in
      ap (λ (l : List ℕ). bytes_of machine l other) (written_at address width number block there inside)
      ∙ bytes_are (overwritten memory (at + offset_of machine address) new) other
      ∙ elim (cases_lt other block) [
        | inl before ↦
            let ends = place_fits other block machine.block_bytes at before (omega arith) in
            part_before from machine.block_bytes memory new (at + offset_of machine address) (omega (arith, ends)) (block_fits other exists)
        | inr behind ↦
            let ends = place_fits block other machine.block_bytes from (omega (arith, apart)) (omega arith) in
            part_behind from machine.block_bytes memory new (at + offset_of machine address) (omega (arith, ends, long, inside)) (omega (arith, fits, inside))
      ]
      ∙ sym (bytes_are memory other)

-- ---- the start

module _ (loaded : LoadedImages) (are : AreLoaded loaded) (low : loaded.private_bytes ≤ shared_base) where
  size_below : (count : ℕ) → count ≤ loaded.nodes → length (with_segments shared_base (shared_bytes loaded) (segments_below loaded count)) ≡ shared_bytes loaded
  size_below zero within = length-replicate (shared_bytes loaded) 0
  size_below (suc n) within =
      let served = is_served loaded n are (omega arith) in
      let next : suc n ≡ n + 1 = omega arith in
      ap (λ (count : ℕ). length (with_segments shared_base (shared_bytes loaded) (segments_below loaded count))) next
      ∙ ap (λ segments. length (with_segments shared_base (shared_bytes loaded) segments)) (segments_of_next loaded n)
      ∙ ap (λ (l : List ℕ). length l) (fold-append (with_segment shared_base) (replicate (shared_bytes loaded) 0) (segments_below loaded n) (segments_of loaded n))
      ∙ ap (λ segments. length (fold (with_segment shared_base) (with_segments shared_base (shared_bytes loaded) (segments_below loaded n)) segments)) (segments_of_image loaded n served.image served.found)
      ∙ length-with_segments loaded.private_bytes (shared_bytes loaded) low shared_base (shared_bytes loaded) (ends_in_shared loaded.private_bytes (shared_bytes loaded) low)
      (with_segments shared_base (shared_bytes loaded) (segments_below loaded n)) served.image.segments (size_below n (omega arith)) served.program.placed served.program.bytes

  pub start_size : length (shared_of loaded) ≡ loaded.blocks * loaded.block_bytes
  start_size = size_below loaded.nodes (omega arith)

pub start_bytes : (machine : MachineParts) (loaded : LoadedImages) → IsFor machine loaded → (block : ℕ) → bytes_of machine (shared_of loaded) block ≡ block_of loaded block
start_bytes machine loaded for block = ap (λ (n : ℕ). slice_range (shared_of loaded) (block * n) (block * n + n)) (sym for.block_bytes)
