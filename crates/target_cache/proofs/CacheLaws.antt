-- The laws of a cache for those that hold one: what stays true of its lines, and the lines and tags of blocks after a
-- write, a drop and an install.
use Rattle.std.proofs.Common.{◌≡◌, ◌≢◌, ℕ, suc, ◌+◌, ◌<◌, ◌≤◌, List, [], ◌∷◌, length, Some, None, refl, ap, sym, ◌∙◌, subst, inl, inr, arith, mod-lt}
use Rattle.std.specs.List.{find, All, slice_index_or}
use Rattle.std.proofs.lemmas.Bool.{cases_Bool, cases_eq, cases_lt, eqb-true}
use Rattle.wt_params.specs.declared.parts.MachineParts.{MachineParts}
use Rattle.block_tags.specs.declared.tag.Tag.{Tag}
use Rattle.block_tags.specs.declared.tag.Tag.TheVariants.{Invalid, ReadOnly, Writable}
use Rattle.target_cache.specs.declared.line.Line.{Line}
use Rattle.target_cache.specs.Lines.{holds, tag_by, with_written, without, with_installed}
use Rattle.target_cache.specs.Cached.{Cached, IsCached, AreLines, LineFits, set_of, lines_of, line_of, tag_of, write_of, written_by, drop_of, install_of}
use Rattle.target_cache.proofs.LineLaws.{free_way_takes, full_set_takes, dropped_is_gone, drop_keeps_others, write_keeps_tags, added_is_found}
use Rattle.target_cache.proofs.SetLaws.{lines-without, lines-written, lines-installed, absent_rest}
use Rattle.target_cache.proofs.CachedLaws.{HasSet, same_set, other_set, still_cached}
use Rattle.target_cache.proofs.KeptLaws.{invalid_is_none}

-- every block has its set
pub has_its_set : (cache : Cached) (block : ℕ) → IsCached cache → 1 ≤ cache.machine.sets → HasSet cache block
has_its_set cache block is some = record { there = omega (arith, is.count, mod-lt block some) }

lines_are : (cache : Cached) (block : ℕ) → IsCached cache → 1 ≤ cache.machine.sets → AreLines cache.machine (set_of cache.machine block) (lines_of cache block)
lines_are cache block is some = is.lines (set_of cache.machine block) (mod-lt block some)

-- a drop leaves a cache
pub cached_after_drop : (cache : Cached) (block : ℕ) → IsCached cache → 1 ≤ cache.machine.sets → IsCached (drop_of block cache)
unfolding drop_of
cached_after_drop cache block is some =
    still_cached cache block (without block (lines_of cache block)) (has_its_set cache block is some) is
    (lines-without cache.machine (set_of cache.machine block) block (lines_of cache block) (lines_are cache block is some))

-- so does a write
pub cached_after_write : (cache : Cached) (block offset width value : ℕ) → IsCached cache → 1 ≤ cache.machine.sets → offset + width ≤ cache.machine.block_bytes →
    IsCached (write_of block offset width value cache)
unfolding write_of
cached_after_write cache block offset width value is some inside = by_tag (tag_of cache block)
  where
    by_tag : (tag : Tag) → IsCached (written_by tag block offset width value cache)
    by_tag Invalid = is
    by_tag ReadOnly = is
    by_tag Writable =
        still_cached cache block (with_written block offset width value (lines_of cache block)) (has_its_set cache block is some) is
        (lines-written cache.machine (set_of cache.machine block) block offset width value (lines_of cache block) inside (lines_are cache block is some))

-- and an install of a line of a block that had none
pub cached_after_install : (cache : Cached) (line : Line) → IsCached cache → 1 ≤ cache.machine.sets → 1 ≤ cache.machine.ways → line.block < cache.machine.blocks →
    length line.bytes ≡ cache.machine.block_bytes → tag_of cache line.block ≡ Invalid → IsCached (install_of line cache)
unfolding install_of line_of
cached_after_install cache line is some ways exists size absent =
    still_cached cache line.block (with_installed cache.machine.ways line (lines_of cache line.block)) (has_its_set cache line.block is some) is
    (lines-installed cache.machine (set_of cache.machine line.block) line (lines_of cache line.block) (record { exists = exists; here = refl; size = size }) ways
    (invalid_is_none (find (holds line.block) (lines_of cache line.block)) absent) (lines_are cache line.block is some))

-- a dropped block has no line
pub none_after_drop : (cache : Cached) (block : ℕ) → IsCached cache → 1 ≤ cache.machine.sets → line_of (drop_of block cache) block ≡ None
unfolding drop_of line_of
none_after_drop cache block is some =
    ap (λ (lines : List Line). find (holds block) lines) (same_set cache block block (without block (lines_of cache block)) (has_its_set cache block is some) refl)
    ∙ dropped_is_gone block (lines_of cache block)

-- and every other block has the line that it had
pub others_after_drop : (cache : Cached) (block other : ℕ) → IsCached cache → 1 ≤ cache.machine.sets → other ≢ block →
    line_of (drop_of block cache) other ≡ line_of cache other
unfolding drop_of line_of
others_after_drop cache block other is some apart = elim (cases_eq (set_of cache.machine other) (set_of cache.machine block)) [
  | inl same ↦
      ap (λ (lines : List Line). find (holds other) lines) (same_set cache block other (without block (lines_of cache block)) (has_its_set cache block is some) same)
      ∙ drop_keeps_others block other (lines_of cache block) apart
      ∙ ap (λ (lines : List Line). find (holds other) lines) (ap (λ (at : ℕ). slice_index_or cache.sets at []) (sym same))
  | inr set_apart ↦ ap (λ (lines : List Line). find (holds other) lines) (other_set cache block other (without block (lines_of cache block)) set_apart)
]

-- a write leaves every tag as it was
pub tags_after_write : (cache : Cached) (block offset width value other : ℕ) → IsCached cache → 1 ≤ cache.machine.sets →
    tag_of (write_of block offset width value cache) other ≡ tag_of cache other
unfolding write_of line_of
tags_after_write cache block offset width value other is some = by_tag (tag_of cache block)
  where
    by_tag : (tag : Tag) → tag_of (written_by tag block offset width value cache) other ≡ tag_of cache other
    by_tag Invalid = refl
    by_tag ReadOnly = refl
    by_tag Writable = elim (cases_eq (set_of cache.machine other) (set_of cache.machine block)) [
      | inl same ↦
          ap (λ (lines : List Line). tag_by (find (holds other) lines)) (same_set cache block other (with_written block offset width value (lines_of cache block)) (has_its_set cache block is some) same)
          ∙ write_keeps_tags block offset width value other (lines_of cache block)
          ∙ ap (λ (lines : List Line). tag_by (find (holds other) lines)) (ap (λ (at : ℕ). slice_index_or cache.sets at []) (sym same))
      | inr set_apart ↦ ap (λ (lines : List Line). tag_by (find (holds other) lines)) (other_set cache block other (with_written block offset width value (lines_of cache block)) set_apart)
    ]

-- an installed line is there
found_installed : (ways : ℕ) (line : Line) (lines : List Line) → 1 ≤ ways → find (holds line.block) lines ≡ None →
    find (holds line.block) (with_installed ways line lines) ≡ Some line
found_installed ways line [] some none = rw (free_way_takes ways line [] (omega arith)) (added_is_found line [] refl)
found_installed ways line (first ∷ rest) some none = elim (cases_lt (length (first ∷ rest)) ways) [
  | inl free ↦ rw (free_way_takes ways line (first ∷ rest) free) (added_is_found line (first ∷ rest) none)
  | inr full ↦ rw (full_set_takes ways line (first ∷ rest) full) (added_is_found line rest (absent_rest line.block first rest none))
]

pub line_after_install : (cache : Cached) (line : Line) → IsCached cache → 1 ≤ cache.machine.sets → 1 ≤ cache.machine.ways → tag_of cache line.block ≡ Invalid →
    line_of (install_of line cache) line.block ≡ Some line
unfolding install_of line_of
line_after_install cache line is some ways absent =
    ap (λ (lines : List Line). find (holds line.block) lines)
    (same_set cache line.block line.block (with_installed cache.machine.ways line (lines_of cache line.block)) (has_its_set cache line.block is some) refl)
    ∙ found_installed cache.machine.ways line (lines_of cache line.block) ways (invalid_is_none (find (holds line.block) (lines_of cache line.block)) absent)

-- the machine stays
pub machine_after_write : (cache : Cached) (block offset width value : ℕ) → (write_of block offset width value cache).machine ≡ cache.machine
unfolding write_of
machine_after_write cache block offset width value = by_tag (tag_of cache block)
  where
    by_tag : (tag : Tag) → (written_by tag block offset width value cache).machine ≡ cache.machine
    by_tag Invalid = refl
    by_tag ReadOnly = refl
    by_tag Writable = refl

pub machine_after_drop : (cache : Cached) (block : ℕ) → (drop_of block cache).machine ≡ cache.machine
unfolding drop_of
machine_after_drop cache block = refl

pub machine_after_install : (cache : Cached) (line : Line) → (install_of line cache).machine ≡ cache.machine
unfolding install_of
machine_after_install cache line = refl

-- the line of a block is one of that block, as long as a block
found_line : (machine : MachineParts) (number block : ℕ) (lines : List Line) (line : Line) → All (LineFits machine number) lines → find (holds block) lines ≡ Some line →
    (line.block ≡ block) × (length line.bytes ≡ machine.block_bytes)
found_line machine number block [] line fit is = absurd (let e : None ≡ Some line = is in cc)
found_line machine number block (first ∷ rest) line fit is = found_step (found_line machine number block rest line (λ k d below. fit (suc k) d (omega arith)))
  where
    found_step : (find (holds block) rest ≡ Some line → (line.block ≡ block) × (length line.bytes ≡ machine.block_bytes)) → (line.block ≡ block) × (length line.bytes ≡ machine.block_bytes)
    found_step later = elim (cases_Bool (holds block first)) [
      | inl here ↦
          let e : Some first ≡ Some line = rw here at is in
          let same : first ≡ line = cc in
          let fits : LineFits machine number first = fit 0 first (omega arith) in
          (subst (λ (l : Line). l.block ≡ block) same (eqb-true first.block block here), subst (λ (l : Line). length l.bytes ≡ machine.block_bytes) same fits.size)
      | inr past ↦ later (rw past at is)
    ]

pub line_is_of_block : (cache : Cached) (block : ℕ) (line : Line) → IsCached cache → 1 ≤ cache.machine.sets → line_of cache block ≡ Some line →
    (line.block ≡ block) × (length line.bytes ≡ cache.machine.block_bytes)
unfolding line_of
line_is_of_block cache block line is some held =
    let are = lines_are cache block is some in
    found_line cache.machine (set_of cache.machine block) block (lines_of cache block) line are.fit held
