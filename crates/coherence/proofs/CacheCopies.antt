-- A node's copy of a block after its cache has dropped, written or installed a line.
use Rattle.std.proofs.Common.{◌≡◌, ◌≢◌, ℕ, suc, ◌≤◌, Bool, true, false, List, [], ◌∷◌, length, filter, Option, Some, None, refl, ap, sym, ◌∙◌, subst, inl, inr, arith, mod-lt, eqb}
use Rattle.std.specs.List.{find, All, slice_index_or}
use Rattle.std.specs.Prelude.{if◌then◌else◌}
use Rattle.std.proofs.lemmas.Bool.{cases_Bool, cases_eq, cases_lt, eqb-true, eq-eqb, ne_eqb}
use Rattle.wt_params.specs.declared.parts.MachineParts.{MachineParts}
use Rattle.block_tags.specs.declared.tag.Tag.{Tag}
use Rattle.block_tags.specs.declared.tag.Tag.TheVariants.{Invalid, ReadOnly, Writable}
use Rattle.target_cache.specs.declared.line.Line.{Line}
use Rattle.target_cache.specs.Lines.{AreDistinct, holds, tag_by, written_line, with_written, replaced_in, with_installed}
use Rattle.target_cache.specs.Cached.{Cached, IsCached, LineFits, set_of, lines_of, line_of, tag_of, write_of, written_by, replaced_of, install_of, drop_of}
use Rattle.target_cache.proofs.LineLaws.{free_way_takes, free_way_replaces, full_set_takes, full_set_replaces, add_keeps_others}
use Rattle.target_cache.proofs.CachedLaws.{same_set, other_set}
use Rattle.target_cache.proofs.CacheLaws.{has_its_set, none_after_drop, others_after_drop}
use Rattle.coherence.specs.Block.{Copy}
use Rattle.coherence.specs.Deals.{copy_by, copy_of}

-- ---- copies and tags

pub copy_none : (line : Option Line) → tag_by line ≡ Invalid → copy_by line ≡ None
copy_none None is = refl
copy_none (Some line) is = by line.writable is
  where
    by : (writable : Bool) → (if writable then Writable else ReadOnly) ≡ Invalid → copy_by (Some line) ≡ None
    by true e = absurd cc
    by false e = absurd cc

pub copy_readonly : (line : Option Line) → tag_by line ≡ ReadOnly → (bytes : List ℕ) × (copy_by line ≡ Some (record { writable = false; bytes = bytes }))
copy_readonly None is = absurd cc
copy_readonly (Some line) is = (line.bytes, ap (λ (w : Bool). let copy : Copy = record { writable = w; bytes = line.bytes } in Some copy) (by line.writable is))
  where
    by : (writable : Bool) → (if writable then Writable else ReadOnly) ≡ ReadOnly → writable ≡ false
    by true e = absurd cc
    by false e = refl

pub line_writable : (line : Option Line) → tag_by line ≡ Writable → (held : Line) × (line ≡ Some held) × (held.writable ≡ true)
line_writable None is = absurd cc
line_writable (Some line) is = (line, refl, by line.writable is)
  where
    by : (writable : Bool) → (if writable then Writable else ReadOnly) ≡ Writable → writable ≡ true
    by true e = refl
    by false e = absurd cc

-- ---- a drop

pub copy_dropped : (cache : Cached) (block : ℕ) → IsCached cache → 1 ≤ cache.machine.sets → copy_of (drop_of block cache) block ≡ None
copy_dropped cache block is some = ap copy_by (none_after_drop cache block is some)

pub other_dropped : (cache : Cached) (block other : ℕ) → IsCached cache → 1 ≤ cache.machine.sets → other ≢ block →
    copy_of (drop_of block cache) other ≡ copy_of cache other
other_dropped cache block other is some apart = ap copy_by (others_after_drop cache block other is some apart)

-- ---- a write

written_found : (block offset width value : ℕ) (lines : List Line) (line : Line) → find (holds block) lines ≡ Some line →
    find (holds block) (with_written block offset width value lines) ≡ Some (written_line offset width value line)
unfolding with_written
written_found block offset width value [] line is = absurd (let e : None ≡ Some line = is in cc)
written_found block offset width value (first ∷ rest) line is = elim (cases_Bool (holds block first)) [
  | inl here ↦
      let e : Some first ≡ Some line = rw here at is in
      let same : first ≡ line = cc in
      rw (here, here) (ap (λ (l : Line). Some (written_line offset width value l)) same)
  | inr past ↦ rw (past, past) (written_found block offset width value rest line (rw past at is))
]

others_found : (block offset width value other : ℕ) (lines : List Line) → other ≢ block →
    find (holds other) (with_written block offset width value lines) ≡ find (holds other) lines
unfolding with_written
others_found block offset width value other [] apart = refl
others_found block offset width value other (first ∷ rest) apart = elim (cases_Bool (holds block first)) [
  | inl here ↦
      let not_other : eqb first.block other ≡ false = ne_eqb first.block other (λ e. apart (sym e ∙ eqb-true first.block block here)) in
      rw (here, not_other) (others_found block offset width value other rest apart)
  | inr past ↦ elim (cases_Bool (holds other first)) [
    | inl at ↦ rw (past, at) refl
    | inr at ↦ rw (past, at) (others_found block offset width value other rest apart)
  ]
]

pub line_written : (cache : Cached) (block offset width value : ℕ) (line : Line) → IsCached cache → 1 ≤ cache.machine.sets →
    line_of cache block ≡ Some line → line.writable ≡ true →
    line_of (write_of block offset width value cache) block ≡ Some (written_line offset width value line)
unfolding write_of line_of
line_written cache block offset width value line is some held writable =
    rw (ap tag_by held ∙ tag)
    (ap (λ (lines : List Line). find (holds block) lines) (same_set cache block block (with_written block offset width value (lines_of cache block)) (has_its_set cache block is some) refl)
    ∙ written_found block offset width value (lines_of cache block) line held)
  where
    tag : tag_by (Some line) ≡ Writable
    tag = rw writable refl

pub other_written : (cache : Cached) (block offset width value other : ℕ) → IsCached cache → 1 ≤ cache.machine.sets → other ≢ block →
    copy_of (write_of block offset width value cache) other ≡ copy_of cache other
unfolding write_of line_of
other_written cache block offset width value other is some apart = by_tag (tag_of cache block)
  where
    by_tag : (tag : Tag) → copy_of (written_by tag block offset width value cache) other ≡ copy_of cache other
    by_tag Invalid = refl
    by_tag ReadOnly = refl
    by_tag Writable = elim (cases_eq (set_of cache.machine other) (set_of cache.machine block)) [
      | inl same ↦
          ap (λ (lines : List Line). copy_by (find (holds other) lines)) (same_set cache block other (with_written block offset width value (lines_of cache block)) (has_its_set cache block is some) same)
          ∙ ap copy_by (others_found block offset width value other (lines_of cache block) apart)
          ∙ ap (λ (lines : List Line). copy_by (find (holds other) lines)) (ap (λ (at : ℕ). slice_index_or cache.sets at []) (sym same))
      | inr set_apart ↦ ap (λ (lines : List Line). copy_by (find (holds other) lines)) (other_set cache block other (with_written block offset width value (lines_of cache block)) set_apart)
    ]

-- ---- an install

-- a copy of a block beside the line that another one replaces
pub record IsReplaced (block : ℕ) (replaced : Option Line) (before after : Option Line) : Type 0 where
  pub kept : (replaced ≡ None) → after ≡ before
  pub gone : (old : Line) → replaced ≡ Some old → old.block ≡ block → (before ≡ Some old) × (after ≡ None)
  pub other : (old : Line) → replaced ≡ Some old → (old.block ≢ block) → after ≡ before

-- no second line of a block is behind the first
none_behind : (first : Line) (rest : List Line) → AreDistinct (first ∷ rest) → find (holds first.block) rest ≡ None
none_behind first rest distinct = by rest (let one : length (filter (holds first.block) (first ∷ rest)) ≤ 1 = distinct first.block in
    let none : suc (length (filter (holds first.block) rest)) ≤ 1 = rw (eq-eqb first.block first.block refl) at one in omega arith)
  where
    by : (lines : List Line) → length (filter (holds first.block) lines) ≤ 0 → find (holds first.block) lines ≡ None
    by [] few = refl
    by (line ∷ lines) few = elim (cases_Bool (holds first.block line)) [
      | inl is ↦ absurd (let f : suc (length (filter (holds first.block) lines)) ≤ 0 = rw is at few in omega arith)
      | inr is ↦ rw is (by lines (rw is at few))
    ]

lines_installed : (ways block : ℕ) (line : Line) (lines : List Line) → 1 ≤ ways → AreDistinct lines → (block ≢ line.block) →
    IsReplaced block (replaced_in ways lines) (find (holds block) lines) (find (holds block) (with_installed ways line lines))
lines_installed ways block line [] some distinct apart = rw (free_way_takes ways line [] (omega arith), free_way_replaces ways [] (omega arith)) (record {
  kept = λ none. add_keeps_others block line [] apart;
  gone = λ old is same. absurd (let e : None ≡ Some old = is in cc);
  other = λ old is differ. absurd (let e : None ≡ Some old = is in cc);
})
lines_installed ways block line (first ∷ rest) some distinct apart = elim (cases_lt (length (first ∷ rest)) ways) [
  | inl free ↦ rw (free_way_takes ways line (first ∷ rest) free, free_way_replaces ways (first ∷ rest) free) (record {
    kept = λ none. add_keeps_others block line (first ∷ rest) apart;
    gone = λ old is same. absurd (let e : None ≡ Some old = is in cc);
    other = λ old is differ. absurd (let e : None ≡ Some old = is in cc);
  })
  | inr full ↦ rw (full_set_takes ways line (first ∷ rest) full, full_set_replaces ways (first ∷ rest) full) (record {
    kept = λ none. absurd (let e : Some first ≡ None = none in cc);
    gone = λ old is same.
        let e : Some first ≡ Some old = is in
        let f : first ≡ old = cc in
        let at : first.block ≡ block = ap (λ (l : Line). l.block) f ∙ same in
        (rw (eq-eqb first.block block at) is, add_keeps_others block line rest apart ∙ ap (λ (b : ℕ). find (holds b) rest) (sym at) ∙ none_behind first rest distinct);
    other = λ old is differ.
        let e : Some first ≡ Some old = is in
        let f : first ≡ old = cc in
        let not_at : eqb first.block block ≡ false = ne_eqb first.block block (λ at. differ (ap (λ (l : Line). l.block) (sym f) ∙ at)) in
        rw not_at (add_keeps_others block line rest apart);
  })
]

-- a replaced line was one of the set
replaced_here : (machine : MachineParts) (number ways : ℕ) (lines : List Line) (old : Line) → 1 ≤ ways → All (LineFits machine number) lines → replaced_in ways lines ≡ Some old →
    set_of machine old.block ≡ number
replaced_here machine number ways [] old some fit is = absurd (let e : None ≡ Some old = sym (free_way_replaces ways [] (omega arith)) ∙ is in cc)
replaced_here machine number ways (first ∷ rest) old some fit is = elim (cases_lt (length (first ∷ rest)) ways) [
  | inl free ↦ absurd (let e : None ≡ Some old = sym (free_way_replaces ways (first ∷ rest) free) ∙ is in cc)
  | inr full ↦
      let e : Some first ≡ Some old = sym (full_set_replaces ways (first ∷ rest) full) ∙ is in
      let same : first ≡ old = cc in
      let fits : LineFits machine number first = fit 0 first (omega arith) in
      subst (λ (l : Line). set_of machine l.block ≡ number) same fits.here
]

pub other_installed : (cache : Cached) (line : Line) (block : ℕ) → IsCached cache → 1 ≤ cache.machine.sets → 1 ≤ cache.machine.ways → (block ≢ line.block) →
    IsReplaced block (replaced_of line cache) (line_of cache block) (line_of (install_of line cache) block)
unfolding install_of line_of replaced_of
other_installed cache line block is some ways apart = elim (cases_eq (set_of cache.machine block) (set_of cache.machine line.block)) [
  | inl same ↦
      let here : lines_of cache block ≡ lines_of cache line.block = ap (λ (at : ℕ). slice_index_or cache.sets at []) same in
      rw (same_set cache line.block block (with_installed cache.machine.ways line (lines_of cache line.block)) (has_its_set cache line.block is some) same)
      (rw here
      (lines_installed cache.machine.ways block line (lines_of cache line.block) ways (is.lines (set_of cache.machine line.block) (mod-lt line.block some)).distinct apart))
  | inr set_apart ↦
      rw (other_set cache line.block block (with_installed cache.machine.ways line (lines_of cache line.block)) set_apart)
      (record {
        kept = λ none. refl;
        gone = λ old is_old at. absurd (set_apart (ap (λ (b : ℕ). set_of cache.machine b) (sym at)
            ∙ replaced_here cache.machine (set_of cache.machine line.block) cache.machine.ways (lines_of cache line.block) old ways
            (is.lines (set_of cache.machine line.block) (mod-lt line.block some)).fit is_old));
        other = λ old is_old differ. refl;
      })
]

-- The line of a block that has come replaces one of another block.
differs_by : (ways block : ℕ) (lines : List Line) (old : Line) → 1 ≤ ways → find (holds block) lines ≡ None → replaced_in ways lines ≡ Some old → (old.block ≢ block)
differs_by ways block [] old some none is same = let e : None ≡ Some old = sym (free_way_replaces ways [] (omega arith)) ∙ is in cc
differs_by ways block (first ∷ rest) old some none is same = elim (cases_lt (length (first ∷ rest)) ways) [
  | inl free ↦ let e : None ≡ Some old = sym (free_way_replaces ways (first ∷ rest) free) ∙ is in cc
  | inr full ↦
      let e : Some first ≡ Some old = sym (full_set_replaces ways (first ∷ rest) full) ∙ is in
      let f : first ≡ old = cc in
      let g : Some first ≡ None = rw (eq-eqb first.block block (ap (λ (l : Line). l.block) f ∙ same)) at none in
      cc
]

pub replaced_differs : (cache : Cached) (line old : Line) → 1 ≤ cache.machine.ways → line_of cache line.block ≡ None → replaced_of line cache ≡ Some old → (old.block ≢ line.block)
unfolding line_of replaced_of
replaced_differs cache line old ways none is = differs_by cache.machine.ways line.block (lines_of cache line.block) old ways none is
