-- The laws of a cache as a whole: what a write, a drop and an install leave of the lines and tags of all blocks.
use Rattle.std.proofs.Common.{◌≡◌, ◌≢◌, ℕ, ◌<◌, List, [], ◌∷◌, ◌++◌, length, get_or, set, Some, None, refl, ap, sym, ◌∙◌, subst, inl, inr, arith}
use Rattle.std.specs.List.{find}
use Rattle.std.proofs.lemmas.Bool.{cases_eq}
use Rattle.std.proofs.lemmas.List.{length-set, length-map, get_or-set_same, get_or-set_other, get_or-map, map-set}
use Rattle.wt_params.specs.declared.parts.MachineParts.{MachineParts}
use Rattle.block_tags.specs.declared.tag.Tag.{Tag}
use Rattle.block_tags.specs.declared.tag.Tag.TheVariants.{Invalid}
use Rattle.target_cache.specs.declared.line.Line.{Line}
use Rattle.target_cache.specs.Lines.{LinesInRoom, holds, tag_by, with_written, without}
use Rattle.target_cache.specs.Cached.{Cached, IsCached, AreTags, AreLines, cached, set_of, lines_of, with_lines, line_of}
use Rattle.target_cache.proofs.LineLaws.{dropped_is_gone, drop_keeps_others, write_keeps_tags, added_is_found, add_keeps_others}

-- the set of a block is there
pub record HasSet (cache : Cached) (block : ℕ) : Type 0 where
  pub there : set_of cache.machine block < length cache.sets

pub same_set : (cache : Cached) (block other : ℕ) (lines : List Line) → HasSet cache block → set_of cache.machine other ≡ set_of cache.machine block →
    lines_of (with_lines block lines cache) other ≡ lines
same_set cache block other lines has same =
    ap (λ (at : ℕ). get_or (set cache.sets (set_of cache.machine block) lines) at []) same
    ∙ get_or-set_same cache.sets (set_of cache.machine block) lines [] has.there

pub other_set : (cache : Cached) (block other : ℕ) (lines : List Line) → set_of cache.machine other ≢ set_of cache.machine block →
    lines_of (with_lines block lines cache) other ≡ lines_of cache other
other_set cache block other lines apart =
    get_or-set_other cache.sets (set_of cache.machine block) (set_of cache.machine other) lines [] apart

-- a cache whose lines of one set are others of that set
pub still_cached : (cache : Cached) (block : ℕ) (lines : List Line) → HasSet cache block → IsCached cache → AreLines cache.machine (set_of cache.machine block) lines →
    IsCached (with_lines block lines cache)
still_cached cache block lines has is are = record {
  count = length-set cache.sets (set_of cache.machine block) lines ∙ is.count;
  lines = λ number below. elim (cases_eq number (set_of cache.machine block)) [
    | inl same ↦ subst (λ (at : ℕ). AreLines cache.machine at (get_or (set cache.sets (set_of cache.machine block) lines) at [])) (sym same)
        (rw (get_or-set_same cache.sets (set_of cache.machine block) lines [] has.there) are)
    | inr apart ↦ rw (get_or-set_other cache.sets (set_of cache.machine block) number lines [] apart) (is.lines number below)
  ];
}

-- the tags of a cache whose lines of one set are others
retagged : (cache : Cached) (block : ℕ) (lines : List Line) (tags new : List Tag) → HasSet cache block → AreTags cache tags → length new ≡ length tags →
    ((other : ℕ) → other < cache.machine.blocks → set_of cache.machine other ≡ set_of cache.machine block → get_or new other Invalid ≡ tag_by (find (holds other) lines)) →
    ((other : ℕ) → other ≢ block → set_of cache.machine other ≢ set_of cache.machine block → get_or new other Invalid ≡ get_or tags other Invalid) →
    AreTags (with_lines block lines cache) new
unfolding line_of
retagged cache block lines tags new has are count here else_where = record {
  count = count ∙ are.count;
  each = λ other exists. elim (cases_eq (set_of cache.machine other) (set_of cache.machine block)) [
    | inl same ↦ here other exists same ∙ ap (λ (held : List Line). tag_by (find (holds other) held)) (sym (same_set cache block other lines has same))
    | inr apart ↦ else_where other (λ (e : other ≡ block). apart (ap (λ (b : ℕ). set_of cache.machine b) e)) apart ∙ are.each other exists
        ∙ ap (λ (held : List Line). tag_by (find (holds other) held)) (sym (other_set cache block other lines apart))
  ];
}

-- in one set, the tags are those of its lines
tag_here : (cache : Cached) (block other : ℕ) (tags : List Tag) → AreTags cache tags → other < cache.machine.blocks → set_of cache.machine other ≡ set_of cache.machine block →
    get_or tags other Invalid ≡ tag_by (find (holds other) (lines_of cache block))
unfolding line_of
tag_here cache block other tags are exists same =
    are.each other exists ∙ ap (λ (at : ℕ). tag_by (find (holds other) (get_or cache.sets at []))) same

pub written_tags : (cache : Cached) (block offset width value : ℕ) (tags : List Tag) → HasSet cache block → AreTags cache tags →
    AreTags (with_lines block (with_written block offset width value (lines_of cache block)) cache) tags
written_tags cache block offset width value tags has are =
    retagged cache block (with_written block offset width value (lines_of cache block)) tags tags has are refl
    (λ other exists same. tag_here cache block other tags are exists same ∙ sym (write_keeps_tags block offset width value other (lines_of cache block)))
    (λ other apart set_apart. refl)

pub dropped_tags : (cache : Cached) (block : ℕ) (tags : List Tag) → HasSet cache block → block < cache.machine.blocks → AreTags cache tags →
    AreTags (with_lines block (without block (lines_of cache block)) cache) (set tags block Invalid)
dropped_tags cache block tags has exists are =
    retagged cache block (without block (lines_of cache block)) tags (set tags block Invalid) has are (length-set tags block Invalid)
    (λ other other_exists same. elim (cases_eq other block) [
      | inl is ↦ subst (λ (b : ℕ). get_or (set tags block Invalid) b Invalid ≡ tag_by (find (holds b) (without block (lines_of cache block)))) (sym is)
          (get_or-set_same tags block Invalid Invalid (omega (arith, are.count)) ∙ ap tag_by (sym (dropped_is_gone block (lines_of cache block))))
      | inr apart ↦ get_or-set_other tags block other Invalid Invalid apart ∙ tag_here cache block other tags are other_exists same
          ∙ ap tag_by (sym (drop_keeps_others block other (lines_of cache block) apart))
    ])
    (λ other apart set_apart. get_or-set_other tags block other Invalid Invalid apart)

pub added_tags : (cache : Cached) (line : Line) (tags : List Tag) → HasSet cache line.block → line.block < cache.machine.blocks →
    find (holds line.block) (lines_of cache line.block) ≡ None → AreTags cache tags →
    AreTags (with_lines line.block (lines_of cache line.block ++ line ∷ []) cache) (set tags line.block (tag_by (Some line)))
added_tags cache line tags has exists none are =
    let block = line.block in
    let lines = lines_of cache block in
    let tag = tag_by (Some line) in
    retagged cache block (lines ++ line ∷ []) tags (set tags block tag) has are (length-set tags block tag)
    (λ other other_exists same. elim (cases_eq other block) [
      | inl is ↦ subst (λ (b : ℕ). get_or (set tags block tag) b Invalid ≡ tag_by (find (holds b) (lines ++ line ∷ []))) (sym is)
          (get_or-set_same tags block tag Invalid (omega (arith, are.count)) ∙ ap tag_by (sym (added_is_found line lines none)))
      | inr apart ↦ get_or-set_other tags block other tag Invalid apart ∙ tag_here cache block other tags are other_exists same
          ∙ ap tag_by (sym (add_keeps_others other line lines apart))
    ])
    (λ other apart set_apart. get_or-set_other tags block other tag Invalid apart)

-- what the code keeps, with the lines of a set put back
pub put_back : (machine : MachineParts) (sets : List LinesInRoom) (block : ℕ) (new : LinesInRoom) →
    cached machine (set sets (set_of machine block) new) ≡ with_lines block new.lines (cached machine sets)
put_back machine sets block new =
    ap (λ (held : List (List Line)). let c : Cached = record { machine = machine; sets = held } in c) (map-set (λ (held : LinesInRoom). held.lines) sets (set_of machine block) new)

pub looked_up : (machine : MachineParts) (sets : List LinesInRoom) (block : ℕ) (d : LinesInRoom) → set_of machine block < length sets →
    lines_of (cached machine sets) block ≡ (get_or sets (set_of machine block) d).lines
looked_up machine sets block d there = get_or-map (λ (held : LinesInRoom). held.lines) sets (set_of machine block) d [] there

pub has_set : (machine : MachineParts) (sets : List LinesInRoom) (block : ℕ) → set_of machine block < length sets → HasSet (cached machine sets) block
has_set machine sets block there = record { there = omega (arith, length-map sets (λ (held : LinesInRoom). held.lines)) }
