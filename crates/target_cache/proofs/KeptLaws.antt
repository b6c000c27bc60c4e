-- What the code keeps stays sound through a write, a drop and an install, and stands for the cache after it.
use Rattle.std.proofs.Common.{◌≡◌, ◌≢◌, ℕ, zero, suc, ◌+◌, ◌%◌, ◌<◌, ◌≤◌, Bool, true, false, cond, List, [], ◌∷◌, ◌++◌, length, map, get_or, set, replicate, Option, Some, None, refl, ap, sym, ◌∙◌, subst, inl, inr, arith, mod-lt}
use Rattle.std.specs.List.{find}
use Rattle.std.proofs.lemmas.Bool.{cases_lt}
use Rattle.std.proofs.lemmas.List.{length-set, length-map, get_or-map, set-set, set-get_or, get_or-replicate, length-replicate}
use Rattle.std.proofs.lemmas.List.Elements.{All-set, All-replicate}
use Rattle.wt_params.specs.declared.parts.MachineParts.{MachineParts}
use Rattle.block_tags.specs.declared.tag.Tag.{Tag}
use Rattle.block_tags.specs.declared.tag.Tag.TheVariants.{Invalid, ReadOnly, Writable}
use Rattle.target_cache.specs.declared.line.Line.{Line}
use Rattle.target_cache.specs.Lines.{LinesInRoom, holds, tag_by, with_written, without, replaced_in, with_installed}
use Rattle.target_cache.specs.Cached.{Cached, IsCached, IsKept, AreTags, AreLines, LineFits, cached, set_of, lines_of, with_lines, line_of, tag_of, write_of, written_by, drop_of, install_of, empty_cache}
use Rattle.target_cache.proofs.PlaceLaws.{all_kept, none_passes}
use Rattle.target_cache.proofs.LineLaws.{free_way_replaces, free_way_takes, full_set_replaces, full_set_takes, first_out}
use Rattle.target_cache.proofs.SetLaws.{lines-without, lines-written, lines-installed, lines-none, absent_rest}
use Rattle.target_cache.proofs.CachedLaws.{HasSet, same_set, still_cached, written_tags, dropped_tags, added_tags, put_back, looked_up, has_set}

-- the set of a block as the code reached it
pub record Reached (machine : MachineParts) (tags : List Tag) (sets : List LinesInRoom) (block place : ℕ) (held : LinesInRoom) : Type 0 where
  pub kept : IsKept machine tags sets
  pub at : place ≡ set_of machine block
  pub there : place < length sets
  pub value : held ≡ get_or sets place held

pub reached : (machine : MachineParts) (tags : List Tag) (sets : List LinesInRoom) (block place : ℕ) (held : LinesInRoom) (cache : Cached) →
    IsKept machine tags sets → cached machine sets ≡ cache → place ≡ set_of cache.machine block → place < length cache.sets →
    held ≡ get_or sets place held → Reached machine tags sets block place held
reached machine tags sets block place held cache kept view at there value = record {
  kept = kept;
  at = at ∙ ap (λ (c : Cached). set_of c.machine block) (sym view);
  there = omega (arith, length-map sets (λ (s : LinesInRoom). s.lines), ap (λ (c : Cached). length c.sets) view);
  value = value;
}

pub found_set : (machine : MachineParts) (tags : List Tag) (sets : List LinesInRoom) (block place : ℕ) (held : LinesInRoom) →
    Reached machine tags sets block place held → HasSet (cached machine sets) block
found_set machine tags sets block place held r = has_set machine sets block (let e = r.at in let h = r.there in omega arith)

pub held_lines : (machine : MachineParts) (tags : List Tag) (sets : List LinesInRoom) (block place : ℕ) (held : LinesInRoom) →
    Reached machine tags sets block place held → held.lines ≡ lines_of (cached machine sets) block
held_lines machine tags sets block place held r =
    ap (λ (s : LinesInRoom). s.lines) (r.value ∙ ap (λ (i : ℕ). get_or sets i held) r.at)
    ∙ sym (looked_up machine sets block held (let e = r.at in let h = r.there in omega arith))

pub held_are : (machine : MachineParts) (tags : List Tag) (sets : List LinesInRoom) (block place : ℕ) (held : LinesInRoom) →
    Reached machine tags sets block place held → AreLines machine (set_of machine block) held.lines
held_are machine tags sets block place held r =
    let has = found_set machine tags sets block place held r in
    subst (λ (lines : List Line). AreLines machine (set_of machine block) lines) (sym (held_lines machine tags sets block place held r))
    (r.kept.sound.lines (set_of machine block) (omega (arith, has.there, r.kept.sound.count)))

pub held_room : (machine : MachineParts) (tags : List Tag) (sets : List LinesInRoom) (block place : ℕ) (held : LinesInRoom) →
    Reached machine tags sets block place held → machine.ways ≤ held.room
held_room machine tags sets block place held r =
    subst (λ (s : LinesInRoom). machine.ways ≤ s.room) (sym r.value) (r.kept.room place held r.there)

pub held_size : (machine : MachineParts) (tags : List Tag) (sets : List LinesInRoom) (block place : ℕ) (held : LinesInRoom) →
    Reached machine tags sets block place held → held.size ≡ machine.block_bytes
held_size machine tags sets block place held r =
    subst (λ (s : LinesInRoom). s.size ≡ machine.block_bytes) (sym r.value) (r.kept.size place held r.there)

-- the cache that what is kept stands for after other lines were put into the set
pub put : (machine : MachineParts) (tags : List Tag) (sets : List LinesInRoom) (block place : ℕ) (held new : LinesInRoom) →
    Reached machine tags sets block place held → cached machine (set sets place new) ≡ with_lines block new.lines (cached machine sets)
put machine tags sets block place held new r =
    ap (λ (i : ℕ). cached machine (set sets i new)) r.at ∙ put_back machine sets block new

-- what is kept is sound after that, where the lines and the tags are
pub kept_put : (machine : MachineParts) (tags after : List Tag) (sets : List LinesInRoom) (block place : ℕ) (held new : LinesInRoom) →
    Reached machine tags sets block place held → new.room ≡ held.room → new.size ≡ held.size → AreLines machine (set_of machine block) new.lines →
    AreTags (with_lines block new.lines (cached machine sets)) after → IsKept machine after (set sets place new)
kept_put machine tags after sets block place held new r room size are tagged =
    let is = put machine tags sets block place held new r in
    record {
      room = All-set (λ (s : LinesInRoom). machine.ways ≤ s.room) sets place new (let h = held_room machine tags sets block place held r in omega arith) r.kept.room;
      size = All-set (λ (s : LinesInRoom). s.size ≡ machine.block_bytes) sets place new (size ∙ held_size machine tags sets block place held r) r.kept.size;
      tagged = subst (λ (c : Cached). AreTags c after) (sym is) tagged;
      sound = subst (λ (c : Cached). IsCached c) (sym is)
          (still_cached (cached machine sets) block new.lines (found_set machine tags sets block place held r) r.kept.sound are);
    }

-- a write
pub kept_written : (machine : MachineParts) (tags : List Tag) (sets : List LinesInRoom) (block place : ℕ) (held new : LinesInRoom) (offset width value : ℕ) →
    Reached machine tags sets block place held → offset + width ≤ machine.block_bytes → new.room ≡ held.room → new.size ≡ held.size →
    new.lines ≡ with_written block offset width value held.lines → IsKept machine tags (set sets place new)
kept_written machine tags sets block place held new offset width value r inside room size lines =
    kept_put machine tags tags sets block place held new r room size
    (rw lines (lines-written machine (set_of machine block) block offset width value held.lines inside (held_are machine tags sets block place held r)))
    (subst (λ (l : List Line). AreTags (with_lines block l (cached machine sets)) tags)
    (ap (λ (l : List Line). with_written block offset width value l) (sym (held_lines machine tags sets block place held r)) ∙ sym lines)
    (written_tags (cached machine sets) block offset width value tags (found_set machine tags sets block place held r) r.kept.tagged))

pub put_written : (machine : MachineParts) (tags : List Tag) (sets : List LinesInRoom) (block place : ℕ) (held new : LinesInRoom) (offset width value : ℕ) →
    Reached machine tags sets block place held → new.lines ≡ with_written block offset width value held.lines →
    tag_of (cached machine sets) block ≡ Writable → cached machine (set sets place new) ≡ write_of block offset width value (cached machine sets)
unfolding write_of
put_written machine tags sets block place held new offset width value r lines tag =
    put machine tags sets block place held new r
    ∙ ap (λ (l : List Line). with_lines block l (cached machine sets)) (lines ∙ ap (λ (l : List Line). with_written block offset width value l) (held_lines machine tags sets block place held r))
    ∙ rw tag

pub not_written : (cache : Cached) (block offset width value : ℕ) → tag_of cache block ≢ Writable → cache ≡ write_of block offset width value cache
unfolding write_of
not_written cache block offset width value tag = by_tag (tag_of cache block) tag
  where
    by_tag : (t : Tag) → t ≢ Writable → cache ≡ written_by t block offset width value cache
    by_tag Invalid not_writable = refl
    by_tag ReadOnly not_writable = refl
    by_tag Writable not_writable = absurd (not_writable refl)

-- a drop
pub kept_dropped : (machine : MachineParts) (tags : List Tag) (sets : List LinesInRoom) (block place : ℕ) (held new : LinesInRoom) →
    Reached machine tags sets block place held → block < machine.blocks → new.room ≡ held.room → new.size ≡ held.size →
    new.lines ≡ without block held.lines → IsKept machine (set tags block Invalid) (set sets place new)
kept_dropped machine tags sets block place held new r exists room size lines =
    kept_put machine tags (set tags block Invalid) sets block place held new r room size
    (rw lines (lines-without machine (set_of machine block) block held.lines (held_are machine tags sets block place held r)))
    (subst (λ (l : List Line). AreTags (with_lines block l (cached machine sets)) (set tags block Invalid))
    (ap (λ (l : List Line). without block l) (sym (held_lines machine tags sets block place held r)) ∙ sym lines)
    (dropped_tags (cached machine sets) block tags (found_set machine tags sets block place held r) exists r.kept.tagged))

pub put_dropped : (machine : MachineParts) (tags : List Tag) (sets : List LinesInRoom) (block place : ℕ) (held new : LinesInRoom) →
    Reached machine tags sets block place held → new.lines ≡ without block held.lines → cached machine (set sets place new) ≡ drop_of block (cached machine sets)
unfolding drop_of
put_dropped machine tags sets block place held new r lines =
    put machine tags sets block place held new r
    ∙ ap (λ (l : List Line). with_lines block l (cached machine sets)) (lines ∙ ap (λ (l : List Line). without block l) (held_lines machine tags sets block place held r))

-- a tag tells whether there is a line
some_tag : (line : Line) (w : Bool) → cond w Writable ReadOnly ≢ Invalid
some_tag line true e = cc
some_tag line false e = cc

pub invalid_is_none : (line : Option Line) → tag_by line ≡ Invalid → line ≡ None
invalid_is_none None tag = refl
invalid_is_none (Some line) tag = absurd (some_tag line line.writable tag)

-- a drop of what isn't there
pub not_dropped : (cache : Cached) (block : ℕ) → tag_of cache block ≡ Invalid → cache ≡ drop_of block cache
unfolding drop_of line_of without
not_dropped cache block tag =
    let none : find (holds block) (lines_of cache block) ≡ None = invalid_is_none (find (holds block) (lines_of cache block)) tag in
    let same : without block (lines_of cache block) ≡ lines_of cache block = all_kept (holds block) (lines_of cache block) (none_passes (holds block) (lines_of cache block) none) in
    sym (ap (λ (l : List Line). with_lines block l cache) same
    ∙ ap (λ (s : List (List Line)). let c : Cached = record { machine = cache.machine; sets = s } in c) (set-get_or cache.sets (set_of cache.machine block) []))

-- an install
unfoldable pub untagged : Option Line → List Tag → List Tag
untagged None tags = tags
untagged (Some old) tags = set tags old.block Invalid

-- the tags after an install where a way is free
free_tags : (machine : MachineParts) (tags : List Tag) (sets : List LinesInRoom) (line : Line) (place : ℕ) (held : LinesInRoom) →
    Reached machine tags sets line.block place held → line.block < machine.blocks → find (holds line.block) held.lines ≡ None →
    AreTags (with_lines line.block (held.lines ++ line ∷ []) (cached machine sets)) (set tags line.block (tag_by (Some line)))
free_tags machine tags sets line place held r exists none =
    let same = held_lines machine tags sets line.block place held r in
    subst (λ (l : List Line). AreTags (with_lines line.block (l ++ line ∷ []) (cached machine sets)) (set tags line.block (tag_by (Some line)))) (sym same)
    (added_tags (cached machine sets) line tags (found_set machine tags sets line.block place held r) exists
    (subst (λ (l : List Line). find (holds line.block) l ≡ None) same none) r.kept.tagged)

-- the tags after the line installed first was taken out
without_first : (machine : MachineParts) (tags : List Tag) (sets : List LinesInRoom) (block place : ℕ) (held : LinesInRoom) (first : Line) (rest : List Line) →
    Reached machine tags sets block place held → held.lines ≡ first ∷ rest → AreTags (with_lines block rest (cached machine sets)) (set tags first.block Invalid)
without_first machine tags sets block place held first rest r is =
    let are : AreLines machine (set_of machine block) (first ∷ rest) = subst (λ (l : List Line). AreLines machine (set_of machine block) l) is (held_are machine tags sets block place held r) in
    let fits : LineFits machine (set_of machine block) first = are.fit 0 first (omega arith) in
    let here : set_of machine first.block ≡ set_of machine block = fits.here in
    let there : HasSet (cached machine sets) first.block = has_set machine sets first.block (let e = r.at in let h = r.there in omega arith) in
    let lines : lines_of (cached machine sets) first.block ≡ first ∷ rest =
    ap (λ (i : ℕ). get_or (map (λ (s : LinesInRoom). s.lines) sets) i []) here ∙ sym (held_lines machine tags sets block place held r) ∙ is in
    subst (λ (i : ℕ). AreTags (record { machine = machine; sets = set (map (λ (s : LinesInRoom). s.lines) sets) i rest }) (set tags first.block Invalid)) here
    (subst (λ (l : List Line). AreTags (with_lines first.block l (cached machine sets)) (set tags first.block Invalid))
    (ap (λ (l : List Line). without first.block l) lines ∙ first_out first rest are.distinct)
    (dropped_tags (cached machine sets) first.block tags there fits.exists r.kept.tagged))

full_tags : (machine : MachineParts) (tags : List Tag) (sets : List LinesInRoom) (line : Line) (place : ℕ) (held : LinesInRoom) (first : Line) (rest : List Line) →
    Reached machine tags sets line.block place held → line.block < machine.blocks → held.lines ≡ first ∷ rest → find (holds line.block) (first ∷ rest) ≡ None →
    AreTags (with_lines line.block (rest ++ line ∷ []) (cached machine sets)) (set (set tags first.block Invalid) line.block (tag_by (Some line)))
full_tags machine tags sets line place held first rest r exists is none =
    let less : Cached = with_lines line.block rest (cached machine sets) in
    let has = found_set machine tags sets line.block place held r in
    let has_less : HasSet less line.block =
    record { there = omega (arith, has.there, length-set (map (λ (s : LinesInRoom). s.lines) sets) (set_of machine line.block) rest) } in
    let left : lines_of less line.block ≡ rest = same_set (cached machine sets) line.block line.block rest has refl in
    let added = added_tags less line (set tags first.block Invalid) has_less exists
    (subst (λ (l : List Line). find (holds line.block) l ≡ None) (sym left) (absent_rest line.block first rest none))
    (without_first machine tags sets line.block place held first rest r is) in
    subst (λ (l : List (List Line)). AreTags (record { machine = machine; sets = l }) (set (set tags first.block Invalid) line.block (tag_by (Some line))))
    (set-set (map (λ (s : LinesInRoom). s.lines) sets) (set_of machine line.block) rest (rest ++ line ∷ []))
    (subst (λ (l : List Line). AreTags (with_lines line.block (l ++ line ∷ []) less) (set (set tags first.block Invalid) line.block (tag_by (Some line)))) left added)

-- the tags after an install
installed_tags : (machine : MachineParts) (tags : List Tag) (sets : List LinesInRoom) (line : Line) (place : ℕ) (held : LinesInRoom) (lines : List Line) →
    Reached machine tags sets line.block place held → line.block < machine.blocks → 1 ≤ machine.ways → held.lines ≡ lines → find (holds line.block) lines ≡ None →
    AreTags (with_lines line.block (with_installed machine.ways line lines) (cached machine sets))
    (set (untagged (replaced_in machine.ways lines) tags) line.block (tag_by (Some line)))
unfolding untagged
installed_tags machine tags sets line place held [] r exists some is none =
    rw (free_way_takes machine.ways line [] (omega arith), free_way_replaces machine.ways [] (omega arith))
    (subst (λ (l : List Line). AreTags (with_lines line.block (l ++ line ∷ []) (cached machine sets)) (set tags line.block (tag_by (Some line)))) is
    (free_tags machine tags sets line place held r exists (subst (λ (l : List Line). find (holds line.block) l ≡ None) (sym is) none)))
installed_tags machine tags sets line place held (first ∷ rest) r exists some is none = elim (cases_lt (length (first ∷ rest)) machine.ways) [
  | inl free ↦ rw (free_way_takes machine.ways line (first ∷ rest) free, free_way_replaces machine.ways (first ∷ rest) free)
      (subst (λ (l : List Line). AreTags (with_lines line.block (l ++ line ∷ []) (cached machine sets)) (set tags line.block (tag_by (Some line)))) is
      (free_tags machine tags sets line place held r exists (subst (λ (l : List Line). find (holds line.block) l ≡ None) (sym is) none)))
  | inr full ↦ rw (full_set_takes machine.ways line (first ∷ rest) full, full_set_replaces machine.ways (first ∷ rest) full)
      (full_tags machine tags sets line place held first rest r exists is none)
]

pub kept_installed : (machine : MachineParts) (tags : List Tag) (sets : List LinesInRoom) (line : Line) (place : ℕ) (held new : LinesInRoom) →
    Reached machine tags sets line.block place held → line.block < machine.blocks → length line.bytes ≡ machine.block_bytes → 1 ≤ machine.ways →
    find (holds line.block) held.lines ≡ None → new.room ≡ held.room → new.size ≡ held.size → new.lines ≡ with_installed machine.ways line held.lines →
    IsKept machine (set (untagged (replaced_in machine.ways held.lines) tags) line.block (tag_by (Some line))) (set sets place new)
kept_installed machine tags sets line place held new r exists long some none room size lines =
    kept_put machine tags (set (untagged (replaced_in machine.ways held.lines) tags) line.block (tag_by (Some line))) sets line.block place held new r room size
    (rw lines (lines-installed machine (set_of machine line.block) line held.lines (record { exists = exists; here = refl; size = long }) some none
    (held_are machine tags sets line.block place held r)))
    (subst (λ (l : List Line). AreTags (with_lines line.block l (cached machine sets)) (set (untagged (replaced_in machine.ways held.lines) tags) line.block (tag_by (Some line)))) (sym lines)
    (installed_tags machine tags sets line place held held.lines r exists some refl none))

pub put_installed : (machine : MachineParts) (tags : List Tag) (sets : List LinesInRoom) (line : Line) (place : ℕ) (held new : LinesInRoom) →
    Reached machine tags sets line.block place held → new.lines ≡ with_installed machine.ways line held.lines →
    cached machine (set sets place new) ≡ install_of line (cached machine sets)
unfolding install_of
put_installed machine tags sets line place held new r lines =
    put machine tags sets line.block place held new r
    ∙ ap (λ (l : List Line). with_lines line.block l (cached machine sets)) (lines ∙ ap (λ (l : List Line). with_installed machine.ways line l) (held_lines machine tags sets line.block place held r))

-- a replaced line was one of the set
pub replaced_exists : (machine : MachineParts) (number : ℕ) (lines : List Line) (old : Line) → AreLines machine number lines → 1 ≤ machine.ways →
    replaced_in machine.ways lines ≡ Some old → old.block < machine.blocks
replaced_exists machine number [] old are some is =
    let e : None ≡ Some old = sym (free_way_replaces machine.ways [] (omega arith)) ∙ is in absurd cc
replaced_exists machine number (first ∷ rest) old are some is = elim (cases_lt (length (first ∷ rest)) machine.ways) [
  | inl free ↦ let e : None ≡ Some old = sym (free_way_replaces machine.ways (first ∷ rest) free) ∙ is in absurd cc
  | inr full ↦
      let e : Some first ≡ Some old = sym (full_set_replaces machine.ways (first ∷ rest) full) ∙ is in
      let same : first ≡ old = cc in
      let fits : LineFits machine number first = are.fit 0 first (omega arith) in
      subst (λ (l : Line). l.block < machine.blocks) same fits.exists
]

-- at the start
pub kept_empty : (machine : MachineParts) (room size : ℕ) → 1 ≤ machine.sets → machine.ways ≤ room → size ≡ machine.block_bytes →
    IsKept machine (replicate machine.blocks Invalid) (replicate machine.sets (record { lines = []; room = room; size = size }))
unfolding line_of
kept_empty machine room size some fits long =
    let none : LinesInRoom = record { lines = []; room = room; size = size } in
    let lines : (number : ℕ) → number < machine.sets → get_or (map (λ (s : LinesInRoom). s.lines) (replicate machine.sets none)) number [] ≡ [] =
    λ number below. get_or-map (λ (s : LinesInRoom). s.lines) (replicate machine.sets none) number none [] (omega (arith, length-replicate machine.sets none))
    ∙ ap (λ (s : LinesInRoom). s.lines) (get_or-replicate machine.sets number none none below) in
    record {
      room = All-replicate (λ (s : LinesInRoom). machine.ways ≤ s.room) machine.sets none fits;
      size = All-replicate (λ (s : LinesInRoom). s.size ≡ machine.block_bytes) machine.sets none long;
      tagged = record {
        count = length-replicate machine.blocks Invalid;
        each = λ block exists. get_or-replicate machine.blocks block Invalid Invalid exists
            ∙ ap (λ (l : List Line). tag_by (find (holds block) l)) (sym (lines (block % machine.sets) (mod-lt block some)));
      };
      sound = record {
        count = length-map (replicate machine.sets none) (λ (s : LinesInRoom). s.lines) ∙ length-replicate machine.sets none;
        lines = λ number below. subst (λ (l : List Line). AreLines machine number l) (sym (lines number below)) (lines-none machine number);
      };
    }

map-replicate : {A B : Type 0} (f : A → B) (n : ℕ) (a : A) → map f (replicate n a) ≡ replicate n (f a)
map-replicate f zero a = refl
map-replicate f (suc n) a = ap (λ l. f a ∷ l) (map-replicate f n a)

pub empty_is : (machine : MachineParts) (room size : ℕ) →
    cached machine (replicate machine.sets (record { lines = []; room = room; size = size })) ≡ empty_cache machine
unfolding empty_cache
empty_is machine room size =
    ap (λ (l : List (List Line)). let c : Cached = record { machine = machine; sets = l } in c) (map-replicate (λ (s : LinesInRoom). s.lines) machine.sets (record { lines = []; room = room; size = size }))
