-- What drops, writes and installs leave in the lines of a set.
use Rattle.std.proofs.Common.{◌≡◌, ℕ, suc, ◌<◌, ◌≤◌, ◌≢◌, true, false, eqb, List, [], ◌∷◌, ◌++◌, length, drop, filter, Option, Some, None, refl, sym, ◌∙◌, inl, inr, arith}
use Rattle.std.specs.List.{find, slice_get}
use Rattle.std.specs.Option.{option_or}
use Rattle.std.proofs.lemmas.Bool.{cases_Bool, eqb-true, lt-ltb, le-ltb, eq-eqb, ne_eqb}
use Rattle.std.proofs.lemmas.List.Folds.{find-append}
use Rattle.target_cache.proofs.PlaceLaws.{all_kept}
use Rattle.target_cache.specs.declared.line.Line.{Line}
use Rattle.target_cache.specs.Lines.{AreDistinct, holds, tag_by, with_written, without, replaced_in, with_installed}

-- where a way is free, no line is replaced
pub free_way_replaces : (ways : ℕ) (lines : List Line) → length lines < ways → replaced_in ways lines ≡ None
unfolding replaced_in
free_way_replaces ways lines free = rw (lt-ltb (length lines) ways free)

pub free_way_takes : (ways : ℕ) (line : Line) (lines : List Line) → length lines < ways → with_installed ways line lines ≡ lines ++ line ∷ []
unfolding with_installed
free_way_takes ways line lines free = rw (lt-ltb (length lines) ways free)

-- where every way is taken, the line installed first is
pub full_set_replaces : (ways : ℕ) (lines : List Line) → ways ≤ length lines → replaced_in ways lines ≡ slice_get lines 0
unfolding replaced_in
full_set_replaces ways lines full = rw (le-ltb (length lines) ways full)

pub full_set_takes : (ways : ℕ) (line : Line) (lines : List Line) → ways ≤ length lines → with_installed ways line lines ≡ drop 1 lines ++ line ∷ []
unfolding with_installed
full_set_takes ways line lines full = rw (le-ltb (length lines) ways full)

-- the line of a dropped block is gone
gone_step : (block : ℕ) (line : Line) (rest : List Line) → find (holds block) (without block rest) ≡ None → find (holds block) (without block (line ∷ rest)) ≡ None
unfolding without
gone_step block line rest gone = elim (cases_Bool (holds block line)) [ inl is ↦ rw is gone | inr is ↦ rw (is, is) gone ]

pub dropped_is_gone : (block : ℕ) (lines : List Line) → find (holds block) (without block lines) ≡ None
unfolding without
dropped_is_gone block [] = refl
dropped_is_gone block (line ∷ rest) = gone_step block line rest (dropped_is_gone block rest)

-- and those of the other blocks stay
other_step : (block other : ℕ) (line : Line) (rest : List Line) → other ≢ block → find (holds other) (without block rest) ≡ find (holds other) rest →
    find (holds other) (without block (line ∷ rest)) ≡ find (holds other) (line ∷ rest)
unfolding without
other_step block other line rest apart same = elim (cases_Bool (holds block line)) [
  | inl is ↦ let is_not : eqb line.block other ≡ false = ne_eqb line.block other (λ e. apart (sym e ∙ eqb-true line.block block is)) in rw (is, is_not) same
  | inr is ↦ elim (cases_Bool (holds other line)) [ inl at ↦ rw (is, at) | inr at ↦ rw (is, at) same ]
]

pub drop_keeps_others : (block other : ℕ) (lines : List Line) → other ≢ block → find (holds other) (without block lines) ≡ find (holds other) lines
unfolding without
drop_keeps_others block other [] apart = refl
drop_keeps_others block other (line ∷ rest) apart = other_step block other line rest apart (drop_keeps_others block other rest apart)

-- a write leaves every tag as it was
tag_step : (block offset width value other : ℕ) (line : Line) (rest : List Line) →
    tag_by (find (holds other) (with_written block offset width value rest)) ≡ tag_by (find (holds other) rest) →
    tag_by (find (holds other) (with_written block offset width value (line ∷ rest))) ≡ tag_by (find (holds other) (line ∷ rest))
unfolding with_written
tag_step block offset width value other line rest same = elim (cases_Bool (holds block line)) [
  | inl is ↦ elim (cases_Bool (holds other line)) [ inl at ↦ rw (is, at) | inr at ↦ rw (is, at) same ]
  | inr is ↦ elim (cases_Bool (holds other line)) [ inl at ↦ rw (is, at) | inr at ↦ rw (is, at) same ]
]

pub write_keeps_tags : (block offset width value other : ℕ) (lines : List Line) →
    tag_by (find (holds other) (with_written block offset width value lines)) ≡ tag_by (find (holds other) lines)
unfolding with_written
write_keeps_tags block offset width value other [] = refl
write_keeps_tags block offset width value other (line ∷ rest) =
    tag_step block offset width value other line rest (write_keeps_tags block offset width value other rest)

-- the line installed first is the only one of its block
pub first_out : (first : Line) (rest : List Line) → AreDistinct (first ∷ rest) → without first.block (first ∷ rest) ≡ rest
unfolding without
first_out first rest distinct =
    let is : eqb first.block first.block ≡ true = eq-eqb first.block first.block refl in
    let one : length (filter (holds first.block) (first ∷ rest)) ≤ 1 = distinct first.block in
    let none : suc (length (filter (holds first.block) rest)) ≤ 1 = rw is at one in
    rw is (all_kept (holds first.block) rest (omega arith))

or_none : (line : Option Line) → option_or line None ≡ line
or_none None = refl
or_none (Some line) = refl

-- an added line is found, and the others as before
pub added_is_found : (line : Line) (lines : List Line) → find (holds line.block) lines ≡ None → find (holds line.block) (lines ++ line ∷ []) ≡ Some line
added_is_found line lines none = find-append (holds line.block) lines (line ∷ []) ∙ rw (none, eq-eqb line.block line.block refl)

pub add_keeps_others : (other : ℕ) (line : Line) (lines : List Line) → other ≢ line.block → find (holds other) (lines ++ line ∷ []) ≡ find (holds other) lines
add_keeps_others other line lines apart =
    find-append (holds other) lines (line ∷ [])
    ∙ rw (ne_eqb line.block other (λ e. apart (sym e))) (or_none (find (holds other) lines))
