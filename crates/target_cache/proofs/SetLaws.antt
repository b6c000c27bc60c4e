-- The lines of a set stay lines of that set: at most as many as there are ways, each with a block of the set, all
-- with blocks of their own.
use Rattle.std.proofs.Common.{◌≡◌, ◌≢◌, ℕ, suc, ◌+◌, ◌<◌, ◌≤◌, Bool, true, false, not, cond, eqb, List, [], ◌∷◌, ◌++◌, length, drop, map, filter, Some, None, refl, ap, ◌∙◌, subst, inl, inr, arith, length-append}
use Rattle.std.specs.List.{find, All}
use Rattle.std.proofs.lemmas.Bool.{cases_Bool, cases_eq, cases_lt, ne_eqb, eq-eqb}
use Rattle.std.proofs.lemmas.List.{length-map}
use Rattle.std.proofs.lemmas.List.Sums.{length-filter, count_by-le-length}
use Rattle.std.proofs.lemmas.List.Elements.{All-filter, All-map, All-append, All-cons, All-nil, filter-append}
use Rattle.wt_params.specs.declared.parts.MachineParts.{MachineParts}
use Rattle.priv_mem.specs.Memory.{low_bytes}
use Rattle.priv_mem.proofs.MemoryLaws.{length-low_bytes, length-overwritten}
use Rattle.target_cache.specs.declared.line.Line.{Line}
use Rattle.target_cache.specs.Lines.{AreDistinct, holds, written_line, with_written, without, with_installed}
use Rattle.target_cache.specs.Cached.{AreLines, LineFits}
use Rattle.target_cache.proofs.PlaceLaws.{none_passes}
use Rattle.target_cache.proofs.LineLaws.{free_way_takes, full_set_takes, first_out}

-- no more pass of what is left
fewer_step : (p q : Line → Bool) (x : Line) (xs : List Line) → length (filter q (filter p xs)) ≤ length (filter q xs) →
    length (filter q (filter p (x ∷ xs))) ≤ length (filter q (x ∷ xs))
fewer_step p q x xs fewer = elim (cases_Bool (p x)) [
  | inl is ↦ elim (cases_Bool (q x)) [ inl at ↦ rw (is, at) (omega arith) | inr at ↦ rw (is, at) fewer ]
  | inr is ↦ elim (cases_Bool (q x)) [ inl at ↦ rw (is, at) (omega arith) | inr at ↦ rw (is, at) fewer ]
]

fewer : (p q : Line → Bool) (xs : List Line) → length (filter q (filter p xs)) ≤ length (filter q xs)
fewer p q [] = omega arith
fewer p q (x ∷ xs) = fewer_step p q x xs (fewer p q xs)

pub lines-without : (machine : MachineParts) (set block : ℕ) (lines : List Line) → AreLines machine set lines → AreLines machine set (without block lines)
unfolding without
lines-without machine set block lines are =
    let p = λ (line : Line). not (holds block line) in
    record {
      few = omega (arith, are.few, length-filter p lines, count_by-le-length p lines);
      fit = All-filter p (LineFits machine set) lines are.fit;
      distinct = λ other. omega (arith, fewer p (holds other) lines, are.distinct other);
    }

-- as many pass where each element passes as it did before
as_many_step : (p : Line → Bool) (f : Line → Line) (x : Line) (xs : List Line) → p (f x) ≡ p x →
    length (filter p (map f xs)) ≡ length (filter p xs) → length (filter p (map f (x ∷ xs))) ≡ length (filter p (x ∷ xs))
as_many_step p f x xs same rest = elim (cases_Bool (p x)) [
  | inl is ↦ let now : p (f x) ≡ true = same ∙ is in rw (now, is) (ap suc rest)
  | inr is ↦ let now : p (f x) ≡ false = same ∙ is in rw (now, is) rest
]

as_many : (p : Line → Bool) (f : Line → Line) (xs : List Line) → ((x : Line) → p (f x) ≡ p x) → length (filter p (map f xs)) ≡ length (filter p xs)
as_many p f [] same = refl
as_many p f (x ∷ xs) same = as_many_step p f x xs (same x) (as_many p f xs same)

-- a write changes bytes alone
pub write_keeps_block : (block offset width value other : ℕ) (line : Line) →
    holds other (cond (holds block line) (written_line offset width value line) line) ≡ holds other line
write_keeps_block block offset width value other line = elim (cases_Bool (holds block line)) [ inl is ↦ rw is | inr is ↦ rw is ]

pub write_keeps_size : (offset width value : ℕ) (line : Line) → offset + width ≤ length line.bytes →
    length (written_line offset width value line).bytes ≡ length line.bytes
write_keeps_size offset width value line inside =
    length-overwritten line.bytes (low_bytes width value) offset (omega (arith, length-low_bytes width value))

written_fits : (machine : MachineParts) (set block offset width value : ℕ) (line : Line) → offset + width ≤ machine.block_bytes →
    LineFits machine set line → LineFits machine set (cond (holds block line) (written_line offset width value line) line)
written_fits machine set block offset width value line inside fits = elim (cases_Bool (holds block line)) [
  | inl is ↦ rw is (record {
    exists = fits.exists;
    here = fits.here;
    size = write_keeps_size offset width value line (omega (arith, fits.size)) ∙ fits.size;
  })
  | inr is ↦ rw is fits
]

pub lines-written : (machine : MachineParts) (set block offset width value : ℕ) (lines : List Line) → offset + width ≤ machine.block_bytes →
    AreLines machine set lines → AreLines machine set (with_written block offset width value lines)
unfolding with_written
lines-written machine set block offset width value lines inside are =
    let f = λ (line : Line). cond (holds block line) (written_line offset width value line) line in
    record {
      few = omega (arith, are.few, length-map lines f);
      fit = All-map (LineFits machine set) f lines (λ k d below. written_fits machine set block offset width value _ inside (are.fit k d below));
      distinct = λ other. omega (arith, are.distinct other, as_many (holds other) f lines (write_keeps_block block offset width value other));
    }

distinct_added : (line : Line) (lines : List Line) (other : ℕ) → AreDistinct lines → find (holds line.block) lines ≡ None →
    length (filter (holds other) (lines ++ line ∷ [])) ≤ 1
distinct_added line lines other distinct none = elim (cases_eq line.block other) [
  | inl same ↦
      let empty : length (filter (holds other) lines) ≡ 0 = subst (λ (b : ℕ). length (filter (holds b) lines) ≡ 0) same (none_passes (holds line.block) lines none) in
      let is : eqb line.block other ≡ true = eq-eqb line.block other same in
      rw (filter-append (holds other) lines (line ∷ []), is) (omega (arith, length-append (filter (holds other) lines) (line ∷ [])))
  | inr apart ↦
      let is : eqb line.block other ≡ false = ne_eqb line.block other apart in
      rw (filter-append (holds other) lines (line ∷ []), is) (omega (arith, length-append (filter (holds other) lines) [], distinct other))
]

pub lines-added : (machine : MachineParts) (set : ℕ) (line : Line) (lines : List Line) → LineFits machine set line → length lines < machine.ways →
    find (holds line.block) lines ≡ None → AreLines machine set lines → AreLines machine set (lines ++ line ∷ [])
lines-added machine set line lines fits free none are = record {
  few = omega (arith, length-append lines (line ∷ []));
  fit = All-append (LineFits machine set) lines (line ∷ []) are.fit (All-cons (LineFits machine set) line [] fits (All-nil (LineFits machine set)));
  distinct = λ other. distinct_added line lines other are.distinct none;
}

pub lines-rest : (machine : MachineParts) (set : ℕ) (first : Line) (rest : List Line) → AreLines machine set (first ∷ rest) → AreLines machine set rest
lines-rest machine set first rest are =
    subst (λ (lines : List Line). AreLines machine set lines) (first_out first rest are.distinct) (lines-without machine set first.block (first ∷ rest) are)

pub absent_first : (block : ℕ) (first : Line) (rest : List Line) → find (holds block) (first ∷ rest) ≡ None → first.block ≢ block
absent_first block first rest none same =
    let e : Some first ≡ None = rw (eq-eqb first.block block same) at none in cc

pub absent_rest : (block : ℕ) (first : Line) (rest : List Line) → find (holds block) (first ∷ rest) ≡ None → find (holds block) rest ≡ None
absent_rest block first rest none =
    let e : find (holds block) rest ≡ None = rw (ne_eqb first.block block (absent_first block first rest none)) at none in e

full_installed : (machine : MachineParts) (set : ℕ) (line : Line) (lines : List Line) → LineFits machine set line → 1 ≤ machine.ways → machine.ways ≤ length lines →
    find (holds line.block) lines ≡ None → AreLines machine set lines → AreLines machine set (drop 1 lines ++ line ∷ [])
full_installed machine set line [] fits some full none are = absurd (omega arith)
full_installed machine set line (first ∷ rest) fits some full none are =
    lines-added machine set line rest fits (let few : suc (length rest) ≤ machine.ways = are.few in omega arith) (absent_rest line.block first rest none) (lines-rest machine set first rest are)

pub lines-installed : (machine : MachineParts) (set : ℕ) (line : Line) (lines : List Line) → LineFits machine set line → 1 ≤ machine.ways →
    find (holds line.block) lines ≡ None → AreLines machine set lines → AreLines machine set (with_installed machine.ways line lines)
lines-installed machine set line lines fits some none are = elim (cases_lt (length lines) machine.ways) [
  | inl free ↦ rw (free_way_takes machine.ways line lines free) (lines-added machine set line lines fits free none are)
  | inr full ↦ rw (full_set_takes machine.ways line lines full) (full_installed machine set line lines fits some full none are)
]

pub lines-none : (machine : MachineParts) (set : ℕ) → AreLines machine set []
lines-none machine set = record { few = omega arith; fit = All-nil (LineFits machine set); distinct = λ other. omega arith }

-- an access in a block lies in each line
pub access_inside : (machine : MachineParts) (set offset width : ℕ) (lines : List Line) → offset + width ≤ machine.block_bytes →
    AreLines machine set lines → All (λ (line : Line). offset + width ≤ length line.bytes) lines
access_inside machine set offset width lines inside are k d below = let fits = are.fit k d below in omega (arith, fits.size)
