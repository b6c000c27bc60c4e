-- The lines of one set of a cache, the one installed first in front. Own.
use Rattle.std.specs.Prelude.{ℕ, ◌+◌, ◌≤◌, ◌==◌, Bool, not, nat_lt, if◌then◌else◌, List, [], ◌∷◌, ◌++◌, length, drop, map, filter, slice_get, slice_range, Option, None, Some}
use Rattle.block_tags.specs.declared.tag.Tag.{Tag}
use Rattle.block_tags.specs.declared.tag.Tag.TheVariants.{Invalid, ReadOnly, Writable}
use Rattle.priv_mem.specs.Memory.{little_endian, low_bytes, overwritten}
use Rattle.target_cache.specs.declared.line.Line.{Line}

-- whether a line is that of a block
abbrev pub holds : ℕ → Line → Bool
holds block line = line.block == block

-- what a line allows
abbrev pub tag_by : Option Line → Tag
tag_by None = Invalid
tag_by (Some line) = if line.writable then Writable else ReadOnly

-- the number of so many bytes of a line, from an offset on
abbrev pub number_in : ℕ → ℕ → Line → ℕ
number_in offset width line = little_endian (slice_range line.bytes offset (offset + width))

-- a line after so many of the lowest bytes of a number were written into it, from an offset on
abbrev pub written_line : ℕ → ℕ → ℕ → Line → Line
written_line offset width value line =
    record line { bytes = overwritten line.bytes offset (low_bytes width value) }

-- the lines after that of a block was written; their order stays
unfoldable pub with_written : ℕ → ℕ → ℕ → ℕ → List Line → List Line
with_written block offset width value lines =
    map (λ (line : Line). if holds block line then written_line offset width value line else line) lines

-- the lines but that of a block
unfoldable pub without : ℕ → List Line → List Line
without block lines = filter (λ (line : Line). not (holds block line)) lines

-- the line that another one replaces: the one installed first, where every way is taken
unfoldable pub replaced_in : ℕ → List Line → Option Line
replaced_in ways lines = if nat_lt (length lines) ways then None else slice_get lines 0

-- the lines after another one was installed
unfoldable pub with_installed : ℕ → Line → List Line → List Line
with_installed ways line lines = (if nat_lt (length lines) ways then lines else drop 1 lines) ++ line ∷ []

-- no block has two lines
abbrev pub AreDistinct : List Line → Type 0
AreDistinct lines = (block : ℕ) → length (filter (holds block) lines) ≤ 1

-- lines with blocks of a size, in so much room
pub record LinesInRoom : Type 0 where
  pub lines : List Line
  pub room : ℕ
  pub size : ℕ
