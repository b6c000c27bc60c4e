-- A node's cache: for each set a list of lines. In which way of its set a line stands has no place here, since no
-- answer shows it. Own.
use Rattle.std.specs.Prelude.{◌≡◌, ℕ, ◌+◌, ◌<◌, ◌≤◌, ◌%◌, List, [], length, All, map, replicate, slice_index_or, slice_set, find, option_map, Option}
use Rattle.wt_params.specs.declared.parts.MachineParts.{MachineParts}
use Rattle.block_tags.specs.declared.tag.Tag.{Tag}
use Rattle.block_tags.specs.declared.tag.Tag.TheVariants.{Invalid, ReadOnly, Writable}
use Rattle.priv_mem.specs.Memory.{IsWidth}
use Rattle.target_cache.specs.declared.answer.WriteHit.{WriteHit}
use Rattle.target_cache.specs.declared.answer.WriteHit.TheVariants.{Hit, ReadOnly as IsReadOnly, Absent}
use Rattle.target_cache.specs.declared.line.Line.{Line}
use Rattle.target_cache.specs.Lines.{LinesInRoom, holds, tag_by, number_in, with_written, without, replaced_in, with_installed, AreDistinct}

-- the lines of each set of a node's cache
pub record Cached : Type 0 where
  pub machine : MachineParts
  pub sets : List (List Line)

-- the set of a block
abbrev pub set_of : MachineParts → ℕ → ℕ
set_of machine block = block % machine.sets

-- the lines of the set of a block
abbrev pub lines_of : Cached → ℕ → List Line
lines_of cache block = slice_index_or cache.sets (set_of cache.machine block) []

-- the same cache, but for the lines of the set of a block
abbrev pub with_lines : ℕ → List Line → Cached → Cached
with_lines block lines cache = record cache { sets = slice_set cache.sets (set_of cache.machine block) lines }

-- a cache without a line
unfoldable pub empty_cache : MachineParts → Cached
empty_cache machine = record { machine = machine; sets = replicate machine.sets [] }

-- the line of a block
unfoldable pub line_of : Cached → ℕ → Option Line
line_of cache block = find (holds block) (lines_of cache block)

-- what the cache allows with a block
abbrev pub tag_of : Cached → ℕ → Tag
tag_of cache block = tag_by (line_of cache block)

-- the number of so many bytes of a block from an offset on, where there is a line of it
abbrev pub read_of : Cached → ℕ → ℕ → ℕ → Option ℕ
read_of cache block offset width = option_map (number_in offset width) (line_of cache block)

-- what a write comes to by the tag
abbrev pub hit_of : Tag → WriteHit
hit_of Invalid = Absent
hit_of ReadOnly = IsReadOnly
hit_of Writable = Hit

-- the cache after a write to a block whose tag is this
abbrev pub written_by : Tag → ℕ → ℕ → ℕ → ℕ → Cached → Cached
written_by Invalid block offset width value cache = cache
written_by ReadOnly block offset width value cache = cache
written_by Writable block offset width value cache =
    with_lines block (with_written block offset width value (lines_of cache block)) cache

-- the cache after a write of so many of the lowest bytes of a number into a block, from an offset on
unfoldable pub write_of : ℕ → ℕ → ℕ → ℕ → Cached → Cached
write_of block offset width value cache =
    written_by (tag_of cache block) block offset width value cache

-- the cache after the line of a block was dropped
unfoldable pub drop_of : ℕ → Cached → Cached
drop_of block cache = with_lines block (without block (lines_of cache block)) cache

-- the line that goes where one is installed
unfoldable pub replaced_of : Line → Cached → Option Line
replaced_of line cache = replaced_in cache.machine.ways (lines_of cache line.block)

-- the cache after a line was installed
unfoldable pub install_of : Line → Cached → Cached
install_of line cache =
    with_lines line.block (with_installed cache.machine.ways line (lines_of cache line.block)) cache

-- a load or a store of so many bytes from an offset on lies in a block
pub record IsAccess (machine : MachineParts) (offset width : ℕ) : Type 0 where
  pub bytes : IsWidth width
  pub aligned : offset % width ≡ 0
  pub inside : offset + width ≤ machine.block_bytes

-- a line that stands in a set
pub record LineFits (machine : MachineParts) (set : ℕ) (line : Line) : Type 0 where
  pub exists : line.block < machine.blocks
  pub here : set_of machine line.block ≡ set
  pub size : length line.bytes ≡ machine.block_bytes

-- the lines of a set
pub record AreLines (machine : MachineParts) (set : ℕ) (lines : List Line) : Type 0 where
  pub few : length lines ≤ machine.ways
  pub fit : All (LineFits machine set) lines
  pub distinct : AreDistinct lines

-- a cache as the code keeps it: as many sets as the machine has, each with lines of its own blocks
pub record IsCached (cache : Cached) : Type 0 where
  pub count : length cache.sets ≡ cache.machine.sets
  pub lines : (set : ℕ) → set < cache.machine.sets →
      AreLines cache.machine set (slice_index_or cache.sets set [])

-- a tag for each block, by its line
pub record AreTags (cache : Cached) (tags : List Tag) : Type 0 where
  pub count : length tags ≡ cache.machine.blocks
  pub each : (block : ℕ) → block < cache.machine.blocks → slice_index_or tags block Invalid ≡ tag_of cache block

-- what the code keeps: sets with room for their ways of blocks, and the tags of all blocks
abbrev pub cached : MachineParts → List LinesInRoom → Cached
cached machine sets = record { machine = machine; sets = map (λ (set : LinesInRoom). set.lines) sets }

pub record IsKept (machine : MachineParts) (tags : List Tag) (sets : List LinesInRoom) : Type 0 where
  pub room : All (λ (set : LinesInRoom). machine.ways ≤ set.room) sets
  pub size : All (λ (set : LinesInRoom). set.size ≡ machine.block_bytes) sets
  pub tagged : AreTags (cached machine sets) tags
  pub sound : IsCached (cached machine sets)
