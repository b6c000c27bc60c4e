-- Tags, four to a byte, the first one in its lowest two bits. Own.
use Rattle.std.specs.Prelude.{◌≡◌, ℕ, ◌+◌, ◌*◌, ◌-◌, ◌/◌, ◌%◌, ◌==◌, if◌then◌else◌, List, length, map, slice_index_or}
use Rattle.std.specs.List.{range_with_len}
use Rattle.block_tags.specs.declared.tag.Tag.{Tag}
use Rattle.block_tags.specs.declared.tag.Tag.TheVariants.{Invalid, ReadOnly, Writable}

-- the number that stands for a tag, and the tag of a number
abbrev pub code_of : Tag → ℕ
code_of Invalid = 0
code_of ReadOnly = 1
code_of Writable = 2

abbrev pub tag_of : ℕ → Tag
tag_of code = if code == 0 then Invalid else if code == 1 then ReadOnly else Writable

-- what the lowest bit of a place in a byte is worth
abbrev pub worth_of : ℕ → ℕ
worth_of place = if place == 0 then 1 else if place == 1 then 4 else if place == 2 then 16 else 64

-- the number at a place of a byte, and the byte with another one there
abbrev pub code_in : ℕ → ℕ → ℕ
code_in byte place = byte / worth_of place % 4

abbrev pub with_code : ℕ → ℕ → ℕ → ℕ
with_code place code byte = byte - code_in byte place * worth_of place + code * worth_of place

-- the tag of a block
abbrev pub tag_in : List ℕ → ℕ → Tag
tag_in bytes block = tag_of (code_in (slice_index_or bytes (block / 4) 0) (block % 4))

-- the tags of so many blocks
abbrev pub tags_in : ℕ → List ℕ → List Tag
tags_in blocks bytes = map (tag_in bytes) (range_with_len 0 blocks)

-- as many bytes as the tags of so many blocks fill
abbrev pub bytes_for : ℕ → ℕ
bytes_for blocks = (blocks + 3) / 4

pub record ArePacked (blocks : ℕ) (bytes : List ℕ) : Type 0 where
  pub count : length bytes ≡ bytes_for blocks
