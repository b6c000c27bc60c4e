-- The texts that show a machine with its images, and the words of an image. Own.
use Rattle.std.specs.Prelude.{ℕ, ◌+◌, ◌*◌, ◌/◌, ◌%◌, ◌^◌, ◌==◌, ◌||◌, not, Bool, if◌then◌else◌, List, [], ◌++◌, length, drop, codes, decimal}
use Rattle.std.specs.List.{enumerate_from, flat_map, range_with_len}
use Rattle.byteorder.specs.Endian.{little_number}
use Rattle.wt_params.specs.declared.parts.MachineParts.{MachineParts}
use Rattle.wt_params.specs.declared.parts.Field.{Field}
use Rattle.wt_params.specs.Fields.{fields, key_of, number_of}
use Rattle.machine_json.specs.Table.{is_of_version_2}
use Rattle.wt_text.specs.Text.{hex_of, line_end}
use Rattle.rv_decode.specs.Table.{decode_of}
use Rattle.rv_decode.specs.Text.{text_of}
use Rattle.elf_image.specs.declared.image.Image.{Image}
use Rattle.elf_image.specs.declared.image.Segment.{Segment}
use Rattle.image_loader.specs.Images.{LoadedImages}

-- ---- a machine and its images

-- a number of the machine, after its key
abbrev pub field_line_of : MachineParts → Field → List ℕ
field_line_of machine field = key_of field ++ codes " " ++ decimal (number_of machine field) ++ line_end

-- descriptions of a version have a field: those of version 1 have none that came with version 2
abbrev pub has_field : ℕ → Field → Bool
has_field version field = (version == 2) || not (is_of_version_2 field)

-- the line of a field that descriptions of the version have
abbrev pub line_in : ℕ → MachineParts → Field → List ℕ
line_in version machine field = if has_field version field then field_line_of machine field else []

-- an image after its number: where it begins, and how many segments it has
abbrev pub image_line_of : ℕ × Image → List ℕ
image_line_of (number, image) =
    codes "image " ++ decimal number ++ (codes " entry " ++ hex_of image.entry)
    ++ (codes " segments " ++ decimal (length image.segments)) ++ line_end

-- the version of the description that the machine is from
abbrev pub version_line_of : ℕ → List ℕ
version_line_of version = codes "version " ++ decimal version ++ line_end

-- the version, the numbers of its fields in order, and the images in order
unfoldable pub machine_text : ℕ → MachineParts → LoadedImages → List ℕ
machine_text version machine loaded =
    version_line_of version
    ++ flat_map (line_in version machine) fields
    ++ flat_map image_line_of (enumerate_from 0 loaded.images)

-- ---- the words of an image

-- a word after its address, and what it says as an instruction
abbrev pub word_line_of : ℕ → ℕ → List ℕ
word_line_of address word =
    hex_of address ++ (codes " " ++ hex_of word) ++ codes " " ++ text_of (decode_of word) ++ line_end

-- the word with a number, each of 4 bytes, the lowest byte first
abbrev pub word_of : List ℕ → ℕ → ℕ
word_of bytes number = little_number 4 (drop (4 * number) bytes)

-- the address of the word with a number, in an address space that wraps
abbrev pub address_of : Segment → ℕ → ℕ
address_of segment number = (segment.at + 4 * number) % 2 ^ 32

-- the line of the word with a number
abbrev pub segment_line_of : Segment → ℕ → List ℕ
segment_line_of segment number = word_line_of (address_of segment number) (word_of segment.bytes number)

-- the whole words of a segment's own bytes; a rest of fewer than 4 bytes is none
abbrev pub segment_text : Segment → List ℕ
segment_text segment = flat_map (segment_line_of segment) (range_with_len 0 (length segment.bytes / 4))

abbrev pub words_text : Image → List ℕ
words_text image = flat_map segment_text image.segments
