-- The images of a description. Own.
use Rattle.std.specs.Prelude.{◌≡◌, ℕ, ◌+◌, ◌%◌, ◌^◌, Bool, true, false, ◌==◌, ◌&&◌, ◌||◌, nat_lt, if◌then◌else◌, List, [], ◌∷◌, ◌++◌, codes, decimal, Option, Some, None, is_some, option_map, Result, Ok, Err}
use Rattle.std.specs.Str.{bytes_eq}
use Rattle.hex.specs.Hex.{decode_of}
use Rattle.hex.specs.declared.error.FromHexError.{FromHexError}
use Rattle.serde_json.specs.Data.{Data, Items, no_items, item, Members}
use Rattle.serde_json.specs.Events.{items_len}
use Rattle.serde_json.specs.Find.{get, as_str, as_array, as_object}
use Rattle.machine_json.specs.declared.keys.Table.TheVariants as tables
use Rattle.machine_json.specs.declared.description.ImageSpec.{ImageSpec}
use Rattle.machine_json.specs.declared.description.ImageSpec.TheVariants.{Bytes, File}
use Rattle.machine_json.specs.declared.fault.MachineFault.{MachineFault}
use Rattle.machine_json.specs.declared.fault.MachineFault.TheVariants.{Unknown, Missing, Kind, Range, Hex}
use Rattle.machine_json.specs.Answers.{◌>>◌, ◌>>=◌}
use Rattle.machine_json.specs.Table.{images_key, unknown_in, whole_number}

-- the key of an image, by its number, and of a member of it
abbrev pub image_key : ℕ → List ℕ
image_key i = codes "images." ++ decimal i

abbrev pub member_key : ℕ → List ℕ → List ℕ
member_key i name = image_key i ++ codes "." ++ name

-- where flat bytes go, an instruction can stand
abbrev pub IsPlaced : ImageSpec → Type 0
IsPlaced (Bytes at bytes) = at % 4 ≡ 0
IsPlaced (File name elf at) = at % 4 ≡ 0

-- a member's text
abbrev pub text_or : ℕ → List ℕ → Option (List ℕ) → Result (List ℕ) MachineFault
text_or i name None = Err (Kind (member_key i name))
text_or i name (Some text) = Ok text

abbrev pub text_of : ℕ → List ℕ → Data → Result (List ℕ) MachineFault
text_of i name value = text_or i name (as_str value)

-- where flat bytes go: a multiple of 4 below 2^32, by default 0
abbrev pub place_from : ℕ → Option ℕ → Result ℕ MachineFault
place_from i None = Err (Kind (member_key i (codes "at")))
place_from i (Some place) =
    if (place % 4 == 0) && nat_lt place (2 ^ 32) then Ok place else Err (Range (member_key i (codes "at")) place)

abbrev pub place_at : ℕ → Option Data → Result ℕ MachineFault
place_at i None = Ok 0
place_at i (Some value) = place_from i (whole_number value)

unfoldable pub place_of : ℕ → Data → Result ℕ MachineFault
place_of i entry = place_at i (get (codes "at") entry)

-- whether a file is an ELF executable, as by default it is
abbrev pub is_elf_text : ℕ → Option (List ℕ) → Result Bool MachineFault
is_elf_text i None = Err (Kind (member_key i (codes "format")))
is_elf_text i (Some text) =
    if bytes_eq text (codes "elf") then Ok true
    else if bytes_eq text (codes "flat") then Ok false
    else Err (Kind (member_key i (codes "format")))

abbrev pub is_elf_at : ℕ → Option Data → Result Bool MachineFault
is_elf_at i None = Ok true
is_elf_at i (Some value) = is_elf_text i (as_str value)

unfoldable pub is_elf_of : ℕ → Data → Result Bool MachineFault
is_elf_of i entry = is_elf_at i (get (codes "format") entry)

-- a format stands beside bytes, which have none
abbrev pub format_fault : ℕ → Data → Option MachineFault
format_fault i entry =
    if is_some (get (codes "format") entry) then Some (Unknown (member_key i (codes "format"))) else None

-- the bytes of a text of hexadecimal digits
abbrev pub bytes_or : ℕ → Result (List ℕ) FromHexError → Result (List ℕ) MachineFault
bytes_or i (Ok bytes) = Ok bytes
bytes_or i (Err refused) = Err (Hex i)

-- an image whose bytes stand in the description
unfoldable pub hex_image : ℕ → Data → Data → Result ImageSpec MachineFault
hex_image i entry hex = do
  text ← text_of i (codes "hex") hex
  format_fault i entry
  place ← place_of i entry
  bytes ← bytes_or i (decode_of text)
  Ok (Bytes place bytes)

-- an image in a file
unfoldable pub file_image : ℕ → Data → Data → Result ImageSpec MachineFault
file_image i entry file = do
  name ← text_of i (codes "file") file
  elf ← is_elf_of i entry
  place ← place_of i entry
  Ok (File name elf place)

-- by the one of its two sources that is there
abbrev pub image_from : ℕ → Data → Option Data → Option Data → Result ImageSpec MachineFault
image_from i entry (Some hex) None = hex_image i entry hex
image_from i entry None (Some file) = file_image i entry file
image_from i entry None None = Err (Missing (member_key i (codes "hex")))
image_from i entry (Some hex) (Some file) = Err (Missing (member_key i (codes "hex")))

-- an entry is an object of nothing but what belongs to an image
abbrev pub entry_members_fault : ℕ → Option Members → Option MachineFault
entry_members_fault i None = Some (Kind (image_key i))
entry_members_fault i (Some members) = option_map (λ name. Unknown (member_key i name)) (unknown_in tables.Image members)

unfoldable pub entry_fault : ℕ → Data → Option MachineFault
entry_fault i entry = entry_members_fault i (as_object entry)

-- an entry of the list, with its number
unfoldable pub image_of : ℕ → Data → Result ImageSpec MachineFault
image_of i entry = do
  entry_fault i entry
  image_from i entry (get (codes "hex") entry) (get (codes "file") entry)

-- the entries in order, counted from a number on
abbrev pub images_from : ℕ → Items → Result (List ImageSpec) MachineFault
images_from i no_items = Ok []
images_from i (item entry entries) = do
  image ← image_of i entry
  images ← images_from (i + 1) entries
  Ok (image ∷ images)

-- one image for all nodes, or one for each
abbrev pub images_in : ℕ → Option Items → Result (List ImageSpec) MachineFault
images_in nodes None = Err (Kind images_key)
images_in nodes (Some entries) =
    if (items_len entries == 1) || (items_len entries == nodes) then images_from 0 entries
    else Err (Range images_key (items_len entries))

abbrev pub images_at : ℕ → Option Data → Result (List ImageSpec) MachineFault
images_at nodes None = Err (Missing images_key)
images_at nodes (Some value) = images_in nodes (as_array value)

unfoldable pub images_of : ℕ → Data → Result (List ImageSpec) MachineFault
images_of nodes description = images_at nodes (get images_key description)
