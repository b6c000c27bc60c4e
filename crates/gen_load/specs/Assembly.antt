-- The image of a listing: its instructions one after the other, with an offset in the place of each label. Own.
use Rattle.std.specs.Prelude.{ℕ, ℤ, pos, ◌+◌, ◌*◌, ◌-ℤ◌, Bool, true, false, if◌then◌else◌, List, [], ◌∷◌, ◌++◌, length, flat_map}
use Rattle.std.specs.List.{fold}
use Rattle.std.specs.Int.{w32, to_le_bytes}
use Rattle.rv_decode.specs.declared.instr.Instr.{Instr}
use Rattle.rv_decode.specs.declared.instr.Instr.TheVariants as instrs
use Rattle.rv_decode.specs.Encoding.{encode_of}
use Rattle.gen_load.specs.declared.line.Label.{Label}
use Rattle.gen_load.specs.declared.line.Label.TheVariants.{Right, Loop, Turn, Outer, Send, Seek, Found, Take}
use Rattle.gen_load.specs.declared.line.Line.{Line}
use Rattle.gen_load.specs.declared.line.Line.TheVariants.{Here, Plain, Branch, Jump}

abbrev pub is_same : Label → Label → Bool
is_same Right Right = true
is_same Loop Loop = true
is_same Turn Turn = true
is_same Outer Outer = true
is_same Send Send = true
is_same Seek Seek = true
is_same Found Found = true
is_same Take Take = true
is_same _ _ = false

-- where a label stands: after 4 bytes for each instruction before it
abbrev pub place_of : Label → List Line → ℕ
place_of label [] = 0
place_of label (Here other ∷ lines) = if is_same label other then 0 else place_of label lines
place_of label (Plain instr ∷ lines) = 4 + place_of label lines
place_of label (Branch op rs1 rs2 to ∷ lines) = 4 + place_of label lines
place_of label (Jump rd to ∷ lines) = 4 + place_of label lines

-- how far a label is from an instruction, which has so many before it
abbrev pub offset_of : List Line → Label → ℕ → ℤ
offset_of listing label before = pos (place_of label listing) -ℤ pos (4 * before)

-- a line's instruction comes after those of the lines before it
abbrev pub with_line : List Line → List Instr → Line → List Instr
with_line listing before (Here label) = before
with_line listing before (Plain instr) = before ++ instr ∷ []
with_line listing before (Branch op rs1 rs2 to) =
    before ++ instrs.Branch op rs1 rs2 (offset_of listing to (length before)) ∷ []
with_line listing before (Jump rd to) = before ++ instrs.Jal rd (offset_of listing to (length before)) ∷ []

-- the instructions of a listing
abbrev pub instructions_of : List Line → List Instr
instructions_of listing = fold (with_line listing) [] listing

-- the bytes of an instruction, the lowest first
abbrev pub bytes_of : Instr → List ℕ
bytes_of instr = to_le_bytes w32 (encode_of instr)

-- the bytes of a listing
abbrev pub assembled : List Line → List ℕ
assembled listing = flat_map bytes_of (instructions_of listing)
