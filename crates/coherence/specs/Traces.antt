-- What shared memory holds along a trace, as the stores in it leave it, and whether each load in it reads that. Own;
-- instructions and how they count bytes are from the RISC-V unprivileged manual, RV32I.
use Rattle.std.specs.Prelude.{ℕ, ◌+◌, ◌-◌, ◌*◌, ◌==◌, nat_le, Bool, true, false, List, [], ◌∷◌, ◌++◌, length, take, drop, replicate, slice_range, Option, Some, None, if◌then◌else◌}
use Rattle.wt_params.specs.declared.parts.MachineParts.{MachineParts}
use Rattle.wt_params.specs.Machine.{shared_base}
use Rattle.rv_decode.specs.declared.instr.Instr.{Instr}
use Rattle.rv_decode.specs.declared.instr.Instr.TheVariants.{Load}
use Rattle.rv_decode.specs.declared.instr.LoadOp.{LoadOp}
use Rattle.rv_decode.specs.Table.{decode_of}
use Rattle.rv_exec.specs.Widths.{load_width_of, widened}
use Rattle.priv_mem.specs.Memory.{little_endian, low_bytes, overwritten}
use Rattle.image_loader.specs.Images.{LoadedImages}
use Rattle.image_loader.specs.Loading.{shared_of}
use Rattle.wt_trace.specs.declared.record.What.{What}
use Rattle.wt_trace.specs.declared.record.What.TheVariants.{Step, Message}
use Rattle.wt_trace.specs.declared.record.Deed.{Deed}
use Rattle.wt_trace.specs.declared.record.Deed.TheVariants.{Loaded, Stored}
use Rattle.wt_trace.specs.declared.record.Record.{Record}

-- ---- shared memory, from its first byte on

abbrev pub is_shared : ℕ → Bool
is_shared address = nat_le shared_base address

-- so many bytes from a place on: a byte past the end is zero
abbrev pub bytes_from : List ℕ → ℕ → ℕ → List ℕ
bytes_from memory place count = take count (drop place memory ++ replicate count 0)

-- the memory after so many of the lowest bytes of a number were put there from a place on, but for those past the end
abbrev pub with_number : List ℕ → ℕ → ℕ → ℕ → List ℕ
with_number memory place width number =
    take (length memory) (overwritten memory place (low_bytes width number))

-- the bytes of a block
abbrev pub bytes_of : MachineParts → List ℕ → ℕ → List ℕ
bytes_of machine memory block =
    slice_range memory (block * machine.block_bytes) (block * machine.block_bytes + machine.block_bytes)

-- ---- records, in their order

-- what is known before a record: shared memory as the stores so far leave it, and the word of the last step of each
-- node
pub record Known : Type 0 where
  pub memory : List ℕ
  pub word : ℕ → Option ℕ

-- at the start shared memory is as loading leaves it, and there was no step
abbrev pub known_at_start : LoadedImages → Known
known_at_start loaded = record { memory = shared_of loaded; word = λ node. None }

-- the word of a record: of a message, that of the last step of its node
abbrev pub word_of : Known → Record → Option ℕ
word_of known item = by item.what
  where
    by : What → Option ℕ
    by (Step pc word) = word
    by (Message msg) = known.word item.key.to

abbrev pub stored_by : Deed → List ℕ → List ℕ
stored_by (Stored address width value) memory =
    if is_shared address then with_number memory (address - shared_base) width value else memory
stored_by deed memory = memory

abbrev pub after_record : Record → Known → Known
after_record item known = record {
  memory = stored_by item.deed known.memory;
  word = λ node. if node == item.key.to then word_of known item else known.word node;
}

abbrev pub after_records : List Record → Known → Known
after_records [] known = known
after_records (item ∷ rest) known = after_records rest (after_record item known)

-- ---- loads

-- the load that a word is, if it is one
abbrev pub load_by : Instr → Option LoadOp
load_by (Load op rd rs1 imm) = Some op
load_by instr = None

abbrev pub load_in : Option ℕ → Option LoadOp
load_in None = None
load_in (Some word) = load_by (decode_of word)

-- A load reads the number of its bytes, widened.
abbrev pub reads : Option LoadOp → List ℕ → ℕ → ℕ → Bool
reads None memory address value = false
reads (Some op) memory address value =
    widened op (little_endian (bytes_from memory (address - shared_base) (load_width_of op))) == value

-- what is loaded from shared memory is what a load reads there
abbrev pub is_right_deed : Option ℕ → List ℕ → Deed → Bool
is_right_deed word memory (Loaded address value) =
    if is_shared address then reads (load_in word) memory address value else true
is_right_deed word memory deed = true

abbrev pub is_right : Known → Record → Bool
is_right known item = is_right_deed (word_of known item) known.memory item.deed

-- the place of the first record that isn't right, counted from a place on
abbrev pub first_wrong : ℕ → Known → List Record → Option ℕ
first_wrong place known [] = None
first_wrong place known (item ∷ rest) =
    if is_right known item then first_wrong (place + 1) (after_record item known) rest else Some place
