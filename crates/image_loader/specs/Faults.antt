-- What refuses images. Addresses are numbers, and don't wrap. Own.
use Rattle.std.specs.Prelude.{ℕ, ◌+◌, ◌%◌, Bool, not, ◌==◌, nat_lt, ◌&&◌, ◌||◌, if◌then◌else◌, List, [], ◌∷◌, find, Option, Some, None, is_some, option_map}
use Rattle.std.specs.Option.{option_or}
use Rattle.std.specs.List.{range_with_len}
use Rattle.wt_params.specs.declared.parts.MachineParts.{MachineParts}
use Rattle.wt_params.specs.Machine.{shared_block, block_address}
use Rattle.elf_image.specs.declared.image.Image.{Image}
use Rattle.elf_image.specs.declared.image.Segment.{Segment}
use Rattle.image_loader.specs.declared.fault.LoadFault.{LoadFault}
use Rattle.image_loader.specs.declared.fault.LoadFault.TheVariants.{Outside, BadEntry}

-- an address lies in private or in shared memory
abbrev pub is_memory : MachineParts → ℕ → Bool
is_memory machine address = nat_lt address machine.private_bytes || is_some (shared_block machine address)

-- the addresses of a segment, in rising order
abbrev pub addresses : Segment → List ℕ
addresses segment = range_with_len segment.at segment.size

-- the least address of a segment that lies in no memory
abbrev pub outside_of : MachineParts → Segment → Option ℕ
outside_of machine segment = find (λ address. not (is_memory machine address)) (addresses segment)

-- the same of the first segment that has one
abbrev pub segments_fault : MachineParts → List Segment → Option ℕ
segments_fault machine [] = None
segments_fault machine (segment ∷ segments) = option_or (outside_of machine segment) (segments_fault machine segments)

-- a program begins at a whole word of private memory
abbrev pub is_entry : MachineParts → ℕ → Bool
is_entry machine entry = (entry % 4 == 0) && nat_lt entry machine.private_bytes

abbrev pub entry_fault : MachineParts → ℕ → Image → Option LoadFault
entry_fault machine number image =
    if is_entry machine image.entry then None else Some (BadEntry number image.entry)

-- of an image first its segments, then its entry
abbrev pub image_fault : MachineParts → ℕ → Image → Option LoadFault
image_fault machine number image =
    option_or (option_map (Outside number) (segments_fault machine image.segments)) (entry_fault machine number image)

-- the first fault of images that are counted from a number on
abbrev pub load_fault : MachineParts → ℕ → List Image → Option LoadFault
load_fault machine number [] = None
load_fault machine number (image ∷ images) =
    option_or (image_fault machine number image) (load_fault machine (number + 1) images)

-- where the memory that an address lies in ends
abbrev pub memory_end : MachineParts → ℕ → Option ℕ
memory_end machine address =
    if nat_lt address machine.private_bytes then Some machine.private_bytes
    else if is_some (shared_block machine address) then Some (block_address machine machine.blocks)
    else None
