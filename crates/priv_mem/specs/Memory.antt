-- A node's private memory: a list of bytes, counted from address 0. Numbers stand in it with their lowest byte
-- first, as the RISC-V unprivileged manual has them. The faults and their order are own.
use Rattle.std.specs.Prelude.{◌≡◌, ℕ, zero, suc, ◌+◌, ◌*◌, ◌/◌, ◌%◌, ◌⊎◌, Bool, ◌==◌, not, nat_lt, ◌&&◌, if◌then◌else◌, List, [], ◌∷◌, ◌++◌, length, take, drop, slice_range, Result, Ok, Err}
use Rattle.priv_mem.specs.declared.fault.MemFault.{MemFault}
use Rattle.priv_mem.specs.declared.fault.MemFault.TheVariants.{Misaligned, Outside}

-- how many bytes a load or a store may move
abbrev pub IsWidth : ℕ → Type 0
IsWidth width = (width ≡ 1) ⊎ ((width ≡ 2) ⊎ (width ≡ 4))

-- the number that bytes stand for, the lowest first
abbrev pub little_endian : List ℕ → ℕ
little_endian [] = 0
little_endian (byte ∷ rest) = byte + 256 * little_endian rest

-- the lowest bytes of a number, so many, the lowest first
abbrev pub low_bytes : ℕ → ℕ → List ℕ
low_bytes zero number = []
low_bytes (suc count) number = number % 256 ∷ low_bytes count (number / 256)

-- the memory with these bytes from the address on
abbrev pub overwritten : List ℕ → ℕ → List ℕ → List ℕ
overwritten memory address bytes = take address memory ++ (bytes ++ drop (address + length bytes) memory)

-- the address isn't a multiple of the width
abbrev pub is_misaligned : ℕ → ℕ → Bool
is_misaligned address width = not (address % width == 0)

-- one of so many bytes from the address on lies past the memory's size
abbrev pub is_outside : ℕ → ℕ → ℕ → Bool
is_outside size address count = nat_lt 0 count && nat_lt size (address + count)

-- where the first byte of a load or a store lies, or what refuses it: a misaligned address first
abbrev pub access_of : ℕ → ℕ → ℕ → Result ℕ MemFault
access_of size address width =
    if is_misaligned address width then Err Misaligned
    else (if is_outside size address width then Err Outside else Ok address)

-- what an access gives from where its first byte lies on, or what refuses it
abbrev pub access_gives : {A : Type 0} → (ℕ → A) → Result ℕ MemFault → Result A MemFault
access_gives given (Ok start) = Ok (given start)
access_gives given (Err fault) = Err fault

-- the number of so many bytes at an address
unfoldable pub load_of : List ℕ → ℕ → ℕ → Result ℕ MemFault
load_of memory address width =
    access_gives (λ start. little_endian (slice_range memory start (start + width))) (access_of (length memory) address width)

-- the memory after so many of the lowest bytes of a number were written at an address
unfoldable pub store_of : List ℕ → ℕ → ℕ → ℕ → Result (List ℕ) MemFault
store_of memory address width number =
    access_gives (λ start. overwritten memory start (low_bytes width number)) (access_of (length memory) address width)

-- the memory after bytes were laid into it from an address on, however aligned
unfoldable pub fill_of : List ℕ → ℕ → List ℕ → Result (List ℕ) MemFault
fill_of memory address bytes =
    if is_outside (length memory) address (length bytes) then Err Outside
    else Ok (overwritten memory address bytes)
