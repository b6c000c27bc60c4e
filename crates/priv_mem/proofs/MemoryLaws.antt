-- Laws of loads and stores, over their definitions alone.
use Rattle.std.proofs.Common.{◌≡◌, ℕ, ◌+◌, ◌/◌, ◌%◌, ◌<◌, ◌≤◌, List, length, Ok, refl, ap, inl, inr, arith}
use Rattle.std.proofs.lemmas.Grind.{common_steps}
use Rattle.std.specs.Prelude.{slice_range, suc, zero}
use Rattle.priv_mem.specs.Memory.{IsWidth, little_endian, low_bytes, overwritten, load_of, store_of}

-- a multiple of a width below whole pages lies in them with all its bytes
pub multiple_in_pages : (size address width : ℕ) → IsWidth width → size % 4096 ≡ 0 → address % width ≡ 0 →
    address < size → address + width ≤ size
multiple_in_pages size address width (inl one) pages aligned inside = omega arith
multiple_in_pages size address width (inr (inl two)) pages aligned inside =
    let even : address % 2 ≡ 0 = rw two at aligned in omega arith
multiple_in_pages size address width (inr (inr four)) pages aligned inside =
    let even : address % 4 ≡ 0 = rw four at aligned in omega arith

-- an aligned load whose bytes lie in the memory gives their number
pub load_of-inside : (memory : List ℕ) (address width : ℕ) → address % width ≡ 0 → address + width ≤ length memory →
    load_of memory address width ≡ Ok (little_endian (slice_range memory address (address + width)))
unfolding load_of
load_of-inside memory address width aligned inside = grind (arith, common_steps)

-- an aligned store whose bytes lie in the memory is done
pub store_of-inside : (memory : List ℕ) (address width number : ℕ) → address % width ≡ 0 → address + width ≤ length memory →
    store_of memory address width number ≡ Ok (overwritten memory address (low_bytes width number))
unfolding store_of
store_of-inside memory address width number aligned inside = grind (arith, common_steps)

pub length-low_bytes : (count number : ℕ) → length (low_bytes count number) ≡ count
length-low_bytes zero number = refl
length-low_bytes (suc count) number = ap suc (length-low_bytes count (number / 256))

-- bytes that lie in the memory leave it as long as it was
pub length-overwritten : (memory bytes : List ℕ) (address : ℕ) → address + length bytes ≤ length memory →
    length (overwritten memory address bytes) ≡ length memory
length-overwritten memory bytes address inside = grind (arith, common_steps)
