-- The programs are lists of instructions that have words.
use Rattle.std.proofs.Common.{◌≡◌, ◌≤◌, ◌%◌, ◌==◌, ℕ, pos, Bool, true, false, if◌then◌else◌, length, refl, rules, tests, arith}
use Rattle.std.specs.List.{All}
use Rattle.std.specs.Int.Signed.{le_z}
use Rattle.rv_decode.specs.Fields.{IsEncodable}
use Rattle.gen_load.specs.Assembly.{instructions_of}
use Rattle.gen_load.specs.Listings.{stencil, counter, all_to_all}
use Rattle.gen_load.specs.Generated.{listing_of, rounds_of, seed_of}
use Rattle.gen_load.proofs.Fits.{all_encodable}

small : (n : ℕ) → n ≤ 2047 → le_z (pos n) (pos 2047) ≡ true
small n h = search (rules, tests)

pub stencil_encodable : (rounds seed : ℕ) → rounds ≤ 2047 → seed ≤ 2047 → All IsEncodable (instructions_of (stencil rounds seed))
stencil_encodable rounds seed r s =
    all_encodable (instructions_of (stencil rounds seed)) (rw (small rounds r, small seed s) refl)

pub counter_encodable : (rounds : ℕ) → rounds ≤ 2047 → All IsEncodable (instructions_of (counter rounds))
counter_encodable rounds r = all_encodable (instructions_of (counter rounds)) (rw (small rounds r) refl)

pub all_to_all_encodable : (rounds : ℕ) → rounds ≤ 2047 → All IsEncodable (instructions_of (all_to_all rounds))
all_to_all_encodable rounds r = all_encodable (instructions_of (all_to_all rounds)) (rw (small rounds r) refl)

-- one of three, by two tests
one_of_three : {A : Type 0} (P : A → Type 0) (a b : Bool) (x y z : A) → P x → P y → P z → P (if a then x else if b then y else z)
one_of_three P true b x y z px py pz = px
one_of_three P false true x y z px py pz = py
one_of_three P false false x y z px py pz = pz

pub program_encodable : (number : ℕ) → All IsEncodable (instructions_of (listing_of number))
unfolding listing_of
program_encodable number =
    one_of_three (λ listing. All IsEncodable (instructions_of listing)) (number % 3 == 0) (number % 3 == 1) _ _ _
    (stencil_encodable (rounds_of number) (seed_of number) (omega arith) (omega arith))
    (counter_encodable (rounds_of number) (omega arith))
    (all_to_all_encodable (rounds_of number) (omega arith))

pub program_short : (number : ℕ) → length (listing_of number) ≤ 1000
unfolding listing_of
program_short number =
    one_of_three (λ listing. length listing ≤ 1000) (number % 3 == 0) (number % 3 == 1)
    (stencil (rounds_of number) (seed_of number)) (counter (rounds_of number)) (all_to_all (rounds_of number))
    (omega arith) (omega arith) (omega arith)
