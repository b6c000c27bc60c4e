-- The numbers of the command line. Own.
use Rattle.std.specs.Prelude.{ℕ, ◌&&◌, nat_le, Bool, List, length, Option, Some, None, if◌then◌else◌}
use Rattle.std.specs.Str.{all_ascii_digits}
use Rattle.std.specs.Prelude.{option_map}
use Rattle.std.specs.Str.Parse.{digits_value}

-- 1 to 20 decimal digits
abbrev pub is_numeral : List ℕ → Bool
is_numeral text = nat_le 1 (length text) && nat_le (length text) 20 && all_ascii_digits text

-- the number that the digits write, where it is from the least to the greatest
abbrev pub number_of : ℕ → ℕ → List ℕ → Option ℕ
number_of least greatest text =
    let number = digits_value 10 text in
    if is_numeral text && (nat_le least number && nat_le number greatest) then Some number else None

-- the number of an option, if the option stands there; None where it is refused
abbrev pub option_number_of : ℕ → ℕ → Option (List ℕ) → Option (Option ℕ)
option_number_of least greatest None = Some None
option_number_of least greatest (Some text) = option_map Some (number_of least greatest text)
