-- The fields of a word. From the RISC-V unprivileged manual, which numbers bits from 0, the lowest.
use Rattle.std.specs.Prelude.{ℕ, ℤ, ◌+◌, ◌-◌, ◌/◌, ◌%◌, ◌^◌, nat_lt, if◌then◌else◌}
use Rattle.std.specs.Int.{w32, cast_signed}

-- the bits from high to low, both among them, as a number
abbrev pub bits_of : ℕ → ℕ → ℕ → ℕ
bits_of word high low = word / 2 ^ low % 2 ^ (high - low + 1)

-- the low bits of a value, where the highest of them is copied into all bits above
abbrev pub sign_extended : ℕ → ℕ → ℕ
sign_extended value width =
    if nat_lt (value % 2 ^ width) (2 ^ (width - 1))
    then value % 2 ^ width
    else value % 2 ^ width + (2 ^ 32 - 2 ^ width)

-- a word as a signed number, two's complement
abbrev pub signed : ℕ → ℤ
signed word = cast_signed w32 word
