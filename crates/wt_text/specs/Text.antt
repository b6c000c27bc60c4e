-- How numbers and bytes are printed. Own.
use Rattle.std.specs.Prelude.{ℕ, List, [], ◌∷◌, ◌++◌, codes, decimal}
use Rattle.std.specs.Int.{w32, to_be_bytes}
use Rattle.hex.specs.Hex.{encode_lower}

-- the one byte that ends a line
abbrev pub line_end : List ℕ
line_end = 10 ∷ []

-- bytes as pairs of lower-case hexadecimal digits
abbrev pub hex_pairs_of : List ℕ → List ℕ
hex_pairs_of bytes = encode_lower bytes

-- a word as eight digits, the highest first
abbrev pub eight_digits : ℕ → List ℕ
eight_digits word = hex_pairs_of (to_be_bytes w32 word)

abbrev pub hex_of : ℕ → List ℕ
hex_of word = codes "0x" ++ eight_digits word

-- a counter's name and number
unfoldable pub counter_of : List ℕ → ℕ → List ℕ
counter_of name number = codes " " ++ name ++ codes " " ++ decimal number
