-- The text of bytes is that of their parts.
use Rattle.std.proofs.Common.{◌≡◌, ℕ, List, [], ◌∷◌, ◌++◌, ◌/◌, ◌%◌, ◌+◌, ◌<◌, length, take, get_or, refl, ap, sym, ◌∙◌, append_assoc}
use Rattle.std.proofs.lemmas.List.{take_more}
use Rattle.std.specs.Prelude.{slice_index}
use Rattle.hex.specs.Hex.{encode_with, lower_digits}
use Rattle.wt_text.specs.Text.{hex_pairs_of}

encode-append : (t xs ys : List ℕ) → encode_with t (xs ++ ys) ≡ encode_with t xs ++ encode_with t ys
unfolding encode_with
encode-append t [] ys = refl
encode-append t (x ∷ xs) ys =
    ap (λ (rest : List ℕ). slice_index t (x / 16) ∷ slice_index t (x % 16) ∷ rest) (encode-append t xs ys)

pub pairs_append : (xs ys : List ℕ) → hex_pairs_of (xs ++ ys) ≡ hex_pairs_of xs ++ hex_pairs_of ys
pairs_append xs ys = encode-append lower_digits xs ys

pub pairs_nothing : hex_pairs_of [] ≡ []
unfolding encode_with
pairs_nothing = refl

-- one more byte
pub pairs_more : (bytes old before after : List ℕ) (i : ℕ) → i < length bytes → before ≡ old ++ hex_pairs_of (take i bytes) → after ≡ before ++ hex_pairs_of (get_or bytes i 0 ∷ []) → after ≡ old ++ hex_pairs_of (take (i + 1) bytes)
pairs_more bytes old before after i within so_far added =
    added ∙ (ap (λ (t : List ℕ). t ++ hex_pairs_of (get_or bytes i 0 ∷ [])) so_far
    ∙ (append_assoc old (hex_pairs_of (take i bytes)) (hex_pairs_of (get_or bytes i 0 ∷ []))
    ∙ ap (λ (t : List ℕ). old ++ t) (sym (pairs_append (take i bytes) (get_or bytes i 0 ∷ [])) ∙ ap hex_pairs_of (sym (take_more bytes i 0 within)))))
