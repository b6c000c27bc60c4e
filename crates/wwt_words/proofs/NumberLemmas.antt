-- The number of a text that is too great for 64 bits is outside every range.
use Rattle.std.proofs.Common.{◌≡◌, ℕ, ◌<◌, ◌^◌, Bool, true, false, ◌&&◌, List, length, Some, None, cond, refl, arith, rules}
use Rattle.std.specs.Prelude.{nat_le, Err}
use Rattle.std.specs.Str.{all_ascii_digits}
use Rattle.std.specs.Str.Parse.{IsNumeral, digits_value, without_leading_plus}
use Rattle.std.proofs.lemmas.Bool.{and_parts, leb-true}
use Rattle.std.proofs.lemmas.Bool.Decides.{nat_tests}
use Rattle.std.proofs.lemmas.Str.Parse.{IsNumeralModel, numerals_by_value, parse_digits}
use Rattle.wwt_words.specs.Numbers.{is_numeral, number_of}

pub own : IsNumeralModel (λ digits. all_ascii_digits digits ≡ true) (digits_value 10)
own = numerals_by_value _ (search rules)

refused : (b : Bool) (least greatest number : ℕ) → greatest < number → cond (b && (nat_le least number && nat_le number greatest)) (Some number) None ≡ None
refused false least greatest number h = refl
refused true least greatest number h = grind (arith, nat_tests)

pub too_great : (least greatest : ℕ) (text : List ℕ) → (IsNumeral 10 (without_leading_plus text) × (digits_value 10 (without_leading_plus text) < 2 ^ 64) → ⊥) → is_numeral text ≡ true → greatest < 2 ^ 64 → number_of least greatest text ≡ None
too_great least greatest text parsed numeral fits =
    let parts = and_parts _ _ numeral in
    let some : 0 < length text = leb-true 1 (length text) ((and_parts _ _ parts.0).0) in
    let not_small : (digits_value 10 text < 2 ^ 64 → ⊥) = λ h. parse_digits own {E = ℕ} 64 text (Err 0) parsed parts.1 (some, h) in
    refused (is_numeral text) least greatest (digits_value 10 text) (omega (arith, not_small))
