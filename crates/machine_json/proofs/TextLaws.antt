-- What a text says.
use Rattle.std.proofs.Common.{◌≡◌, ℕ, List, Bool, true, false, cond, None, Option, refl, ap}
use Rattle.std.specs.Prelude.{IsUtf8}
use Rattle.std.specs.Str.{is_utf8}
use Rattle.std.proofs.lemmas.Str.{IsUtf8-from_is_utf8, is_utf8-from_IsUtf8}
use Rattle.serde_json.specs.Data.{Data}
use Rattle.serde_json.specs.Read.{read}
use Rattle.machine_json.specs.Description.{data_of}

pub data_of-text : (bytes : List ℕ) → IsUtf8 bytes → data_of bytes ≡ read bytes
unfolding data_of
data_of-text bytes text = ap (λ b. cond b (read bytes) None) (is_utf8-from_IsUtf8 bytes text)

none_step : (b : Bool) (some : Option Data) → (b ≡ true → ⊥) → cond b some None ≡ None
none_step true some other = absurd (other refl)
none_step false some other = refl

pub data_of-none : (bytes : List ℕ) → (IsUtf8 bytes → ⊥) → data_of bytes ≡ None
unfolding data_of
data_of-none bytes other = none_step (is_utf8 bytes) (read bytes) (λ is. other (IsUtf8-from_is_utf8 bytes is))
