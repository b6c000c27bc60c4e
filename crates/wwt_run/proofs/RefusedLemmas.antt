-- The line of an image that lies outside.
use Rattle.std.proofs.Common.{◌≡◌, ℕ, List, [], ◌∷◌, ap, sym, ◌∙◌}
use Rattle.std.specs.Prelude.{codes, decimal}
use Rattle.wt_text.specs.Text.{eight_digits}
use Rattle.wwt_case.specs.declared.refusal.Refusal.{Refusal}
use Rattle.wwt_case.specs.declared.refusal.Refusal.TheVariants.{Image}
use Rattle.wwt_case.specs.declared.refusal.ImageRefusal.TheVariants.{Outside}
use Rattle.wwt_run.specs.Refused.{error_line}
use Rattle.wwt_run.specs.Refused.{joined}

pub outside_line : (refusal : Refusal) (number address : ℕ) (image digits : List ℕ) → refusal ≡ Image number (Outside address) → image ≡ decimal number → digits ≡ eight_digits address
    → joined (codes "wwt: image " ∷ image ∷ codes ": " ∷ codes "outside 0x" ∷ digits ∷ (10 ∷ []) ∷ []) ≡ error_line refusal
unfolding error_line
outside_line refusal number address image digits is image_is digits_are =
    (λ i. joined (codes "wwt: image " ∷ image_is i ∷ codes ": " ∷ codes "outside 0x" ∷ digits_are i ∷ (10 ∷ []) ∷ []))
    ∙ ap error_line (sym is)
