-- The images of a list of entries, one after the other.
use Rattle.std.proofs.Common.{◌≡◌, ℕ, ◌+◌, List, [], ◌∷◌, ◌++◌, Option, None, Result, Ok, Err, refl, sym, ap, ◌∙◌, append_assoc}
use Rattle.std.proofs.lemmas.List.{append-nil}
use Rattle.std.specs.Prelude.{codes}
use Rattle.serde_json.specs.Data.{Data, Items, item}
use Rattle.serde_json.specs.Find.{get}
use Rattle.machine_json.specs.declared.description.ImageSpec.{ImageSpec}
use Rattle.machine_json.specs.declared.fault.MachineFault.{MachineFault}
use Rattle.machine_json.specs.Answers.{IsRefusalOf, ◌>>◌, ◌>>=◌}
use Rattle.machine_json.specs.Images.{image_of, image_from, images_from, entry_fault}
use Rattle.machine_json.proofs.FaultLaws.{refusal_of_step}

abbrev pub Images : Type 0
Images = Result (List ImageSpec) MachineFault

-- the images so far, and then the rest
abbrev pub after : List ImageSpec → Images → Images
after images rest = rest >>= λ more. Ok (images ++ more)

pub after-nothing : (rest : Images) → after [] rest ≡ rest
after-nothing (Ok more) = refl
after-nothing (Err fault) = refl

pub after-all : (images : List ImageSpec) → after images (Ok []) ≡ Ok images
after-all images = ap Ok (append-nil images)

one_more : (images : List ImageSpec) (image : ImageSpec) (rest : Images) →
    after images (rest >>= λ more. Ok (image ∷ more)) ≡ after (images ++ image ∷ []) rest
one_more images image (Ok more) = ap Ok (sym (append_assoc images (image ∷ []) more))
one_more images image (Err fault) = refl

module _ (number : ℕ) (entry : Data) (entries : Items) (images : List ImageSpec) where
  -- an entry's image comes to those so far
  pub after-image : (image : ImageSpec) → image_of number entry ≡ Ok image →
      after images (images_from number (item entry entries)) ≡ after (images ++ image ∷ []) (images_from (number + 1) entries)
  after-image image is =
      ap (λ first. after images (first >>= λ one. images_from (number + 1) entries >>= λ more. Ok (one ∷ more))) is
      ∙ one_more images image (images_from (number + 1) entries)

  -- an entry's refusal is that of the list
  pub after-refusal : (fault : MachineFault) → IsRefusalOf (image_of number entry) fault →
      IsRefusalOf (after images (images_from number (item entry entries))) fault
  after-refusal fault refused = refusal_of_step _ _ _ (refusal_of_step _ _ _ refused)

-- an entry without a fault of its own is read by its sources
pub image_of-from : (i : ℕ) (entry : Data) (hex file : Option Data) → entry_fault i entry ≡ None →
    hex ≡ get (codes "hex") entry → file ≡ get (codes "file") entry → image_of i entry ≡ image_from i entry hex file
unfolding image_of
image_of-from i entry hex file none hex_is file_is =
    ap (λ fault. fault >> image_from i entry (get (codes "hex") entry) (get (codes "file") entry)) none
    ∙ ap (λ h. image_from i entry h (get (codes "file") entry)) (sym hex_is) ∙ ap (λ f. image_from i entry hex f) (sym file_is)
