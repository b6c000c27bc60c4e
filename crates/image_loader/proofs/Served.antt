-- The image that serves a node, of images that can be loaded.
use Rattle.std.proofs.Common.{◌≡◌, ℕ, ◌<◌, ◌⊎◌, inl, inr, [], length, get_or, Bool, true, false, cond, Some, eqb, eqb-true, refl, ap, ◌∙◌, arith}
use Rattle.std.specs.Prelude.{slice_get}
use Rattle.std.proofs.lemmas.Option.{slice_get-get_or}
use Rattle.elf_image.specs.declared.image.Image.{Image}
use Rattle.image_loader.specs.Images.{LoadedImages, image_of}
use Rattle.image_loader.specs.Loading.{AreLoaded, IsProgram, shared_bytes}

-- an image that serves a node and can be loaded
pub record IsServed (loaded : LoadedImages) (node : ℕ) : Type 0 where
  pub image : Image
  pub found : image_of loaded node ≡ Some image
  pub program : IsProgram loaded.private_bytes (shared_bytes loaded) image

pub is_served : (loaded : LoadedImages) (node : ℕ) → AreLoaded loaded → node < loaded.nodes → IsServed loaded node
is_served loaded node are there = by (eqb (length loaded.images) 1) refl are.count
  where
    none : Image
    none = record { entry = 0; segments = [] }

    at : (k : ℕ) → image_of loaded node ≡ slice_get loaded.images k → k < length loaded.images → IsServed loaded node
    at k is within = record {
      image = get_or loaded.images k none;
      found = is ∙ slice_get-get_or loaded.images k none within;
      program = are.programs k none within;
    }

    by : (b : Bool) → eqb (length loaded.images) 1 ≡ b → (length loaded.images ≡ 1) ⊎ (length loaded.images ≡ loaded.nodes) → IsServed loaded node
    by true one count = let e = eqb-true (length loaded.images) 1 one in at 0 (ap (λ (c : Bool). slice_get loaded.images (cond c 0 node)) one) (omega arith)
    by false many (inl single) = absurd cc
    by false many (inr each) = at node (ap (λ (c : Bool). slice_get loaded.images (cond c 0 node)) many) (omega arith)
